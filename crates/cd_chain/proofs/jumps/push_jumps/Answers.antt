use Rattle.std.proofs.Common.{map}
use Rattle.cd_chain.specs.Tables.{jump_of}
use Rattle.cd_chain.proofs.Jumping.{mapped_more}
use Rattle.cd_chain.proofs.jumps.push_jumps.Goals as goal

pub loop-target-preserved : goal.loop-target-preserved
loop-target-preserved c = mapped_more jump_of (map (λ name. name.now) c.args.names.now.items) (map (λ name. name.now) c.push_jump.new.names.items) (map (λ name. name.now) c.loop-target.names.items) c.args.targets.now c.loop-target.target-index c.target-item.result c.loop-target-test.true c.target-item.is c.loop-target.invariant c.in_ok-push_jump.ensures
