use Rattle.std.proofs.Common.{arith}
use Rattle.cd_walks.proofs.Stepping.{first}
use Rattle.cd_walks.proofs.levels.first_level.Goals as goal

pub returns : goal.returns
returns c = first c.args.jumps.now c.args.to c.loop-chain.level.items c.requires (omega arith) (λ k below. c.loop-chain.invariant.at k (omega arith))
