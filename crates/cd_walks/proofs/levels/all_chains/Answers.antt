use Rattle.std.proofs.Common.{arith}
use Rattle.cd_walks.proofs.Stepping.{all_true}
use Rattle.cd_walks.proofs.levels.all_chains.Goals as goal

pub returns : goal.returns
returns c = all_true c.args.jumps.now c.loop-n.deep.items (omega arith) (λ k below. c.loop-n.invariant.at k (omega arith))
