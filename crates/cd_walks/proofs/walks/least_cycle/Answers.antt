use Rattle.std.proofs.Common.{◌∙◌, length, is_some, ap, sym}
use Rattle.cd_walks.specs.Walks.{items_of, round}
use Rattle.cd_walks.proofs.Stepping.{went_on}
use Rattle.cd_walks.proofs.walks.least_cycle.Goals as goal

pub loop-chain-preserved : goal.loop-chain-preserved
loop-chain-preserved c =
    went_on (λ a. is_some (round (items_of c.args.jumps.now) a)) c.loop-chain.chain (length c.args.jumps.now) c.loop-chain-test.true (ap is_some (sym c.in_ok-count.ensures ∙ c.in_default.is))
    ∙ c.loop-chain.invariant
