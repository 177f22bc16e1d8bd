use Rattle.std.proofs.Common.{◌≡◌}
use Rattle.cd_chain.specs.Chains.{run_numbered}
use Rattle.cd_chain.specs.Frames.{meaning, steps_to_go}
use Rattle.cd_match.specs.Matches.{Scene}
use Rattle.cd_chain.proofs.evaluate.run_on.Given as goal

abbrev pub invariant-loop-evaluation : goal.invariant-loop-evaluation
invariant-loop-evaluation g l =
    let scene : Scene = record { set = l.set; rates = g.V.RateView.rates_at l.view; now = l.now } in
    record {
      same : l.chains ≡ l.fn.chains;
      given : l.evaluation.given.now ≡ l.list;
      means : meaning scene l.fn.chains l.evaluation ≡ run_numbered scene l.fn.chains l.chain l.list;
    }

abbrev pub decreases-loop-evaluation : goal.decreases-loop-evaluation
decreases-loop-evaluation g l = steps_to_go l.fn.chains l.evaluation
