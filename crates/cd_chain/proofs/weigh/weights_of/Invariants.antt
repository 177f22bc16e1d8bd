use Rattle.cd_chain.specs.Weights.{AreWeights}
use Rattle.cd_chain.proofs.weigh.weights_of.Given as goal

abbrev pub invariant-loop-i : goal.invariant-loop-i
invariant-loop-i l = AreWeights l.chains l._i l.weights.items
