use Rattle.std.proofs.Common.{◌≡◌, map, min, take}
use Rattle.cd_chain.specs.Chains.{chain_weight}
use Rattle.cd_chain.specs.Weights.{looked_up}
use Rattle.cd_chain.proofs.weigh.deeper.Given as goal

abbrev pub invariant-loop-number : goal.invariant-loop-number
invariant-loop-number l = l.new.items ≡ map (λ chain. min 4097 (chain_weight (looked_up l.chains l.weights) chain)) (take l.number l.chains)
