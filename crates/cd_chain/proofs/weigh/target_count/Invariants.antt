use Rattle.std.proofs.Common.{◌≡◌, length, min, take}
use Rattle.std.specs.List.{flat_map}
use Rattle.cd_chain.proofs.weigh.target_count.Given as goal

abbrev pub invariant-loop-rule : goal.invariant-loop-rule
invariant-loop-rule l = l.count ≡ min 4097 (length (flat_map (λ rule. rule.targets) (take l.rule-index l.rule-items)))
