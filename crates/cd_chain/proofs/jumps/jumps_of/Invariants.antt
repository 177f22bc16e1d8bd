use Rattle.std.proofs.Common.{◌≡◌, map, take}
use Rattle.std.specs.List.{filter_map, flat_map}
use Rattle.cd_chain.specs.Tables.{jump_of}
use Rattle.cd_chain.proofs.jumps.jumps_of.Given as goal

abbrev pub invariant-loop-rule : goal.invariant-loop-rule
invariant-loop-rule l = map (λ name. name.now) l.names.items ≡ filter_map jump_of (flat_map (λ rule. rule.targets) (take l.rule-index l.rule-items))
