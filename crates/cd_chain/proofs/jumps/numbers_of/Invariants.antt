use Rattle.std.proofs.Common.{◌≡◌, map, take}
use Rattle.std.specs.List.{filter_map}
use Rattle.cd_chain.specs.Chains.{number_of}
use Rattle.cd_chain.proofs.jumps.numbers_of.Given as goal

abbrev pub invariant-loop-name : goal.invariant-loop-name
invariant-loop-name l = l.numbers.items ≡ filter_map (λ name. number_of name l.chains) (take l.name-index (map (λ name. name.now) l.names))
