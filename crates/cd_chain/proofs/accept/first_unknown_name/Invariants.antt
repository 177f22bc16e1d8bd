use Rattle.std.proofs.Common.{◌≡◌, map, drop, not, is_some}
use Rattle.std.specs.List.{find}
use Rattle.cd_chain.specs.Chains.{number_of}
use Rattle.cd_chain.proofs.accept.first_unknown_name.Given as goal

abbrev pub invariant-loop-name : goal.invariant-loop-name
invariant-loop-name l = find (λ name. not (is_some (number_of name l.chains))) (map (λ name. name.now) (drop l.name-index l.names)) ≡ find (λ name. not (is_some (number_of name l.chains))) (map (λ name. name.now) l.names)
