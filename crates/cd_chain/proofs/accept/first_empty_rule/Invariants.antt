use Rattle.std.proofs.Common.{◌≡◌, drop}
use Rattle.cd_chain.specs.Tables.{first_fault, empty_rule}
use Rattle.cd_chain.proofs.accept.first_empty_rule.Given as goal

abbrev pub invariant-loop-n : goal.invariant-loop-n
invariant-loop-n l = first_fault (empty_rule) l.n (drop l.n l.chains) ≡ first_fault (empty_rule) 0 l.chains
