use Rattle.std.proofs.Common.{◌≡◌, drop}
use Rattle.cd_chain.specs.Tables.{first_fault, repeated}
use Rattle.cd_chain.proofs.accept.first_repeated.Given as goal

abbrev pub invariant-loop-n : goal.invariant-loop-n
invariant-loop-n l = first_fault (repeated l.chains) l.n (drop l.n l.chains) ≡ first_fault (repeated l.chains) 0 l.chains
