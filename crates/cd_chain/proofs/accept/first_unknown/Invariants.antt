use Rattle.std.proofs.Common.{◌≡◌, drop}
use Rattle.cd_chain.specs.Tables.{first_fault, unknown}
use Rattle.cd_chain.proofs.accept.first_unknown.Given as goal

abbrev pub invariant-loop-n : goal.invariant-loop-n
invariant-loop-n l = first_fault (unknown l.chains) l.n (drop l.n l.chains) ≡ first_fault (unknown l.chains) 0 l.chains
