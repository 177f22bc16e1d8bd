use Rattle.std.proofs.Common.{◌≡◌, map, take}
use Rattle.cd_chain.specs.Tables.{name_at}
use Rattle.cd_chain.proofs.accept.names_at.Given as goal

abbrev pub invariant-loop-n : goal.invariant-loop-n
invariant-loop-n l = l.names ≡ map (name_at l.chains) (take l.n-index l.walk)
