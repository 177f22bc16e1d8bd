-- The lines so far, and those of the sets that are left.
use Rattle.cd_types.proofs.types_db.TypesDb.print.Given as goal
use Rattle.cd_types.specs.Printed.{sets_text}
use Rattle.std.proofs.Common.{◌++◌, ◌≡◌}

abbrev pub invariant-loop-set : goal.invariant-loop-set
invariant-loop-set l = l.out ++ sets_text l.set-iterator ≡ sets_text l.self
