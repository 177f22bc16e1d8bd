-- The sets so far, and those that are left.
use Rattle.cd_types.proofs.types_db.TypesDb.put_all.Given as goal
use Rattle.cd_types.specs.Sets.{with_sets}
use Rattle.std.proofs.Common.{◌≡◌}

abbrev pub invariant-loop-set : goal.invariant-loop-set
invariant-loop-set l = with_sets l.set-iterator l.self ≡ with_sets l.other l.fn.self
