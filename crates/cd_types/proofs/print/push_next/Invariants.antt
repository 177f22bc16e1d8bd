-- The entries so far.
use Rattle.cd_types.proofs.print.push_next.Given as goal
use Rattle.cd_types.specs.Printed.{next_text}
use Rattle.std.proofs.Common.{take, ◌++◌, ◌≡◌}
use Rattle.std.specs.List.{flat_map}

abbrev pub invariant-loop-source : goal.invariant-loop-source
invariant-loop-source l = l.out ≡ l.fn.out ++ flat_map next_text (take l.source-index l.sources)
