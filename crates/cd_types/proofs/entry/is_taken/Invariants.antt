-- None of the entries so far has the name.
use Rattle.cd_types.proofs.entry.is_taken.Given as goal
use Rattle.cd_types.specs.Entry.{is_taken}
use Rattle.std.proofs.Common.{false, map, take, ◌≡◌}

abbrev pub invariant-loop-entry : goal.invariant-loop-entry
invariant-loop-entry l = is_taken (map (λ entry. entry.now) (take l.entry-index l.earlier)) l.name ≡ false
