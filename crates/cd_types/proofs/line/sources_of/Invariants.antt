-- The sources so far, and those of the entries that are left.
use Rattle.cd_reading.proofs.Verdicts.{from_place, with_front}
use Rattle.cd_types.proofs.line.sources_of.Given as goal
use Rattle.cd_types.specs.Entry.{source_behind}
use Rattle.cd_types.specs.Line.{sources_of}
use Rattle.std.proofs.Common.{map, ◌≡◌}

abbrev pub invariant-loop-i : goal.invariant-loop-i
invariant-loop-i l = with_front l.sources (from_place source_behind (map (λ entry. entry.now) l.entries) l.i) ≡ sources_of (map (λ entry. entry.now) l.entries)
