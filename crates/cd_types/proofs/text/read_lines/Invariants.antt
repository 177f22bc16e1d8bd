-- The sets so far, and those of the lines that are left.
use Rattle.cd_types.proofs.TextRuns.{sets_left}
use Rattle.cd_types.proofs.text.read_lines.Given as goal
use Rattle.std.proofs.Common.{[], ◌≡◌}

abbrev pub invariant-loop-i : goal.invariant-loop-i
invariant-loop-i l = sets_left l.db l.lines l.i ≡ sets_left [] l.lines 0
