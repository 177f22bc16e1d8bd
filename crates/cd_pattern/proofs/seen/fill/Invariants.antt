-- The slots so far are as right as they were.
use Rattle.cd_pattern.proofs.seen.fill.Given as goal
use Rattle.cd_pattern.specs.Seen.{AreRight}
use Rattle.std.proofs.Common.{List, ℕ}

abbrev pub invariant-loop : goal.invariant-loop
invariant-loop l = (pattern : List ℕ) → AreRight pattern l.initial.slots.items → AreRight pattern l.slots.items
