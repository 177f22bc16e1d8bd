-- A count of faults or of quiets over two calls, one after another.
use Rattle.cd_io.specs.Causes.{Rose}
use Rattle.std.proofs.Common.{arith, ℕ, ◌≤◌}

-- a count that rose in the first call, and didn't fall in the second, rose over both
pub rose_later : (before mid now : ℕ) → Rose before mid → mid ≤ now → Rose before now
rose_later before mid now rose later = omega arith

-- a count that didn't fall in the first call, and rose in the second, rose over both
pub later_rose : (before mid now : ℕ) → before ≤ mid → Rose mid now → Rose before now
later_rose before mid now later rose = omega arith
