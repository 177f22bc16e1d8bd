-- When a call on an object of the outside may fail.
use Rattle.std.specs.Prelude.{Bool, false, min, true, ℕ, ◌+◌, ◌-◌, ◌^◌, ◌≡◌, ◌≤◌}

-- a count went up, or stands at the last number that 64 bits hold
abbrev pub Rose : ℕ → ℕ → Type 0
Rose before now = min (before + 1) (2 ^ 64 - 1) ≤ now

-- a count of the calls that failed, or were quiet: it rose in a call that is counted, and stands in one that isn't
abbrev pub Counts : Bool → ℕ → ℕ → Type 0
Counts true before now = (before ≤ now) × Rose before now
Counts false before now = now ≡ before
