-- Readers in the order of their numbers, and the place of a number among them.
use Rattle.cd_sched.specs.declared.reader.Reader.{Reader}
use Rattle.std.specs.Prelude.{List, [], if◌then◌else◌, nat_lt, suc, zero, ℕ, ◌<◌, ◌∷◌}

-- a number is below those of all readers
abbrev pub IsBelow : ℕ → List (ℕ × Reader) → Type 0
IsBelow number [] = Unit {0}
IsBelow number (pair ∷ readers) = (number < pair.0) × IsBelow number readers

-- each number is below those behind it
abbrev pub IsAscending : List (ℕ × Reader) → Type 0
IsAscending [] = Unit {0}
IsAscending (pair ∷ readers) = IsBelow pair.0 readers × IsAscending readers

-- how many numbers at the front are lower
abbrev pub place_of : ℕ → List (ℕ × Reader) → ℕ
place_of number [] = zero
place_of number (pair ∷ readers) = if nat_lt pair.0 number then suc (place_of number readers) else zero
