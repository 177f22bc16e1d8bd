-- Which patterns a regex match takes, and which is the first bad one.
use Rattle.cd_match.specs.declared.compiled.BadPattern.TheVariants.{At, Memory}
use Rattle.cd_match.specs.declared.compiled.BadPattern.{BadPattern}
use Rattle.cd_pattern.specs.Patterns.{is_pattern}
use Rattle.cd_pattern.specs.declared.field.Field.{Field}
use Rattle.std.specs.List.{list_all}
use Rattle.std.specs.Prelude.{Bool, IsTrue, List, length, take, ℕ, ◌<◌, ◌≡◌}

-- each text is a pattern
abbrev pub are_patterns : List (Field × List ℕ) → Bool
are_patterns patterns = list_all (λ pair. is_pattern pair.1) patterns

-- a bad pattern is told by its number; want of memory may always come
abbrev pub IsCauseAt : ℕ → BadPattern → Type 0
IsCauseAt number (At i) = i ≡ number
IsCauseAt number Memory = Unit {0}

-- the number of the first pattern that `regex` refuses: those before it are patterns
abbrev pub IsFirstBad : List (Field × List ℕ) → BadPattern → Type 0
IsFirstBad patterns (At i) = (i < length patterns) × IsTrue (are_patterns (take i patterns))
IsFirstBad patterns Memory = Unit {0}
