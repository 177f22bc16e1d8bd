-- What is noted of the texts that a pattern was looked for in.
use Rattle.cd_pattern.specs.Patterns.{is_found_in}
use Rattle.cd_pattern.specs.declared.seen.Seen.{Seen}
use Rattle.std.specs.Prelude.{All, IfSome, List, Option, ℕ, ◌≡◌}

-- the answer in a slot is that of its text; an empty slot says nothing
abbrev pub IsRight : List ℕ → Option Seen → Type 0
IsRight pattern slot = IfSome slot (λ seen. seen.is_found ≡ is_found_in pattern seen.text)

abbrev pub AreRight : List ℕ → List (Option Seen) → Type 0
AreRight pattern slots = All (IsRight pattern) slots
