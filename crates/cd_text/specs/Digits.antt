-- Runs of decimal digits, and where a text is cut.
use Rattle.std.specs.Char.{is_ascii_digit}
use Rattle.std.specs.List.{list_all}
use Rattle.std.specs.Prelude.{Bool, List, None, Option, Some, drop, ℕ, ◌+◌, ◌==◌}

abbrev pub are_digits : List ℕ → Bool
are_digits ds = list_all is_ascii_digit ds

abbrev pub is_dot : ℕ → Bool
is_dot b = b == 46

-- what follows a place
abbrev pub after_place : List ℕ → Option ℕ → Option (List ℕ)
after_place t None = None
after_place t (Some i) = Some (drop (i + 1) t)
