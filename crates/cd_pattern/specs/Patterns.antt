-- Which texts are patterns, and where a pattern is found: functions of its text alone.
use Rattle.regex.specs.Patterns.{Re, default_config, find_str, span}
use Rattle.regex_syntax.specs.Brackets.{Nested}
use Rattle.regex_syntax.specs.Grammar.{Names, read}
use Rattle.std.specs.Option.{option_map_or}
use Rattle.std.specs.Prelude.{Bool, IsCharBoundary, List, None, Option, Some, chars, false, is_some, length, nat_le, option_map, true, ℕ, ◌≡◌, ◌≤◌}

-- the expression that the grammar of `regex` reads in a text, with the names of its groups
abbrev pub reading_of : List ℕ → Option (Nested Re × Names)
reading_of text = read default_config (chars text)

-- the grammar reads the text, and nothing in it is nested too deep
unfoldable pub is_pattern : List ℕ → Bool
is_pattern text =
    option_map_or (λ (p : Nested Re × Names). nat_le p.0.depth default_config.nest_limit) (reading_of text) false

-- the places where the first match of an expression in a text begins and ends
abbrev pub first_of : Option (Nested Re × Names) → List ℕ → Option (ℕ × ℕ)
first_of None text = None
first_of (Some p) text = option_map span (find_str p.0.value text 0)

-- the same of the pattern that a text is
unfoldable pub first_found : List ℕ → List ℕ → Option (ℕ × ℕ)
first_found pattern text = first_of (reading_of pattern) text

-- the pattern is found somewhere in the text
abbrev pub is_found_in : List ℕ → List ℕ → Bool
is_found_in pattern text = is_some (first_found pattern text)

-- two places between which a text may be cut: they stand in order, and where characters begin or end
pub record IsPlaceIn (text : List ℕ) (place : ℕ × ℕ) : Type 0 where
  pub ordered : place.0 ≤ place.1
  pub inside : place.1 ≤ length text
  pub begins : IsCharBoundary text place.0
  pub ends : IsCharBoundary text place.1
