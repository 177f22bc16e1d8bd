-- A regex match as contracts see it.
use Rattle.cd_pattern.specs.declared.field.Field.{Field}
use Rattle.std.specs.Prelude.{Bool, List, ℕ}

-- the fields with the texts of their patterns, and whether the match is inverted
pub record Sought : Type 0 where
  pub patterns : List (Field × List ℕ)
  pub invert : Bool
