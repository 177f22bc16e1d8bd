-- A position in a text.
use Rattle.std.specs.Prelude.{List, ℕ}

-- a line, and the characters that follow from a place in it on
pub record Position : Type 0 where
  pub line : ℕ
  pub rest : List ℕ

abbrev pub at : ℕ → List ℕ → Position
at line rest = record { line = line; rest = rest }
