-- Rows of times and names.
use Rattle.std.specs.Prelude.{List, map, ℕ}
use denote.Ref.{Bor}

-- the rows whose names are given by reference
abbrev pub as_rows : List (ℕ × Bor (List ℕ)) → List (ℕ × List ℕ)
as_rows rows = map (λ row. (row.0, row.1.now)) rows
