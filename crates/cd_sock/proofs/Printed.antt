-- Replies, printed line by line.
use Rattle.cd_sock.specs.Replies.{flushed_line, row_line, values_found, with_newline}
use Rattle.cd_value.specs.Rows.{as_rows}
use Rattle.std.proofs.Common.{Bool, Bor, List, [], ap, ap₂, append_assoc, cond, length, sym, ℕ, ◌++◌, ◌∙◌, ◌∷◌, ◌≡◌}
use Rattle.std.proofs.lemmas.Bool.{eq-eqb, ne_eqb}
use Rattle.std.proofs.lemmas.List.Folds.{flat_map-map}
use Rattle.std.proofs.lemmas.List.{length-map}
use Rattle.std.specs.Fmt.{decimal}
use Rattle.std.specs.List.{flat_map}
use Rattle.std.specs.Prelude.{codes}

-- the first line of one value, and of another number of values
pub one_value : (n : ℕ) → n ≡ 1 → decimal n ++ codes " Value found\n" ≡ values_found n
one_value n e =
    sym (append_assoc (decimal n) (codes " Value found") (10 ∷ []))
    ∙ ap (λ (b : Bool). with_newline (decimal n ++ cond b (codes " Value found") (codes " Values found"))) (sym (eq-eqb n 1 e))

pub other_values : (n : ℕ) → (n ≡ 1 → ⊥) → decimal n ++ codes " Values found\n" ≡ values_found n
other_values n e =
    sym (append_assoc (decimal n) (codes " Values found") (10 ∷ []))
    ∙ ap (λ (b : Bool). with_newline (decimal n ++ cond b (codes " Value found") (codes " Values found"))) (sym (ne_eqb n 1 e))

-- the reply with the numbers of flushes
pub flushes : (successful errors : ℕ) → codes "0 Done: " ++ (decimal successful ++ (codes " successful, " ++ (decimal errors ++ codes " errors\n"))) ≡ flushed_line successful errors
flushes successful errors =
    let before : List ℕ = codes "0 Done: " ++ decimal successful ++ codes " successful, " in
    sym (append_assoc (before ++ decimal errors) (codes " errors") (10 ∷ []) ∙ append_assoc before (decimal errors) (codes " errors\n")
    ∙ append_assoc (codes "0 Done: " ++ decimal successful) (codes " successful, ") (decimal errors ++ codes " errors\n")
    ∙ append_assoc (codes "0 Done: ") (decimal successful) (codes " successful, " ++ (decimal errors ++ codes " errors\n")))

-- rows that are given by reference
pub rows_shown : (rows : List (ℕ × Bor (List ℕ))) → values_found (length rows) ++ flat_map (λ (row : ℕ × Bor (List ℕ)). row_line (row.0, row.1.now)) rows ≡ values_found (length (as_rows rows)) ++ flat_map row_line (as_rows rows)
rows_shown rows =
    ap₂ (λ (n : ℕ) (body : List ℕ). values_found n ++ body) (sym (length-map rows (λ (row : ℕ × Bor (List ℕ)). (row.0, row.1.now))))
    (sym (flat_map-map row_line (λ (row : ℕ × Bor (List ℕ)). (row.0, row.1.now)) rows))
