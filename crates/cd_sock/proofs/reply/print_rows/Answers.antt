-- All rows are printed, and each of the names is one line.
use Rattle.cd_sock.proofs.Frames.{rows_framed}
use Rattle.cd_sock.proofs.Printed.{rows_shown}
use Rattle.cd_sock.proofs.reply.print_rows.Goals as goal
use Rattle.cd_sock.specs.Framing.{IsFramed}
use Rattle.cd_sock.specs.Replies.{row_line, values_found}
use Rattle.cd_value.specs.Rows.{as_rows}
use Rattle.std.proofs.Common.{Bor, List, ap, length, subst, sym, ℕ, ◌++◌, ◌<◌, ◌^◌, ◌∙◌}
use Rattle.std.proofs.lemmas.List.{length-map, take_all}
use Rattle.std.specs.List.{flat_map}

pub returns-clause-text : goal.returns-clause-text
returns-clause-text c =
    let rows = c.args.rows.now in
    c.from_string.ensures
    ∙ c.loop-row.invariant
    ∙ ap (λ (rs : List (ℕ × Bor (List ℕ))). values_found (length rows) ++ flat_map (λ (row : ℕ × Bor (List ℕ)). row_line (row.0, row.1.now)) rs) (take_all c.loop-row.row-index rows c.loop-row-test.false)
    ∙ rows_shown rows

pub returns-clause-framed : goal.returns-clause-framed
returns-clause-framed c = λ plain.
    let rows = c.args.rows.now in
    let few : length (as_rows rows) < 2 ^ 64 = subst (λ (n : ℕ). n < 2 ^ 64) (sym (length-map rows (λ (row : ℕ × Bor (List ℕ)). (row.0, row.1.now)))) c.print_count.ensures.few in
    subst (λ (text : List ℕ). IsFramed text) (sym (returns-clause-text c)) (rows_framed (as_rows rows) few plain)
