use Rattle.cd_sock.proofs.reply.print_rows.Given as goal
use Rattle.cd_sock.specs.Replies.{row_line, values_found}
use Rattle.std.proofs.Common.{Bor, List, length, string_bytes, take, ℕ, ◌++◌, ◌≡◌}
use Rattle.std.specs.List.{flat_map}

abbrev pub invariant-loop-row : goal.invariant-loop-row
invariant-loop-row l = string_bytes l.text ≡ values_found (length l.rows) ++ flat_map (λ (row : ℕ × Bor (List ℕ)). row_line (row.0, row.1.now)) (take l.row-index l.rows)
