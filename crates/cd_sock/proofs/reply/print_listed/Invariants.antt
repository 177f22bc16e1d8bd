-- The rows so far show those that they refer to.
use Rattle.cd_sock.proofs.reply.print_listed.Given as goal
use Rattle.cd_value.specs.Rows.{as_rows}
use Rattle.std.proofs.Common.{take, ◌≡◌}

abbrev pub invariant-loop-row : goal.invariant-loop-row
invariant-loop-row l = as_rows l.listed.items ≡ take l.row-index l.rows
