-- The rows so far are those whose names were copied.
use Rattle.cd_cache.proofs.cache.Cache.rows.Given as goal
use Rattle.cd_value.specs.Rows.{as_rows}
use Rattle.std.proofs.Common.{take, ◌≡◌}

abbrev pub invariant-loop-row : goal.invariant-loop-row
invariant-loop-row l = l.rows.items ≡ as_rows (take l.row-index l.row-items)
