-- The rows so far with those of the names that are left, each of which has an entry.
use Rattle.cd_cache.proofs.Listing.{row_at}
use Rattle.cd_cache.proofs.cache.Cache.listed.Given as goal
use Rattle.cd_cache.specs.Index.{found}
use Rattle.cd_value.specs.Rows.{as_rows}
use Rattle.std.proofs.Common.{List, map, ℕ, ◌++◌, ◌≡◌}
use Rattle.std.specs.List.{All}
use Rattle.std.specs.Option.{IsSome}

abbrev pub invariant-loop-name : goal.invariant-loop-name
invariant-loop-name l = record {
  rows : as_rows l.rows.items ++ map (row_at l.self-inside.entries.entries) l.name-iterator ≡ map (row_at l.self-inside.entries.entries) l.initial.name-iterator;
  there : All (λ (name : List ℕ). IsSome (found l.self-inside.entries.entries name)) l.name-iterator;
}
