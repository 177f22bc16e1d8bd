-- The names so far with those that are due of the pairs that are left, and how many pairs were met.
use Rattle.cd_cache.proofs.index.Index.lost.Given as goal
use Rattle.cd_cache.specs.Index.{due, has_name, names_in, pair_order}
use Rattle.std.proofs.Common.{List, length, map, ℕ, ◌+◌, ◌≡◌}
use Rattle.std.specs.List.Sorted.{IsStrictlySortedBy}
use Rattle.std.specs.Map.Iter.{deref}
use Rattle.std.specs.Prelude.{◌||◌}

abbrev pub invariant-loop-pair : goal.invariant-loop-pair
invariant-loop-pair l = record {
  ordered : IsStrictlySortedBy pair_order l.pair-iterator;
  names : (q : List ℕ) → (has_name (map deref l.lost.keys) q || has_name (names_in (due l.now l.pair-iterator)) q) ≡ has_name (names_in (due l.now l.self.pairs)) q;
  found : l.looks + length (due l.now l.pair-iterator) ≡ length (due l.now l.self.pairs);
  met : l.looks + length l.pair-iterator ≡ length l.self.pairs;
}
