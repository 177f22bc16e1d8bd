-- The rows of the cache: the time and the name of each entry, in the order of the names' bytes.
use Rattle.cd_cache.specs.Cache.{CacheMap}
use Rattle.cd_cache.specs.declared.entry.CacheEntry.{CacheEntry}
use Rattle.std.specs.Prelude.{List, map, ℕ}

abbrev pub row_of : List ℕ × CacheEntry → ℕ × List ℕ
row_of pair = (pair.1.list.time, pair.0)

abbrev pub names_of : List (ℕ × List ℕ) → List (List ℕ)
names_of rows = map (λ row. row.1) rows

abbrev pub rows_of : CacheMap → List (ℕ × List ℕ)
rows_of cache = map row_of cache.entries
