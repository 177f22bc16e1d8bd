-- The names whose lists stopped coming, as in collectd.conf(5), Timeout.
use Rattle.cd_cache.specs.Cache.{CacheMap}
use Rattle.cd_cache.specs.declared.entry.CacheEntry.{CacheEntry}
use Rattle.std.specs.Prelude.{Bool, List, filter, map, nat_le, ℕ, ◌*◌, ◌+◌}

-- when an entry counts as missing: `timeout` of its intervals after it came, in unbounded numbers
abbrev pub expiry : ℕ → CacheEntry → ℕ
expiry timeout entry = entry.arrival + timeout * entry.list.interval

-- whether an entry counts as missing at a moment
abbrev pub is_lost : ℕ → ℕ → CacheEntry → Bool
is_lost timeout now entry = nat_le (expiry timeout entry) now

-- the names among pairs whose entries count as missing, in the order of the pairs
abbrev pub lost_among : ℕ → ℕ → List (List ℕ × CacheEntry) → List (List ℕ)
lost_among timeout now entries =
    map (λ pair. pair.0) (filter (λ pair. is_lost timeout now pair.1) entries)

-- the names that are lost at a moment, in the order of their bytes
abbrev pub lost_of : ℕ → CacheMap → List (List ℕ)
lost_of now cache = lost_among cache.timeout now cache.entries
