-- What a value list brings to the entry of its name.
use Rattle.cd_cache.specs.Cache.{renewed}
use Rattle.cd_cache.specs.declared.entry.CacheEntry.{CacheEntry}
use Rattle.cd_cache.specs.declared.renewal.Renewal.{Renewal}
use Rattle.cd_value.specs.declared.data.DataSet.{DataSet}
use Rattle.cd_value.specs.declared.data.ValueList.{ValueList}
use Rattle.std.specs.Option.{unwrap_or}
use Rattle.std.specs.Prelude.{None, Some, length, ℕ, ◌≡◌}

-- the entry that a list makes with what it brings
abbrev pub renewed_by : Renewal → ValueList → ℕ → CacheEntry → CacheEntry
renewed_by renewal list now before = record {
  list = record {
    id = unwrap_or renewal.id before.list.id;
    time = list.time;
    interval = list.interval;
    values = unwrap_or renewal.values list.values;
  };
  rates = renewal.rates;
  arrival = now;
}

-- at any moment that is the entry of the list
abbrev pub IsRenewal : Renewal → DataSet → CacheEntry → ValueList → Type 0
IsRenewal renewal set before list =
    (now : ℕ) → renewed_by renewal list now before ≡ renewed set (Some before) list now

-- where it brings no values, the entry has as many as the list
abbrev pub HasRoom : Renewal → CacheEntry → ValueList → Type 0
HasRoom renewal before list =
    renewal.values ≡ None → length before.list.values ≡ length list.values
