-- The rates of a value list against what is cached under its name.
use Rattle.cd_cache.specs.declared.entry.CacheEntry.{CacheEntry}
use Rattle.cd_value.specs.Rates.{rate_of}
use Rattle.cd_value.specs.declared.data.DataSet.{DataSet}
use Rattle.cd_value.specs.declared.data.DataSource.{DataSource}
use Rattle.cd_value.specs.declared.data.Rate.{Rate}
use Rattle.cd_value.specs.declared.data.Value.{Value}
use Rattle.cd_value.specs.declared.data.ValueList.{ValueList}
use Rattle.std.specs.List.{zip}
use Rattle.std.specs.Prelude.{List, None, Option, Some, map, ℕ, ◌-◌}

-- the rates of values that have none before them
abbrev pub first_rates : List DataSource → List Value → List Rate
first_rates sources values = map (λ pair. rate_of pair.0 None pair.1 0) (zip sources values)

-- the rates of values against those that came dt earlier
abbrev pub later_rates : List DataSource → List Value → List Value → ℕ → List Rate
later_rates sources old new dt =
    map (λ one. rate_of one.0 (Some one.1.0) one.1.1 dt) (zip sources (zip old new))

-- the rates of a list against what was cached under its name
abbrev pub rates_against : DataSet → Option CacheEntry → ValueList → List Rate
rates_against set None list = first_rates set.sources list.values
rates_against set (Some before) list =
    later_rates set.sources before.list.values list.values (list.time - before.list.time)
