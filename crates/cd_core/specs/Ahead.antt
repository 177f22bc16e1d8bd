-- The rates in the cache as they will be: words of private contracts and of proofs. No public clause cites them.
use Rattle.cd_cache.specs.Cache.{CacheMap, cached_rates}
use Rattle.cd_value.specs.declared.data.Rate.{Rate}
use Rattle.std.specs.Prelude.{List, None, Option, Some, if◌then◌else◌, ℕ}
use Rattle.std.specs.Str.{bytes_eq}

-- the rates under each name, where those under one name change
abbrev pub rates_ahead : CacheMap → List ℕ → Option (List Rate) → List ℕ → Option (List Rate)
rates_ahead cache name None other = cached_rates cache other
rates_ahead cache name (Some rates) other = if bytes_eq name other then Some rates else cached_rates cache other
