-- The rates that are seen ahead are those that are cached once the list is stored.
use Rattle.cd_cache.proofs.ByName.{lookup_put}
use Rattle.cd_cache.specs.Cache.{CacheMap, cached, cached_rates, entry_of, is_old, preview_of, updated, with_entry}
use Rattle.cd_cache.specs.Rates.{rates_against}
use Rattle.cd_cache.specs.declared.entry.CacheEntry.{CacheEntry}
use Rattle.cd_core.specs.Ahead.{rates_ahead}
use Rattle.cd_value.specs.Identifier.{name_of}
use Rattle.cd_value.specs.declared.data.DataSet.{DataSet}
use Rattle.cd_value.specs.declared.data.Rate.{Rate}
use Rattle.cd_value.specs.declared.data.ValueList.{ValueList}
use Rattle.std.proofs.Common.{Bool, List, None, Option, Some, ap, cond, false, refl, sym, true, ℕ, ◌∙◌, ◌≡◌}
use Rattle.std.specs.Option.{option_map}
use Rattle.std.specs.Str.{bytes_eq}

abbrev rates_of : Option CacheEntry → Option (List Rate)
rates_of o = option_map (λ (entry : CacheEntry). entry.rates) o

with_one : (name other : List ℕ) (entry : CacheEntry) (cache : CacheMap) → rates_ahead cache name (Some entry.rates) other ≡ cached_rates (with_entry name entry cache) other
with_one name other entry cache = by (bytes_eq name other) ∙ ap rates_of (sym (lookup_put name other entry cache.entries))
  where
    by : (b : Bool) → cond b (Some entry.rates) (cached_rates cache other) ≡ rates_of (cond b (Some entry) (cached other cache))
    by true = refl
    by false = refl

pub seen_ahead : (set : DataSet) (list : ValueList) (now : ℕ) (cache : CacheMap) (name : List ℕ) (rates : Option (List Rate)) → name ≡ name_of list.id → rates ≡ preview_of set list cache
    → rates_ahead cache name rates ≡ cached_rates (updated set list now cache)
seen_ahead set list now cache name rates named previewed =
    ap (λ (n : List ℕ). rates_ahead cache n rates) named
    ∙ ap (rates_ahead cache (name_of list.id)) previewed
    ∙ (λ i. λ other. by (is_old (cached (name_of list.id) cache) list) other i)
  where
    by : (b : Bool) (other : List ℕ)
        → rates_ahead cache (name_of list.id) (cond b None (Some (rates_against set (cached (name_of list.id) cache) list))) other
        ≡ cached_rates (cond b cache (with_entry (name_of list.id) (entry_of set list now cache) cache)) other
    by true other = refl
    by false other = with_one (name_of list.id) other (entry_of set list now cache) cache
