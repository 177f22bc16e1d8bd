-- The value cache: a finite map from names to entries.
use Rattle.cd_cache.specs.Rates.{rates_against}
use Rattle.cd_cache.specs.declared.entry.CacheEntry.{CacheEntry}
use Rattle.cd_cache.specs.declared.entry.Updated.TheVariants.{Old, Stored}
use Rattle.cd_cache.specs.declared.entry.Updated.{Updated}
use Rattle.cd_value.specs.Identifier.{name_of}
use Rattle.cd_value.specs.declared.data.DataSet.{DataSet}
use Rattle.cd_value.specs.declared.data.Rate.{Rate}
use Rattle.cd_value.specs.declared.data.ValueList.{ValueList}
use Rattle.std.specs.BTreeMap.{insert_entry, is_at}
use Rattle.std.specs.Cmp.Lexicographic.{slice_cmp}
use Rattle.std.specs.Map.{lookup, remove_entry}
use Rattle.std.specs.Option.{option_map}
use Rattle.std.specs.Ordering.{nat_cmp}
use Rattle.std.specs.Prelude.{Bool, List, None, Option, Some, [], false, if◌then◌else◌, nat_le, ℕ, ◌≡◌, ◌≢◌}
use Rattle.std.specs.declared.cmp.Ordering.{Ordering}

-- a cache as contracts see it: the timeout, and the map, as its pairs of a name and an entry in the
-- order of the names' bytes, each name once
pub record CacheMap : Type 0 where
  pub timeout : ℕ
  pub entries : List (List ℕ × CacheEntry)

abbrev pub name_order : List ℕ → List ℕ → Ordering
name_order = slice_cmp nat_cmp

abbrev pub empty : ℕ → CacheMap
empty timeout = record { timeout = timeout; entries = [] }

-- the entry of a name
abbrev pub cached : List ℕ → CacheMap → Option CacheEntry
cached name cache = lookup (is_at (name_order name)) cache.entries

-- the rates under a name
abbrev pub cached_rates : CacheMap → List ℕ → Option (List Rate)
cached_rates cache name = option_map (λ (entry : CacheEntry). entry.rates) (cached name cache)

-- the cache with an entry under a name
abbrev pub with_entry : List ℕ → CacheEntry → CacheMap → CacheMap
with_entry name entry cache =
    record cache { entries = insert_entry name_order cache.entries name entry }

-- the cache without a name
abbrev pub without : List ℕ → CacheMap → CacheMap
without name cache =
    record cache { entries = remove_entry (is_at (name_order name)) cache.entries }

-- each other name has the entry that it had
abbrev pub KeepsOthers : List ℕ → CacheMap → CacheMap → Type 0
KeepsOthers name old new = (other : List ℕ) → other ≢ name → cached other new ≡ cached other old

-- the cached list isn't older than the new one
abbrev pub is_old : Option CacheEntry → ValueList → Bool
is_old None list = false
is_old (Some before) list = nat_le list.time before.list.time

-- what a list makes of the entry of its name
abbrev pub renewed : DataSet → Option CacheEntry → ValueList → ℕ → CacheEntry
renewed set before list now =
    record { list = list; rates = rates_against set before list; arrival = now }

-- the entry that a list makes which isn't old
abbrev pub entry_of : DataSet → ValueList → ℕ → CacheMap → CacheEntry
entry_of set list now cache = renewed set (cached (name_of list.id) cache) list now

-- what becomes of a list
abbrev pub outcome : ValueList → CacheMap → Updated
outcome list cache = if is_old (cached (name_of list.id) cache) list then Old else Stored

-- the cache after a list: an old one leaves it
abbrev pub updated : DataSet → ValueList → ℕ → CacheMap → CacheMap
updated set list now cache =
    if is_old (cached (name_of list.id) cache) list then cache
    else with_entry (name_of list.id) (entry_of set list now cache) cache

-- the rates that a list would have in the cache: none where it is old
abbrev pub preview_of : DataSet → ValueList → CacheMap → Option (List Rate)
preview_of set list cache =
    if is_old (cached (name_of list.id) cache) list then None
    else Some (rates_against set (cached (name_of list.id) cache) list)
