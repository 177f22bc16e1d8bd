-- The body of the cache: a map in no order, and beside it its names in two orders, by the moment from which on they
-- count as missing and by their bytes.
use Rattle.cd_cache.specs.Cache.{is_old, name_order, renewed}
use Rattle.cd_cache.specs.Lost.{expiry}
use Rattle.cd_cache.specs.declared.entry.CacheEntry.{CacheEntry}
use Rattle.cd_cache.specs.declared.entry.Updated.TheVariants.{Old, Stored}
use Rattle.cd_cache.specs.declared.entry.Updated.{Updated}
use Rattle.cd_value.specs.declared.data.DataSet.{DataSet}
use Rattle.cd_value.specs.declared.data.ValueList.{ValueList}
use Rattle.std.specs.BTreeMap.{insert_entry, is_at}
use Rattle.std.specs.List.{list_any}
use Rattle.std.specs.Map.{lookup}
use Rattle.std.specs.Option.{is_some, option_map_or}
use Rattle.std.specs.Ordering.{nat_cmp, ordering_then}
use Rattle.std.specs.Prelude.{Bool, List, Option, Some, [], false, filter, if◌then◌else◌, map, nat_le, ℕ, ◌&&◌, ◌==◌, ◌∷◌, ◌≡◌}
use Rattle.std.specs.Str.{bytes_eq}
use Rattle.std.specs.declared.cmp.Ordering.{Ordering}

-- the pairs of a map in the order of the names' bytes
abbrev pub by_name : List (List ℕ × CacheEntry) → List (List ℕ × CacheEntry)
by_name [] = []
by_name (pair ∷ entries) = insert_entry name_order (by_name entries) pair.0 pair.1

-- the entry of a name in a map in no order
abbrev pub found : List (List ℕ × CacheEntry) → List ℕ → Option CacheEntry
found entries name = lookup (bytes_eq name) entries

-- a moment, and then a name
abbrev pub pair_order : ℕ × List ℕ → ℕ × List ℕ → Ordering
pair_order a b = ordering_then (nat_cmp a.0 b.0) (name_order a.1 b.1)

abbrev pub is_same : ℕ × List ℕ → ℕ × List ℕ → Bool
is_same a b = (a.0 == b.0) && bytes_eq a.1 b.1

-- an index has the pair
abbrev pub has : List (ℕ × List ℕ) → ℕ × List ℕ → Bool
has index pair = list_any (is_at (pair_order pair)) index

-- an entry, where there is one, counts as missing from this moment on
abbrev pub expires_at : ℕ → ℕ → Option CacheEntry → Bool
expires_at timeout at entry = option_map_or (λ (e : CacheEntry). expiry timeout e == at) entry false

-- an index has exactly one pair for each name of a map: the name with the moment of its entry
abbrev pub IsIndexOf : ℕ → List (List ℕ × CacheEntry) → List (ℕ × List ℕ) → Type 0
IsIndexOf timeout entries index =
    (at : ℕ) (name : List ℕ) → has index (at, name) ≡ expires_at timeout at (found entries name)

-- a name is among names
abbrev pub has_name : List (List ℕ) → List ℕ → Bool
has_name names name = list_any (is_at (name_order name)) names

-- names are exactly those of a map
abbrev pub AreNamesOf : List (List ℕ × CacheEntry) → List (List ℕ) → Type 0
AreNamesOf entries names = (name : List ℕ) → has_name names name ≡ is_some (found entries name)

-- the names of a cache, each once: in pairs with their moments, in this order, and in the order of their bytes
pub record Orders : Type 0 where
  pub pairs : List (ℕ × List ℕ)
  pub names : List (List ℕ)

-- they are those of a map, with its moments
pub record AreOrdersOf (timeout : ℕ) (entries : List (List ℕ × CacheEntry)) (orders : Orders) : Type 0 where
  pub indexed : IsIndexOf timeout entries orders.pairs
  pub named : AreNamesOf entries orders.names

-- the pairs of an index whose moment has come
abbrev pub due : ℕ → List (ℕ × List ℕ) → List (ℕ × List ℕ)
due now index = filter (λ pair. nat_le pair.0 now) index

-- the names of pairs
abbrev pub names_in : List (ℕ × List ℕ) → List (List ℕ)
names_in index = map (λ (pair : ℕ × List ℕ). pair.1) index

-- what becomes of a list whose name has an entry, and of that entry
abbrev pub outcome_at : Option CacheEntry → ValueList → Updated
outcome_at before list = if is_old before list then Old else Stored

abbrev pub kept : DataSet → CacheEntry → ValueList → ℕ → CacheEntry
kept set before list now =
    if is_old (Some before) list then before else renewed set (Some before) list now
