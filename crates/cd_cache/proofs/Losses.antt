-- The lost names ascend, as the names do.
use Rattle.cd_cache.specs.Cache.{name_order}
use Rattle.cd_cache.specs.Lost.{is_lost, lost_among}
use Rattle.cd_cache.specs.declared.entry.CacheEntry.{CacheEntry}
use Rattle.std.proofs.Common.{List, [], cond, false, map, true, ℕ, ◌∷◌}
use Rattle.std.specs.Prelude.{filter}
use Rattle.std.specs.List.Sorted.{IsStrictlySortedBy}
use Rattle.std.specs.List.{AllByRecursion}
use Rattle.std.specs.Map.{keys_of}

-- what holds of each name holds of the lost ones
all_lost : (P : List ℕ → Type 0) (timeout now : ℕ) (entries : List (List ℕ × CacheEntry))
    → AllByRecursion P (keys_of entries) → AllByRecursion P (lost_among timeout now entries)
all_lost P timeout now [] all = all
all_lost P timeout now (pair ∷ entries) all =
    elim (is_lost timeout now pair.1) as (λ b. AllByRecursion P (map (λ (p : List ℕ × CacheEntry). p.0) (cond b (pair ∷ filter (λ (p : List ℕ × CacheEntry). is_lost timeout now p.1) entries) (filter (λ (p : List ℕ × CacheEntry). is_lost timeout now p.1) entries)))) [
      | true ↦ (all.0, all_lost P timeout now entries all.1)
      | false ↦ all_lost P timeout now entries all.1
    ]

pub sorted_lost : (timeout now : ℕ) (entries : List (List ℕ × CacheEntry))
    → IsStrictlySortedBy name_order (keys_of entries) → IsStrictlySortedBy name_order (lost_among timeout now entries)
unfolding IsStrictlySortedBy
sorted_lost timeout now [] sorted = sorted
sorted_lost timeout now (pair ∷ entries) sorted =
    elim (is_lost timeout now pair.1) as (λ b. IsStrictlySortedBy name_order (map (λ (p : List ℕ × CacheEntry). p.0) (cond b (pair ∷ filter (λ (p : List ℕ × CacheEntry). is_lost timeout now p.1) entries) (filter (λ (p : List ℕ × CacheEntry). is_lost timeout now p.1) entries)))) [
      | true ↦ (all_lost _ timeout now entries sorted.0, sorted_lost timeout now entries sorted.1)
      | false ↦ sorted_lost timeout now entries sorted.1
    ]
