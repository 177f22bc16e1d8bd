-- What stands under a name after a list, and that the other names stay.
use Rattle.cd_cache.proofs.Names.{apart, itself}
use Rattle.cd_cache.specs.Cache.{CacheMap, KeepsOthers, cached, entry_of, is_old, name_order, outcome, renewed, updated, with_entry}
use Rattle.cd_cache.specs.declared.entry.CacheEntry.{CacheEntry}
use Rattle.cd_cache.specs.declared.entry.Updated.TheVariants.{Old, Stored}
use Rattle.cd_value.specs.Identifier.{name_of}
use Rattle.cd_value.specs.declared.data.DataSet.{DataSet}
use Rattle.cd_value.specs.declared.data.ValueList.{ValueList}
use Rattle.std.proofs.Common.{List, None, Some, [], ap, cond, false, refl, sym, true, ℕ, ◌∙◌, ◌∷◌, ◌≡◌, ◌≢◌}
use Rattle.std.proofs.lemmas.Map.Lookups.{exact_bytes}
use Rattle.std.specs.BTreeMap.{insert_entry, is_at}
use Rattle.std.specs.Map.{lookup}
use Rattle.std.specs.Ordering.{is_eq, match_ordering}
use Rattle.std.specs.declared.cmp.Ordering.TheVariants.{Equal, Greater, Less}

-- an entry that is put leaves the others
pub lookup-insert_other : (name other : List ℕ) (entry : CacheEntry) (entries : List (List ℕ × CacheEntry)) → other ≢ name
    → lookup (is_at (name_order other)) (insert_entry name_order entries name entry) ≡ lookup (is_at (name_order other)) entries
lookup-insert_other name other entry [] differ =
    ap (λ b. cond b (Some entry) None) (apart other name (λ e. differ (sym e)))
lookup-insert_other name other entry (pair ∷ entries) differ =
    let rest = lookup (is_at (name_order other)) entries in
    let missed : is_at (name_order other) name ≡ false = apart other name (λ e. differ (sym e)) in
    elim (name_order name pair.0) as (λ r. name_order name pair.0 ≡ r
    → lookup (is_at (name_order other)) (match_ordering r ((name, entry) ∷ pair ∷ entries) ((pair.0, entry) ∷ entries) (pair ∷ insert_entry name_order entries name entry))
    ≡ cond (is_at (name_order other) pair.0) (Some pair.1) rest) [
      | Less ↦ λ _. ap (λ b. cond b (Some entry) (cond (is_at (name_order other) pair.0) (Some pair.1) rest)) missed
      | Equal ↦ λ e.
          let here : is_at (name_order other) pair.0 ≡ false = ap (is_at (name_order other)) (sym (exact_bytes name pair.0 e)) ∙ missed in
          ap (λ b. cond b (Some entry) rest) here ∙ sym (ap (λ b. cond b (Some pair.1) rest) here)
      | Greater ↦ λ _. ap (cond (is_at (name_order other) pair.0) (Some pair.1)) (lookup-insert_other name other entry entries differ)
    ] refl

pub others-with_entry : (name : List ℕ) (entry : CacheEntry) (cache : CacheMap) → KeepsOthers name cache (with_entry name entry cache)
others-with_entry name entry cache other differ = lookup-insert_other name other entry cache.entries differ

-- a cache after a list leaves the others
pub others_after : (set : DataSet) (list : ValueList) (now : ℕ) (old new : CacheMap) → new ≡ updated set list now old → KeepsOthers (name_of list.id) old new
others_after set list now old new is other differ =
    ap (cached other) is
    ∙ elim (is_old (cached (name_of list.id) old) list) as (λ b. cached other (cond b old (with_entry (name_of list.id) (entry_of set list now old) old)) ≡ cached other old) [
      | true ↦ refl
      | false ↦ others-with_entry (name_of list.id) (entry_of set list now old) old other differ
    ]

-- a list that isn't old renews the entry of its name
pub updated-fresh : (set : DataSet) (list : ValueList) (now : ℕ) (cache : CacheMap) (before entry : CacheEntry)
    → cached (name_of list.id) cache ≡ Some before → is_old (Some before) list ≡ false → entry ≡ renewed set (Some before) list now
    → with_entry (name_of list.id) entry cache ≡ updated set list now cache
updated-fresh set list now cache before entry there fresh same =
    let old : is_old (cached (name_of list.id) cache) list ≡ false = ap (λ o. is_old o list) there ∙ fresh in
    let made : entry ≡ entry_of set list now cache = same ∙ ap (λ o. renewed set o list now) (sym there) in
    ap (λ e. with_entry (name_of list.id) e cache) made
    ∙ sym (ap (λ b. cond b cache (with_entry (name_of list.id) (entry_of set list now cache) cache)) old)

-- the entry that is put stands under its name
pub lookup-insert_same : (name : List ℕ) (entry : CacheEntry) (entries : List (List ℕ × CacheEntry))
    → lookup (is_at (name_order name)) (insert_entry name_order entries name entry) ≡ Some entry
lookup-insert_same name entry [] = ap (λ b. cond b (Some entry) None) (itself name)
lookup-insert_same name entry (pair ∷ entries) =
    elim (name_order name pair.0) as (λ r. name_order name pair.0 ≡ r
    → lookup (is_at (name_order name)) (match_ordering r ((name, entry) ∷ pair ∷ entries) ((pair.0, entry) ∷ entries) (pair ∷ insert_entry name_order entries name entry)) ≡ Some entry) [
      | Less ↦ λ _. ap (λ b. cond b (Some entry) (cond (is_at (name_order name) pair.0) (Some pair.1) (lookup (is_at (name_order name)) entries))) (itself name)
      | Equal ↦ λ e. ap (λ r. cond (is_eq r) (Some entry) (lookup (is_at (name_order name)) entries)) e
      | Greater ↦ λ e. ap (λ r. cond (is_eq r) (Some pair.1) (lookup (is_at (name_order name)) (insert_entry name_order entries name entry))) e ∙ lookup-insert_same name entry entries
    ] refl

-- and has the list's entry under its name, where it is stored
pub stands_after : (set : DataSet) (list : ValueList) (now : ℕ) (old new : CacheMap) → new ≡ updated set list now old → outcome list old ≡ Stored
    → cached (name_of list.id) new ≡ Some (entry_of set list now old)
stands_after set list now old new is stored =
    let made : CacheEntry = entry_of set list now old in
    ap (cached (name_of list.id)) is
    ∙ elim (is_old (cached (name_of list.id) old) list) as (λ b. cond b Old Stored ≡ Stored → cached (name_of list.id) (cond b old (with_entry (name_of list.id) made old)) ≡ Some made) [
      | true ↦ λ e. absurd (cc)
      | false ↦ λ _. lookup-insert_same (name_of list.id) made old.entries
    ] stored
