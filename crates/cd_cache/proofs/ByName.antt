-- A map in no order, as its pairs in the order of the names.
use Rattle.cd_cache.proofs.Names.{itself}
use Rattle.cd_cache.proofs.Updates.{lookup-insert_other, lookup-insert_same}
use Rattle.cd_cache.specs.Cache.{CacheMap, name_order, with_entry, without}
use Rattle.cd_cache.specs.Index.{by_name, found}
use Rattle.cd_cache.specs.declared.entry.CacheEntry.{CacheEntry}
use Rattle.std.proofs.Common.{Bool, List, None, Option, Some, [], ap, ap₂, cond, false, refl, subst, sym, true, ℕ, ◌∙◌, ◌∷◌, ◌≡◌, ◌≢◌}
use Rattle.std.proofs.lemmas.Bool.{false_from_ne_true}
use Rattle.std.proofs.lemmas.Map.Entries.{none_below_head, none_past_head}
use Rattle.std.proofs.lemmas.Map.Keys.{IsDistinct-from_sorted}
use Rattle.std.proofs.lemmas.Map.Lookups.{btree_set_from_contains, exact_bytes}
use Rattle.std.proofs.lemmas.Map.Text.{is_eq-slice_cmp}
use Rattle.std.proofs.lemmas.Map.{lookup-none, lookup-remove_entry}
use Rattle.std.proofs.lemmas.Slice.Eq.{bytes_eq-Decides}
use Rattle.std.specs.BTreeMap.{insert_entry, is_at}
use Rattle.std.specs.Cmp.Lexicographic.{nat_list_cmp_total, nat_list_eq_equiv}
use Rattle.std.specs.Cmp.{IsTotalOrder, eq_by_cmp_equiv}
use Rattle.std.specs.List.Sorted.{IsStrictlySortedBy}
use Rattle.std.specs.List.{AllByRecursion, list_any}
use Rattle.std.specs.Map.{keys_of, lookup, remove_entry}
use Rattle.std.specs.Option.{unwrap_or}
use Rattle.std.specs.Ordering.{is_eq, match_ordering, ordering_reverse}
use Rattle.std.specs.Str.{bytes_eq}
use Rattle.std.specs.declared.cmp.Ordering.TheVariants.{Equal, Greater, Less}

-- pairs of a name and an entry
abbrev Pairs : Type 0
Pairs = List (List ℕ × CacheEntry)

pub total : IsTotalOrder name_order
total = nat_list_cmp_total

pub all_then : (P Q : List ℕ → Type 0) (names : List (List ℕ)) → ((name : List ℕ) → P name → Q name) → AllByRecursion P names → AllByRecursion Q names
all_then P Q [] f all = all
all_then P Q (name ∷ names) f all = (f name all.0, all_then P Q names f all.1)

all_put : (P : List ℕ → Type 0) (name : List ℕ) (entry : CacheEntry) (entries : Pairs) → P name → AllByRecursion P (keys_of entries) → AllByRecursion P (keys_of (insert_entry name_order entries name entry))
all_put P name entry [] p all = (p, tt)
all_put P name entry (pair ∷ entries) p all =
    elim (name_order name pair.0) as (λ r. AllByRecursion P (keys_of (match_ordering r ((name, entry) ∷ pair ∷ entries) ((pair.0, entry) ∷ entries) (pair ∷ insert_entry name_order entries name entry)))) [
      | Less ↦ (p, all)
      | Equal ↦ all
      | Greater ↦ (all.0, all_put P name entry entries p all.1)
    ]

-- an entry that is put keeps the order
pub sorted_put : (name : List ℕ) (entry : CacheEntry) (entries : Pairs) → IsStrictlySortedBy name_order (keys_of entries) → IsStrictlySortedBy name_order (keys_of (insert_entry name_order entries name entry))
unfolding IsStrictlySortedBy
sorted_put name entry [] sorted = (tt, tt)
sorted_put name entry (pair ∷ entries) sorted =
    elim (name_order name pair.0) as (λ r. name_order name pair.0 ≡ r → IsStrictlySortedBy name_order (keys_of (match_ordering r ((name, entry) ∷ pair ∷ entries) ((pair.0, entry) ∷ entries) (pair ∷ insert_entry name_order entries name entry)))) [
      | Less ↦ λ less. ((less, all_then _ _ (keys_of entries) (λ other above. total.trans name pair.0 other less above) sorted.0), sorted)
      | Equal ↦ λ _. sorted
      | Greater ↦ λ above. (all_put (λ other. name_order pair.0 other ≡ Less) name entry entries (total.antisymm pair.0 name ∙ ap ordering_reverse above) sorted.0, sorted_put name entry entries sorted.1)
    ] refl

all_without : (P : List ℕ → Type 0) (test : List ℕ → Bool) (entries : Pairs) → AllByRecursion P (keys_of entries) → AllByRecursion P (keys_of (remove_entry test entries))
all_without P test [] all = all
all_without P test (pair ∷ entries) all =
    elim (test pair.0) as (λ b. AllByRecursion P (keys_of (cond b entries (pair ∷ remove_entry test entries)))) [
      | true ↦ all.1
      | false ↦ (all.0, all_without P test entries all.1)
    ]

sorted_without : (test : List ℕ → Bool) (entries : Pairs) → IsStrictlySortedBy name_order (keys_of entries) → IsStrictlySortedBy name_order (keys_of (remove_entry test entries))
unfolding IsStrictlySortedBy
sorted_without test [] sorted = sorted
sorted_without test (pair ∷ entries) sorted =
    elim (test pair.0) as (λ b. IsStrictlySortedBy name_order (keys_of (cond b entries (pair ∷ remove_entry test entries)))) [
      | true ↦ sorted.1
      | false ↦ (all_without _ test entries sorted.0, sorted_without test entries sorted.1)
    ]

pub sorted_by_name : (entries : Pairs) → IsStrictlySortedBy name_order (keys_of (by_name entries))
unfolding IsStrictlySortedBy
sorted_by_name [] = tt
sorted_by_name (pair ∷ entries) = sorted_put pair.0 pair.1 (by_name entries) (sorted_by_name entries)

-- an entry that is put, and each other
pub lookup_put : (name q : List ℕ) (entry : CacheEntry) (entries : Pairs)
    → lookup (is_at (name_order q)) (insert_entry name_order entries name entry) ≡ cond (bytes_eq name q) (Some entry) (lookup (is_at (name_order q)) entries)
lookup_put name q entry entries =
    elim (bytes_eq name q) as (λ b. bytes_eq name q ≡ b → lookup (is_at (name_order q)) (insert_entry name_order entries name entry) ≡ cond b (Some entry) (lookup (is_at (name_order q)) entries)) [
      | true ↦ λ same. subst (λ r. lookup (is_at (name_order r)) (insert_entry name_order entries name entry) ≡ Some entry) ((bytes_eq-Decides name q).0 same) (lookup-insert_same name entry entries)
      | false ↦ λ differ. lookup-insert_other name q entry entries (λ same. let both : false ≡ true = sym differ ∙ (bytes_eq-Decides name q).1 (sym same) in absurd (cc))
    ] refl

-- the order of a map doesn't matter to a look-up
pub lookup_by_name : (q : List ℕ) (entries : Pairs) → lookup (is_at (name_order q)) (by_name entries) ≡ found entries q
lookup_by_name q [] = refl
lookup_by_name q (pair ∷ entries) =
    lookup_put pair.0 q pair.1 (by_name entries)
    ∙ ap (cond (bytes_eq pair.0 q) (Some pair.1)) (lookup_by_name q entries)
    ∙ ap (λ b. cond b (Some pair.1) (found entries q)) (nat_list_eq_equiv.symm pair.0 q)

-- a name below the first has no entry, and the first has none behind it
below_first : (q : List ℕ) (pair : List ℕ × CacheEntry) (entries : Pairs) → IsStrictlySortedBy name_order (keys_of (pair ∷ entries)) → name_order q pair.0 ≡ Less → lookup (is_at (name_order q)) (pair ∷ entries) ≡ None
below_first q pair entries sorted less = lookup-none (is_at (name_order q)) (pair ∷ entries) (none_below_head total q pair entries sorted less)

past_first : (q : List ℕ) (pair : List ℕ × CacheEntry) (entries : Pairs) → IsStrictlySortedBy name_order (keys_of (pair ∷ entries)) → is_at (name_order q) pair.0 ≡ true → lookup (is_at (name_order q)) entries ≡ None
past_first q pair entries sorted at =
    lookup-none (is_at (name_order q)) entries (none_past_head (eq_by_cmp_equiv total) q pair entries (IsDistinct-from_sorted name_order (keys_of (pair ∷ entries)) sorted) at)

first_found : (pair : List ℕ × CacheEntry) (entries : Pairs) → lookup (is_at (name_order pair.0)) (pair ∷ entries) ≡ Some pair.1
first_found pair entries = ap (λ b. cond b (Some pair.1) (lookup (is_at (name_order pair.0)) entries)) (itself pair.0)

not_none : (entry : CacheEntry) (o : Option CacheEntry) → o ≡ Some entry → o ≡ None → ⊥
not_none entry o one two = absurd (cc)

-- pairs in order are the same where each name has the same entry
pub same_pairs : (some others : Pairs) → IsStrictlySortedBy name_order (keys_of some) → IsStrictlySortedBy name_order (keys_of others)
    → ((q : List ℕ) → lookup (is_at (name_order q)) some ≡ lookup (is_at (name_order q)) others) → some ≡ others
unfolding IsStrictlySortedBy
same_pairs [] [] one two same = refl
same_pairs [] (other ∷ others) one two same = absurd (not_none other.1 _ (same other.0 ∙ first_found other others) refl)
same_pairs (pair ∷ some) [] one two same = absurd (not_none pair.1 _ (sym (same pair.0) ∙ first_found pair some) refl)
same_pairs (pair ∷ some) (other ∷ others) one two same =
    elim (name_order pair.0 other.0) as (λ r. name_order pair.0 other.0 ≡ r → pair ∷ some ≡ other ∷ others) [
      | Less ↦ λ less. absurd (not_none pair.1 _ (sym (same pair.0) ∙ first_found pair some) (below_first pair.0 other others two less))
      | Equal ↦ λ equal.
          let name : pair.0 ≡ other.0 = exact_bytes pair.0 other.0 equal in
          let at : is_at (name_order pair.0) other.0 ≡ true = ap is_eq equal in
          let entry : Some pair.1 ≡ Some other.1 = sym (first_found pair some) ∙ same pair.0 ∙ ap (λ b. cond b (Some other.1) (lookup (is_at (name_order pair.0)) others)) at in
          ap₂ (λ (p : List ℕ × CacheEntry) (ps : Pairs). p ∷ ps) (ap₂ (λ (n : List ℕ) (e : CacheEntry). (n, e)) name (ap (λ (o : Option CacheEntry). unwrap_or o pair.1) entry)) (same_pairs some others one.1 two.1 (rest name))
      | Greater ↦ λ greater. absurd (not_none other.1 _ (same other.0 ∙ first_found other others) (below_first other.0 pair some one (total.antisymm other.0 pair.0 ∙ ap ordering_reverse greater)))
    ] refl
  where
    rest : pair.0 ≡ other.0 → (q : List ℕ) → lookup (is_at (name_order q)) some ≡ lookup (is_at (name_order q)) others
    rest name q = elim (is_at (name_order q) pair.0) as (λ b. is_at (name_order q) pair.0 ≡ b → lookup (is_at (name_order q)) some ≡ lookup (is_at (name_order q)) others) [
      | true ↦ λ at. past_first q pair some one at ∙ sym (past_first q other others two (sym (ap (is_at (name_order q)) name) ∙ at))
      | false ↦ λ off.
          sym (ap (λ b. cond b (Some pair.1) (lookup (is_at (name_order q)) some)) off)
          ∙ same q
          ∙ ap (λ b. cond b (Some other.1) (lookup (is_at (name_order q)) others)) (sym (ap (is_at (name_order q)) name) ∙ off)
    ] refl

-- and so are names where each is in both
pub same_names : (some others : List (List ℕ)) → IsStrictlySortedBy name_order some → IsStrictlySortedBy name_order others
    → ((q : List ℕ) → list_any (is_at (name_order q)) some ≡ list_any (is_at (name_order q)) others) → some ≡ others
same_names some others one two same = btree_set_from_contains total (record { keys = some }) (record { keys = others }) one two same exact_bytes

-- a map in which an entry was put
pub by_name_put : (old new : Pairs) (name : List ℕ) (entry : CacheEntry) → ((q : List ℕ) → found new q ≡ cond (bytes_eq name q) (Some entry) (found old q))
    → by_name new ≡ insert_entry name_order (by_name old) name entry
by_name_put old new name entry put =
    same_pairs (by_name new) (insert_entry name_order (by_name old) name entry) (sorted_by_name new) (sorted_put name entry (by_name old) (sorted_by_name old))
    (λ q. lookup_by_name q new ∙ put q ∙ ap (cond (bytes_eq name q) (Some entry)) (sym (lookup_by_name q old)) ∙ sym (lookup_put name q entry (by_name old)))

-- a map out of which a name was taken
pub by_name_without : (old new : Pairs) (name : List ℕ) → ((q : List ℕ) → found new q ≡ cond (bytes_eq name q) None (found old q))
    → by_name new ≡ remove_entry (is_at (name_order name)) (by_name old)
by_name_without old new name out =
    same_pairs (by_name new) (remove_entry (is_at (name_order name)) (by_name old)) (sorted_by_name new) (sorted_without (is_at (name_order name)) (by_name old) (sorted_by_name old))
    (λ q. lookup_by_name q new ∙ out q ∙ ap (cond (bytes_eq name q) None) (sym (lookup_by_name q old)) ∙ sym (left q))
  where
    at_is : (q : List ℕ) → is_at (name_order name) q ≡ bytes_eq name q
    at_is q = is_eq-slice_cmp name q

    left : (q : List ℕ) → lookup (is_at (name_order q)) (remove_entry (is_at (name_order name)) (by_name old)) ≡ cond (bytes_eq name q) None (lookup (is_at (name_order q)) (by_name old))
    left q = lookup-remove_entry (eq_by_cmp_equiv total) (is_at (name_order name)) (λ x y at. (eq_by_cmp_equiv total).congr name x y at) q (by_name old) (IsDistinct-from_sorted name_order (keys_of (by_name old)) (sorted_by_name old))
        ∙ ap (λ b. cond b None (lookup (is_at (name_order q)) (by_name old))) (at_is q)

-- a cache of pairs in no order
abbrev pub cache_of : ℕ → Pairs → CacheMap
cache_of timeout entries = record { timeout = timeout; entries = by_name entries }

pub cache_without : (timeout : ℕ) (old new : Pairs) (name : List ℕ) → ((q : List ℕ) → found new q ≡ cond (bytes_eq name q) None (found old q))
    → cache_of timeout new ≡ without name (cache_of timeout old)
cache_without timeout old new name out = ap (λ (entries : Pairs). record (cache_of timeout old) { entries = entries }) (by_name_without old new name out)

pub cache_with : (timeout : ℕ) (old new : Pairs) (name : List ℕ) (entry : CacheEntry) → ((q : List ℕ) → found new q ≡ cond (bytes_eq name q) (Some entry) (found old q))
    → cache_of timeout new ≡ with_entry name entry (cache_of timeout old)
cache_with timeout old new name entry put = ap (λ (entries : Pairs). record (cache_of timeout old) { entries = entries }) (by_name_put old new name entry put)

pub other_name : (name other : List ℕ) → other ≢ name → bytes_eq name other ≡ false
other_name name other differ = false_from_ne_true (bytes_eq name other) (λ same. differ (sym ((bytes_eq-Decides name other).0 same)))
