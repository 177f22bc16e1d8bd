-- The names of a map in the order of their bytes, and their rows.
use Rattle.cd_cache.proofs.ByName.{lookup_by_name, same_names, sorted_by_name, total}
use Rattle.cd_cache.proofs.Names.{itself}
use Rattle.cd_cache.specs.Cache.{name_order}
use Rattle.cd_cache.specs.Index.{AreNamesOf, by_name, found, has_name}
use Rattle.cd_cache.specs.Rows.{row_of}
use Rattle.cd_value.specs.Rows.{as_rows}
use Rattle.cd_cache.specs.declared.entry.CacheEntry.{CacheEntry}
use Rattle.std.proofs.Common.{Bool, Bor, List, Option, Some, [], ap, ap₂, cond, false, map, refl, sym, true, ℕ, ◌++◌, ◌∙◌, ◌∷◌, ◌≡◌}
use Rattle.std.proofs.lemmas.List.Elements.{All-contains_itself, All-head, All-tail, All-weaker}
use Rattle.std.proofs.lemmas.Map.Keys.{IsDistinct-from_sorted}
use Rattle.std.proofs.lemmas.Map.Made.{is_some-lookup}
use Rattle.std.proofs.lemmas.Map.Views.{All-from_any, lookup-from_Contains}
use Rattle.std.specs.BTreeMap.{is_at}
use Rattle.std.specs.BTreeSet.{insert_key}
use Rattle.std.specs.Cmp.{eq_by_cmp_equiv}
use Rattle.std.specs.List.Sorted.{IsStrictlySortedBy}
use Rattle.std.specs.List.{All, Contains}
use Rattle.std.specs.Map.{keys_of}
use Rattle.std.specs.Option.{IsSome, is_some, option_map_or}
use Rattle.std.specs.Ordering.{is_eq, match_ordering}
use Rattle.std.specs.Prelude.{◌||◌}
use Rattle.std.specs.Set.{remove_key}
use Rattle.std.specs.declared.cmp.Ordering.TheVariants.{Equal, Greater, Less}

abbrev Pairs : Type 0
Pairs = List (List ℕ × CacheEntry)

-- names in order that are exactly those of a map
pub names_in_order : (entries : Pairs) (names : List (List ℕ)) → AreNamesOf entries names → IsStrictlySortedBy name_order names → names ≡ keys_of (by_name entries)
names_in_order entries names named sorted =
    same_names names (keys_of (by_name entries)) sorted (sorted_by_name entries)
    (λ q. named q ∙ ap is_some (sym (lookup_by_name q entries)) ∙ is_some-lookup (is_at (name_order q)) (by_name entries))

-- each of them has an entry
pub all_found : (entries : Pairs) (names : List (List ℕ)) → AreNamesOf entries names → All (λ (name : List ℕ). IsSome (found entries name)) names
all_found entries names named = All-from_any (eq_by_cmp_equiv total) (λ (name : List ℕ). IsSome (found entries name)) names (λ q had. sym (named q) ∙ had)

-- the row of a name
abbrev pub row_at : Pairs → List ℕ → ℕ × List ℕ
row_at entries name = (option_map_or (λ (entry : CacheEntry). entry.list.time) (found entries name) 0, name)

pub row_found : (entries : Pairs) (name : List ℕ) (entry : CacheEntry) → found entries name ≡ Some entry → (entry.list.time, name) ≡ row_at entries name
row_found entries name entry there = ap (λ (o : Option CacheEntry). (option_map_or (λ (e : CacheEntry). e.list.time) o 0, name)) (sym there)

rows_by : (f : List ℕ → ℕ × List ℕ) (pairs : Pairs) → All (λ (pair : List ℕ × CacheEntry). f pair.0 ≡ row_of pair) pairs → map f (keys_of pairs) ≡ map row_of pairs
rows_by f [] all = refl
rows_by f (pair ∷ pairs) all =
    ap₂ (λ (row : ℕ × List ℕ) (rows : List (ℕ × List ℕ)). row ∷ rows) (All-head (λ (p : List ℕ × CacheEntry). f p.0 ≡ row_of p) pair pairs all) (rows_by f pairs (All-tail (λ (p : List ℕ × CacheEntry). f p.0 ≡ row_of p) pair pairs all))

-- the rows of the names in order are those of the pairs
pub rows_in_order : (entries : Pairs) → map (row_at entries) (keys_of (by_name entries)) ≡ map row_of (by_name entries)
rows_in_order entries =
    rows_by (row_at entries) (by_name entries)
    (All-weaker (Contains (by_name entries)) (λ (pair : List ℕ × CacheEntry). row_at entries pair.0 ≡ row_of pair)
    (λ pair among. sym (row_found entries pair.0 pair.1 (sym (lookup_by_name pair.0 entries)
    ∙ lookup-from_Contains (eq_by_cmp_equiv total) pair.0 pair.1 (by_name entries) (IsDistinct-from_sorted name_order (keys_of (by_name entries)) (sorted_by_name entries)) among)))
    (by_name entries) (All-contains_itself (by_name entries)))

-- one more row
pub one_more : (f : List ℕ → ℕ × List ℕ) (rows : List (ℕ × Bor (List ℕ))) (row : ℕ × Bor (List ℕ)) (names : List (List ℕ)) → (row.0, row.1.now) ≡ f row.1.now
    → as_rows (rows ++ row ∷ []) ++ map f names ≡ as_rows rows ++ map f (row.1.now ∷ names)
one_more f [] row names is = ap (λ (r : ℕ × List ℕ). r ∷ map f names) is
one_more f (first ∷ rows) row names is = ap (λ (rs : List (ℕ × List ℕ)). (first.0, first.1.now) ∷ rs) (one_more f rows row names is)

-- a name that wasn't there, put in and taken out again
pub put_and_out : (name : List ℕ) (names : List (List ℕ)) → has_name names name ≡ false → remove_key (is_at (name_order name)) (insert_key name_order names name) ≡ names
put_and_out name [] absent = ap (λ (b : Bool). cond b [] (name ∷ [])) (itself name)
put_and_out name (first ∷ names) absent =
    elim (name_order name first) as (λ r. name_order name first ≡ r
    → remove_key (is_at (name_order name)) (match_ordering r (name ∷ first ∷ names) (first ∷ names) (first ∷ insert_key name_order names name)) ≡ first ∷ names) [
      | Less ↦ λ _. ap (λ (b : Bool). cond b (first ∷ names) (name ∷ remove_key (is_at (name_order name)) (first ∷ names))) (itself name)
      | Equal ↦ λ same. absurd (there (is_at (name_order name) first) (ap is_eq same) absent)
      | Greater ↦ λ above.
          let off : is_at (name_order name) first ≡ false = ap is_eq above in
          ap (λ (b : Bool). cond b (insert_key name_order names name) (first ∷ remove_key (is_at (name_order name)) (insert_key name_order names name))) off
          ∙ ap (λ (rest : List (List ℕ)). first ∷ rest) (put_and_out name names (sym (ap (λ (b : Bool). b || has_name names name) off) ∙ absent))
    ] refl
  where
    there : (b : Bool) → b ≡ true → (b || has_name names name) ≡ false → ⊥
    there true h k = absurd (cc)
    there false h k = absurd (cc)
