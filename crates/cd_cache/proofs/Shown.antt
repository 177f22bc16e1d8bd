-- Names that a set in order holds by reference.
use Rattle.cd_cache.specs.Cache.{name_order}
use Rattle.cd_cache.specs.Index.{has_name}
use Rattle.std.proofs.Common.{Bor, Bool, List, [], ap, false, map, refl, sym, true, ℕ, ◌∙◌, ◌∷◌, ◌≡◌}
use Rattle.std.proofs.lemmas.Map.Lookups.{exact_bytes}
use Rattle.std.specs.BTreeMap.{is_at}
use Rattle.std.specs.BTreeSet.{insert_key}
use Rattle.std.specs.List.Sorted.{IsStrictlySortedBy}
use Rattle.std.specs.List.{AllByRecursion}
use Rattle.std.specs.Map.Iter.{deref}
use Rattle.std.specs.Ordering.{match_ordering}
use Rattle.std.specs.Prelude.{◌||◌}
use Rattle.std.specs.declared.cmp.Ordering.TheVariants.{Equal, Greater, Less}

-- a name that is put by reference
pub shown_key : (names : List (Bor (List ℕ))) (name : Bor (List ℕ)) → map (deref {X = List ℕ}) (insert_key (λ x y. name_order x.now y.now) names name) ≡ insert_key name_order (map deref names) name.now
shown_key [] name = refl
shown_key (first ∷ names) name =
    elim (name_order name.now first.now) as (λ r. map (deref {X = List ℕ}) (match_ordering r (name ∷ first ∷ names) (first ∷ names) (first ∷ insert_key (λ (x y : Bor (List ℕ)). name_order x.now y.now) names name))
    ≡ match_ordering r (name.now ∷ first.now ∷ map deref names) (first.now ∷ map deref names) (first.now ∷ insert_key name_order (map deref names) name.now)) [
      | Less ↦ refl
      | Equal ↦ refl
      | Greater ↦ ap (λ (rest : List (List ℕ)). first.now ∷ rest) (shown_key names name)
    ]

or_twice : (a b : Bool) → (a || b) ≡ (a || (a || b))
or_twice true b = refl
or_twice false b = refl

or_swap : (a b c : Bool) → (a || (b || c)) ≡ (b || (a || c))
or_swap true true c = refl
or_swap true false c = refl
or_swap false true c = refl
or_swap false false c = refl

pub or_move : (a b c : Bool) → ((a || b) || c) ≡ (b || (a || c))
or_move true true c = refl
or_move true false c = refl
or_move false true c = refl
or_move false false c = refl

pub or_false : (a : Bool) → (a || false) ≡ a
or_false true = refl
or_false false = refl

-- the names with one more
pub has_put : (name q : List ℕ) (names : List (List ℕ)) → has_name (insert_key name_order names name) q ≡ (is_at (name_order q) name || has_name names q)
has_put name q [] = refl
has_put name q (first ∷ names) =
    elim (name_order name first) as (λ r. name_order name first ≡ r
    → has_name (match_ordering r (name ∷ first ∷ names) (first ∷ names) (first ∷ insert_key name_order names name)) q ≡ (is_at (name_order q) name || (is_at (name_order q) first || has_name names q))) [
      | Less ↦ λ _. refl
      | Equal ↦ λ same.
          or_twice (is_at (name_order q) first) (has_name names q)
          ∙ ap (λ (n : List ℕ). is_at (name_order q) n || (is_at (name_order q) first || has_name names q)) (sym (exact_bytes name first same))
      | Greater ↦ λ _.
          ap (λ (b : Bool). is_at (name_order q) first || b) (has_put name q names)
          ∙ or_swap (is_at (name_order q) first) (is_at (name_order q) name) (has_name names q)
    ] refl

all_shown : (name : List ℕ) (names : List (Bor (List ℕ))) → AllByRecursion (λ (other : Bor (List ℕ)). name_order name other.now ≡ Less) names → AllByRecursion (λ (other : List ℕ). name_order name other ≡ Less) (map deref names)
all_shown name [] all = tt
all_shown name (other ∷ names) all = (all.0, all_shown name names all.1)

-- the names ascend as the references do
pub sorted_shown : (names : List (Bor (List ℕ))) → IsStrictlySortedBy (λ (x y : Bor (List ℕ)). name_order x.now y.now) names → IsStrictlySortedBy name_order (map deref names)
unfolding IsStrictlySortedBy
sorted_shown [] sorted = tt
sorted_shown (name ∷ names) sorted = (all_shown name.now names sorted.0, sorted_shown names sorted.1)
