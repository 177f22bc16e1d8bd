-- Which plug-ins of a shelf are loaded, and that they can be registered.
use Rattle.cd_registry.specs.Faults.{is_reserved}
use Rattle.cd_registry.specs.declared.faults.TheConstants.{LIVE_LIMIT}
use Rattle.cd_registry.specs.declared.plug.PlugTells.{PlugTells}
use Rattle.cd_serve.proofs.Named.{AllDiffer, differ_both_ways}
use Rattle.cd_serve.specs.Shelf.{CanBeLoaded, names_on, on_shelf, shown}
use Rattle.cd_serve.specs.Started.{named_on}
use Rattle.cd_serve.specs.Working.Loading.{AreLoadable, names_of, plugs_loaded, plugs_of, with_blocks}
use Rattle.cd_serve.specs.declared.shelf.ShelvedOf.{ShelvedOf}
use Rattle.cd_serve.specs.declared.shelf.ShelvedProbeOf.{ShelvedProbeOf}
use Rattle.cd_settings.specs.declared.blocks.Block.{Block}
use Rattle.cd_transcript.specs.LineRuns.{OnShelf}
use Rattle.std.proofs.Common.{Bool, List, None, Option, Some, [], ap, append-nil, arith, cond, false, length, length-append, map, refl, subst, sym, true, ℕ, ◌++◌, ◌+◌, ◌∙◌, ◌∷◌, ◌≡◌, ◌≤◌, ◌||◌}
use Rattle.std.proofs.lemmas.List.{length-map}
use Rattle.std.proofs.lemmas.Slice.Eq.{bytes_eq-Decides}
use Rattle.std.specs.List.{IsDistinct, filter, flat_map, list_any}
use Rattle.std.specs.Str.{bytes_eq}

-- ---- the front of names

differs_front : (name : List ℕ) (xs ys : List (List ℕ)) → AllDiffer name (xs ++ ys) → AllDiffer name xs
differs_front name [] ys all = tt
differs_front name (x ∷ xs) ys all = (all.0, differs_front name xs ys all.1)

pub distinct_front : (xs ys : List (List ℕ)) → IsDistinct bytes_eq (xs ++ ys) → IsDistinct bytes_eq xs
unfolding IsDistinct
distinct_front [] ys all = tt
distinct_front (x ∷ xs) ys all = (differs_front x xs ys all.0, distinct_front xs ys all.1)

any_front : (test : List ℕ → Bool) (xs ys : List (List ℕ)) → list_any test (xs ++ ys) ≡ false → list_any test xs ≡ false
any_front test [] ys none = refl
any_front test (x ∷ xs) ys none = by (test x) (any_front test xs ys) none
  where
    by : (t : Bool) → (list_any test (xs ++ ys) ≡ false → list_any test xs ≡ false) → (t || list_any test (xs ++ ys)) ≡ false → (t || list_any test xs) ≡ false
    by false rest e = rest e
    by true rest e = e

any_both : (test : List ℕ → Bool) (xs ys : List (List ℕ)) → list_any test xs ≡ false → list_any test ys ≡ false → list_any test (xs ++ ys) ≡ false
any_both test [] ys a b = b
any_both test (x ∷ xs) ys a b = by (test x) (λ e. any_both test xs ys e b) a
  where
    by : (t : Bool) → (list_any test xs ≡ false → list_any test (xs ++ ys) ≡ false) → (t || list_any test xs) ≡ false → (t || list_any test (xs ++ ys)) ≡ false
    by false rest e = rest e
    by true rest e = e

names-append : (xs ys : List OnShelf) → names_of (xs ++ ys) ≡ names_of xs ++ names_of ys
names-append [] ys = refl
names-append (x ∷ xs) ys = ap (λ (ns : List (List ℕ)). x.name ∷ ns) (names-append xs ys)

-- ---- those of a name

module _ (test : List ℕ → Bool) where
  none_among : (shelf : List OnShelf) (name : List ℕ) → list_any test (names_of shelf) ≡ false → list_any test (names_of (named_on shelf name)) ≡ false
  none_among [] name none = refl
  none_among (p ∷ shelf) name none = by (none_among shelf name) (bytes_eq p.name name) (test p.name) refl none
    where
      by : (list_any test (names_of shelf) ≡ false → list_any test (names_of (named_on shelf name)) ≡ false) → (same t : Bool) → test p.name ≡ t → (t || list_any test (names_of shelf)) ≡ false → list_any test (names_of (cond same (p ∷ named_on shelf name) (named_on shelf name))) ≡ false
      by rest same true a e = absurd (cc)
      by rest true false a e = rw a (rest e)
      by rest false false a e = rest e

  none_loaded : (shelf : List OnShelf) (names : List (List ℕ)) → list_any test (names_of shelf) ≡ false → list_any test (names_of (flat_map (named_on shelf) names)) ≡ false
  none_loaded shelf [] none = refl
  none_loaded shelf (name ∷ names) none =
      ap (list_any test) (names-append (named_on shelf name) (flat_map (named_on shelf) names))
      ∙ any_both test (names_of (named_on shelf name)) (names_of (flat_map (named_on shelf) names)) (none_among shelf name none) (none_loaded shelf names none)

differs_both : (name : List ℕ) (xs ys : List OnShelf) → AllDiffer name (names_of xs) → AllDiffer name (names_of ys) → AllDiffer name (names_of (xs ++ ys))
differs_both name [] ys a b = b
differs_both name (x ∷ xs) ys a b = (a.0, differs_both name xs ys a.1 b)

-- a plug-in of one name hasn't another
others_differ : (shelf : List OnShelf) (name other : List ℕ) → bytes_eq name other ≡ false → AllDiffer name (names_of (named_on shelf other))
others_differ [] name other apart = tt
others_differ (p ∷ shelf) name other apart = by (others_differ shelf name other apart) (bytes_eq p.name other) refl
  where
    by : AllDiffer name (names_of (named_on shelf other)) → (same : Bool) → bytes_eq p.name other ≡ same → AllDiffer name (names_of (cond same (p ∷ named_on shelf other) (named_on shelf other)))
    by rest false e = rest
    by rest true e = (ap (bytes_eq name) ((bytes_eq-Decides p.name other).0 e) ∙ apart, rest)

all_differ : (shelf : List OnShelf) (name : List ℕ) (names : List (List ℕ)) → AllDiffer name names → AllDiffer name (names_of (flat_map (named_on shelf) names))
all_differ shelf name [] all = tt
all_differ shelf name (other ∷ names) all =
    differs_both name (named_on shelf other) (flat_map (named_on shelf) names) (others_differ shelf name other all.0) (all_differ shelf name names all.1)

none_on : (shelf : List OnShelf) (name : List ℕ) → AllDiffer name (names_of shelf) → named_on shelf name ≡ []
none_on [] name all = refl
none_on (p ∷ shelf) name all = rw (differ_both_ways name p.name all.0) (none_on shelf name all.1)

distinct_with : (shelf : List OnShelf) (name : List ℕ) (rest : List OnShelf) → IsDistinct bytes_eq (names_of shelf) → AllDiffer name (names_of rest)
    → IsDistinct bytes_eq (names_of rest) → IsDistinct bytes_eq (names_of (named_on shelf name ++ rest))
unfolding IsDistinct
distinct_with [] name rest differ apart more = more
distinct_with (p ∷ shelf) name rest differ apart more = by (distinct_with shelf name rest differ.1 apart more) (bytes_eq p.name name) refl
  where
    by : IsDistinct bytes_eq (names_of (named_on shelf name ++ rest)) → (same : Bool) → bytes_eq p.name name ≡ same → IsDistinct bytes_eq (names_of (cond same (p ∷ named_on shelf name) (named_on shelf name) ++ rest))
    by others false e = others
    by others true e =
        let is : p.name ≡ name = (bytes_eq-Decides p.name name).0 e in
        let A : List ℕ → Type 0 = λ n. AllDiffer n (names_of shelf) in
        let B : List ℕ → Type 0 = λ n. AllDiffer n (names_of rest) in
        let D : List OnShelf → Type 0 = λ xs. IsDistinct bytes_eq (names_of (p ∷ (xs ++ rest))) in
        subst D (sym (none_on shelf name (subst A is differ.0))) (subst B (sym is) apart, more)

distinct_loaded : (shelf : List OnShelf) (names : List (List ℕ)) → IsDistinct bytes_eq (names_of shelf) → IsDistinct bytes_eq names
    → IsDistinct bytes_eq (names_of (flat_map (named_on shelf) names))
unfolding IsDistinct
distinct_loaded shelf [] differ once = tt
distinct_loaded shelf (name ∷ names) differ once =
    distinct_with shelf name (flat_map (named_on shelf) names) differ (all_differ shelf name names once.0) (distinct_loaded shelf names differ once.1)

-- ---- no more are loaded than stand on the shelf

none_counted : (name : List ℕ) (names : List (List ℕ)) → AllDiffer name names → length (filter (bytes_eq name) names) ≡ 0
none_counted name [] all = refl
none_counted name (n ∷ names) all = rw all.0 (none_counted name names all.1)

counted_once : (name : List ℕ) (names : List (List ℕ)) → IsDistinct bytes_eq names → length (filter (bytes_eq name) names) ≤ 1
unfolding IsDistinct
counted_once name [] once = omega arith
counted_once name (n ∷ names) once = by (counted_once name names once.1) (bytes_eq name n) refl
  where
    by : length (filter (bytes_eq name) names) ≤ 1 → (same : Bool) → bytes_eq name n ≡ same → length (cond same (n ∷ filter (bytes_eq name) names) (filter (bytes_eq name) names)) ≤ 1
    by rest false e = rest
    by rest true e =
        let A : List ℕ → Type 0 = λ m. AllDiffer m names in
        let none = none_counted name names (subst A (sym ((bytes_eq-Decides name n).0 e)) once.0) in
        omega (arith, none)

one_more_place : (p : OnShelf) (shelf : List OnShelf) (names : List (List ℕ))
    → length (flat_map (named_on (p ∷ shelf)) names) ≡ length (filter (bytes_eq p.name) names) + length (flat_map (named_on shelf) names)
one_more_place p shelf [] = omega arith
one_more_place p shelf (n ∷ names) = by (bytes_eq p.name n) (one_more_place p shelf names)
  where
    by : (same : Bool) → length (flat_map (named_on (p ∷ shelf)) names) ≡ length (filter (bytes_eq p.name) names) + length (flat_map (named_on shelf) names)
        → length (cond same (p ∷ named_on shelf n) (named_on shelf n) ++ flat_map (named_on (p ∷ shelf)) names)
        ≡ length (cond same (n ∷ filter (bytes_eq p.name) names) (filter (bytes_eq p.name) names)) + length (named_on shelf n ++ flat_map (named_on shelf) names)
    by true e =
        omega (arith, e, length-append (named_on shelf n) (flat_map (named_on (p ∷ shelf)) names), length-append (named_on shelf n) (flat_map (named_on shelf) names))
    by false e =
        omega (arith, e, length-append (named_on shelf n) (flat_map (named_on (p ∷ shelf)) names), length-append (named_on shelf n) (flat_map (named_on shelf) names))

none_on_nothing : (names : List (List ℕ)) → length (flat_map (named_on []) names) ≡ 0
none_on_nothing [] = refl
none_on_nothing (n ∷ names) = none_on_nothing names

few_loaded : (shelf : List OnShelf) (names : List (List ℕ)) → IsDistinct bytes_eq names → length (flat_map (named_on shelf) names) ≤ length shelf
few_loaded [] names once = omega (arith, none_on_nothing names)
few_loaded (p ∷ shelf) names once =
    let one = one_more_place p shelf names in
    let once_more = counted_once p.name names once in
    let rest = few_loaded shelf names once in
    omega (arith, one, once_more, rest)

-- ---- those that are loaded can be registered

pub loadable : (file : Option (List ℕ)) (names : List (List ℕ)) (shelf : List OnShelf) → IsDistinct bytes_eq (names_of shelf) → list_any is_reserved (names_of shelf) ≡ false
    → length shelf ≤ LIVE_LIMIT → IsDistinct bytes_eq names → AreLoadable shelf (plugs_loaded file names shelf)
loadable None names shelf differ free few once = record { shelf_differs = differ; differ = differ; are_free = free; few = few }
loadable (Some path) names shelf differ free few once = record {
  shelf_differs = differ;
  differ = distinct_loaded shelf names differ once;
  are_free = none_loaded is_reserved shelf names free;
  few = let least = few_loaded shelf names once in omega (arith, least, few);
}

names_shown : {P : Type 0} (tells : P → PlugTells) (plugs : List (ShelvedOf P)) → names_of (on_shelf tells plugs) ≡ map (λ plug. plug.name) plugs
names_shown tells [] = refl
names_shown tells (plug ∷ plugs) = ap (λ (ns : List (List ℕ)). plug.name ∷ ns) (names_shown tells plugs)

-- the names on the shelves of a run
pub shelf_loadable : {P Q : Type 0} (tells : P → PlugTells) (plugs : List (ShelvedOf P)) (probes : List (ShelvedProbeOf Q)) (file : Option (List ℕ)) (names : List (List ℕ))
    → CanBeLoaded (names_on plugs probes) → IsDistinct bytes_eq names → AreLoadable (on_shelf tells plugs) (plugs_loaded file names (on_shelf tells plugs))
shelf_loadable {P = P} {Q = Q} tells plugs probes file names can once =
    let D : List (List ℕ) → Type 0 = λ ns. IsDistinct bytes_eq ns in
    loadable file names (on_shelf tells plugs)
    (subst D (sym (names_shown tells plugs)) (distinct_front (map (λ plug. plug.name) plugs) (map (λ probe. probe.name) probes) can.differ))
    (ap (list_any is_reserved) (names_shown tells plugs) ∙ any_front is_reserved (map (λ plug. plug.name) plugs) (map (λ probe. probe.name) probes) can.are_free)
    (let few = can.few in
    let all : length (map (λ plug. plug.name) plugs ++ map (λ probe. probe.name) probes) ≡ length (map {B = List ℕ} (λ (plug : ShelvedOf P). plug.name) plugs) + length (map {B = List ℕ} (λ (probe : ShelvedProbeOf Q). probe.name) probes) =
    length-append (map (λ plug. plug.name) plugs) (map (λ probe. probe.name) probes) in
    let named : length (map {B = List ℕ} (λ (plug : ShelvedOf P). plug.name) plugs) ≡ length plugs = length-map {B = List ℕ} plugs (λ plug. plug.name) in
    let same : length (on_shelf tells plugs) ≡ length plugs = length-map {B = OnShelf} plugs (shown tells) in
    omega (arith, few, all, named, same))
    once

one_distinct : (name : List ℕ) → IsDistinct bytes_eq (name ∷ [])
unfolding IsDistinct
one_distinct name = (tt, tt)

-- one plug-in with a free name can be loaded alone
pub one_loadable : {P Q : Type 0} (plugs : List (ShelvedOf P)) (probes : List (ShelvedProbeOf Q)) (name : List ℕ)
    → map (λ plug. plug.name) plugs ≡ name ∷ [] → probes ≡ [] → is_reserved name ≡ false → CanBeLoaded (names_on plugs probes)
one_loadable {P = P} {Q = Q} plugs probes name named none free =
    let C : List (List ℕ) → Type 0 = λ names. CanBeLoaded names in
    let same : names_on plugs probes ≡ name ∷ [] =
    ap (λ (ps : List (ShelvedProbeOf Q)). map (λ plug. plug.name) plugs ++ map (λ probe. probe.name) ps) none
    ∙ append-nil (map (λ plug. plug.name) plugs) ∙ named in
    subst C (sym same) (record { differ = one_distinct name; are_free = rw free refl; few = omega arith })

-- their blocks change nothing of them
pub plugs_with : (blocks : List Block) (plugs : List OnShelf) → plugs_of (with_blocks blocks plugs) ≡ plugs
plugs_with blocks [] = refl
plugs_with blocks (plug ∷ plugs) = ap (λ (ps : List OnShelf). plug ∷ ps) (plugs_with blocks plugs)
