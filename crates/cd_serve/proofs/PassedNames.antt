-- Names that a walk over two shelves has passed.
use Rattle.cd_registry.specs.Faults.{is_reserved}
use Rattle.cd_registry.specs.declared.faults.TheConstants.{LIVE_LIMIT}
use Rattle.cd_serve.specs.Shelf.{CanBeLoaded, IsFirstFault, names_on}
use Rattle.cd_serve.specs.declared.shelf.ShelvedOf.{ShelvedOf}
use Rattle.cd_serve.specs.declared.shelf.ShelvedProbeOf.{ShelvedProbeOf}
use Rattle.std.proofs.Common.{Bool, IsTrue, List, Option, Some, [], arith, ap, false, length, length-append, map, refl, slice_get, subst, sym, take, true, ℕ, ◌++◌, ◌+◌, ◌<◌, ◌∙◌, ◌∷◌, ◌≡◌, ◌≤◌, ◌||◌}
use Rattle.std.proofs.lemmas.List.Folds.{list_any_at, list_any_more}
use Rattle.std.proofs.lemmas.List.{get_or-take, length-map, length-take-le, take_more}
use Rattle.std.proofs.lemmas.Map.Keys.{IsDistinct-push}
use Rattle.std.proofs.lemmas.Option.{get_or_from_slice_get, slice_get_within}
use Rattle.std.proofs.lemmas.Slice.Eq.{bytes_eq-Decides}
use Rattle.std.specs.Bool.{one_answer}
use Rattle.std.specs.Cmp.{IsEquivalence}
use Rattle.std.specs.List.{IsDistinct, list_any}
use Rattle.std.specs.Option.{option_map_or}
use Rattle.std.specs.Str.{bytes_eq}

bytes_eq_equiv : IsEquivalence bytes_eq
bytes_eq_equiv = record {
  refl = λ x. (bytes_eq-Decides x x).1 refl;
  symm = λ x y. one_answer (bytes_eq x y) (bytes_eq y x) (bytes_eq-Decides x y)
      ((λ e. sym ((bytes_eq-Decides y x).0 e)), (λ e. (bytes_eq-Decides y x).1 (sym e)));
  congr = λ x y z same. ap (λ w. bytes_eq w z) ((bytes_eq-Decides x y).0 same);
}

-- one more is asked
pub any_more : {X : Type 0} (p : X → Bool) (xs : List X) (i : ℕ) (x : X) → slice_get xs i ≡ Some x → list_any p (take (i + 1) xs) ≡ (list_any p (take i xs) || p x)
any_more p xs i x is = list_any_more p xs i x (slice_get_within xs i x is) ∙ ap (λ y. list_any p (take i xs) || p y) (get_or_from_slice_get xs i x x is)

-- .. which doesn't pass either
pub none_more : {X : Type 0} (p : X → Bool) (xs : List X) (i : ℕ) (x : X) → slice_get xs i ≡ Some x → list_any p (take i xs) ≡ false → p x ≡ false → list_any p (take (i + 1) xs) ≡ false
none_more p xs i x is none nor = any_more p xs i x is ∙ ap (λ b. b || p x) none ∙ nor

-- one more differs from those before
pub differ_more : (names : List (List ℕ)) (i : ℕ) (name : List ℕ) → slice_get names i ≡ Some name → IsDistinct bytes_eq (take i names)
    → list_any (bytes_eq name) (take i names) ≡ false → IsDistinct bytes_eq (take (i + 1) names)
differ_more names i name is differ none =
    subst (IsDistinct bytes_eq) (sym (take_more names i name (slice_get_within names i name is) ∙ ap (λ n. take i names ++ n ∷ []) (get_or_from_slice_get names i name name is)))
    (IsDistinct-push bytes_eq_equiv (take i names) name differ none)

-- one that stands before a place passes
pub any_before : {X : Type 0} (p : X → Bool) (xs : List X) (i n : ℕ) (x : X) → slice_get xs i ≡ Some x → i < n → n ≤ length xs → p x ≡ true → list_any p (take n xs) ≡ true
any_before p xs i n x is before within passes =
    list_any_at p (take n xs) i x (subst (λ m. i < m) (sym (length-take-le n xs within)) before) (ap p (get_or-take n xs i x before ∙ get_or_from_slice_get xs i x x is) ∙ passes)

pub none_differ : IsDistinct bytes_eq []
unfolding IsDistinct
none_differ = tt

pub length_on : {P Q : Type 0} (plugs : List (ShelvedOf P)) (probes : List (ShelvedProbeOf Q)) → length (names_on plugs probes) ≡ length plugs + length probes
length_on {P = P} {Q = Q} plugs probes =
    omega (
      arith,
      length-append (map {A = ShelvedOf P} (λ plug. plug.name) plugs) (map {A = ShelvedProbeOf Q} (λ probe. probe.name) probes),
      length-map plugs (λ (plug : ShelvedOf P). plug.name),
      length-map probes (λ (probe : ShelvedProbeOf Q). probe.name),
    )

-- the first place that has a fault
pub first_fault : (names : List (List ℕ)) (place : ℕ) → length names ≤ LIVE_LIMIT → place < length names → IsDistinct bytes_eq (take place names)
    → list_any is_reserved (take place names) ≡ false → IsFirstFault names place
first_fault names place few within differ free =
    let many : length (take place names) ≡ place = length-take-le place names (omega (arith, within)) in
    record { few = few; passed = record { differ = differ; are_free = free; few = omega (arith, few, within, many) } }

-- .. which is this
pub has_fault : (p : List ℕ → Bool) (names : List (List ℕ)) (place : ℕ) (name : List ℕ) → slice_get names place ≡ Some name → p name ≡ true
    → IsTrue (option_map_or p (slice_get names place) false)
has_fault p names place name is so = ap (λ (o : Option (List ℕ)). option_map_or p o false) is ∙ so
