-- The places of a shelf whose plug-ins are loaded, and the places that were moved.
use Rattle.cd_registry.specs.declared.plug.PlugTells.{PlugTells}
use Rattle.cd_serve.specs.Shelf.{on_shelf, shown}
use Rattle.cd_serve.specs.Started.{named_on}
use Rattle.cd_serve.specs.Working.Loading.{ArePlacesOf}
use Rattle.cd_serve.specs.declared.shelf.ShelvedOf.{ShelvedOf}
use Rattle.cd_transcript.specs.LineRuns.{OnShelf}
use Rattle.std.proofs.Common.{Bool, List, None, Option, Some, [], ap, append_assoc, arith, cond, drop, false, get_or, length, map, refl, slice_get, suc, sym, take, true, zero, ℕ, ◌++◌, ◌+◌, ◌<◌, ◌∙◌, ◌∷◌, ◌≡◌, ◌≤◌}
use Rattle.std.proofs.lemmas.Grind.{flat_map-append}
use Rattle.std.proofs.lemmas.List.Elements.{filter-append}
use Rattle.std.proofs.lemmas.List.{append-nil, length-map, map-append}
use Rattle.std.proofs.lemmas.Option.{none-some, same_Some, slice_get-map, slice_get_read}
use Rattle.std.specs.List.{find, flat_map}
use Rattle.std.specs.Option.{option_map}
use Rattle.std.specs.Str.{bytes_eq}

pub take_one : {A : Type 0} (xs : List A) (i : ℕ) (x : A) → slice_get xs i ≡ Some x → take (i + 1) xs ≡ take i xs ++ x ∷ []
take_one [] i x at = absurd (none-some x at)
take_one (y ∷ xs) zero x at = ap (λ z. z ∷ []) (same_Some y x at)
take_one (y ∷ xs) (suc i) x at =
    ap (λ (k : ℕ). take k (y ∷ xs)) (let e : suc i + 1 ≡ suc (i + 1) = omega arith in e) ∙ ap (λ zs. y ∷ zs) (take_one xs i x at)

pub has_one : {A : Type 0} (xs : List A) (i : ℕ) → i < length xs → (x : A) × (slice_get xs i ≡ Some x)
has_one [] i below = absurd (omega (arith, below))
has_one (x ∷ xs) zero below = (x, refl)
has_one (x ∷ xs) (suc i) below = has_one xs i (omega (arith, below))

pub take_all : {A : Type 0} (xs : List A) (i : ℕ) → length xs ≤ i → take i xs ≡ xs
take_all [] zero most = refl
take_all [] (suc i) most = refl
take_all (x ∷ xs) zero most = absurd (omega (arith, most))
take_all (x ∷ xs) (suc i) most = ap (λ zs. x ∷ zs) (take_all xs i (omega (arith, most)))

module _ {P : Type 0} (tells : P → PlugTells) (plugs : List (ShelvedOf P)) where
  shown_at : (i : ℕ) (plug : ShelvedOf P) → i < length plugs → plug ≡ get_or plugs i plug → slice_get (on_shelf tells plugs) i ≡ Some (shown tells plug)
  shown_at i plug below is = slice_get-map (shown tells) plugs i ∙ ap (option_map (shown tells)) (slice_get_read plugs (length plugs) i plug refl below is)

  -- one place more
  pub place_next : (order new : List ℕ) (i : ℕ) → i < length plugs → new ≡ order ++ i ∷ [] → map (slice_get (on_shelf tells plugs)) order ≡ map Some (take i (on_shelf tells plugs))
      → map (slice_get (on_shelf tells plugs)) new ≡ map Some (take (i + 1) (on_shelf tells plugs))
  place_next order new i below is so_far =
      let there = has_one (on_shelf tells plugs) i (omega (arith, below, length-map plugs (shown tells))) in
      ap (map (slice_get (on_shelf tells plugs))) is
      ∙ map-append (slice_get (on_shelf tells plugs)) order (i ∷ [])
      ∙ ap (λ (os : List (Option OnShelf)). os ++ slice_get (on_shelf tells plugs) i ∷ []) so_far
      ∙ ap (λ (o : Option OnShelf). map Some (take i (on_shelf tells plugs)) ++ o ∷ []) there.1
      ∙ sym (map-append Some (take i (on_shelf tells plugs)) (there.0 ∷ []))
      ∙ ap (map Some) (sym (take_one (on_shelf tells plugs) i there.0 there.1))

  pub all_placed : (order : List ℕ) (i : ℕ) → length plugs ≤ i → map (slice_get (on_shelf tells plugs)) order ≡ map Some (take i (on_shelf tells plugs))
      → ArePlacesOf (on_shelf tells plugs) order (on_shelf tells plugs)
  all_placed order i most so_far = so_far ∙ ap (map Some) (take_all (on_shelf tells plugs) i (omega (arith, most, length-map plugs (shown tells))))

  module _ (name : List ℕ) (before order : List (Option OnShelf)) (i : ℕ) (plug : ShelvedOf P) (below : i < length plugs) (is : plug ≡ get_or plugs i plug)
      (so_far : order ≡ before ++ map Some (named_on (take i (on_shelf tells plugs)) name)) where
    named_so_far : (t : Bool) → bytes_eq plug.name name ≡ t
        → named_on (take (i + 1) (on_shelf tells plugs)) name ≡ named_on (take i (on_shelf tells plugs)) name ++ cond t (shown tells plug ∷ []) []
    named_so_far t same =
        ap (λ (xs : List OnShelf). named_on xs name) (take_one (on_shelf tells plugs) i (shown tells plug) (shown_at i plug below is))
        ∙ filter-append (λ (p : OnShelf). bytes_eq p.name name) (take i (on_shelf tells plugs)) (shown tells plug ∷ [])
        ∙ ap (λ (b : Bool). named_on (take i (on_shelf tells plugs)) name ++ cond b (shown tells plug ∷ []) []) same

    -- it has the name
    pub named_next : (old new : List ℕ) → map (slice_get (on_shelf tells plugs)) old ≡ order → new ≡ old ++ i ∷ [] → bytes_eq plug.name name ≡ true
        → map (slice_get (on_shelf tells plugs)) new ≡ before ++ map Some (named_on (take (i + 1) (on_shelf tells plugs)) name)
    named_next old new were added same =
        ap (map (slice_get (on_shelf tells plugs))) added
        ∙ map-append (slice_get (on_shelf tells plugs)) old (i ∷ [])
        ∙ ap (λ (os : List (Option OnShelf)). os ++ slice_get (on_shelf tells plugs) i ∷ []) (were ∙ so_far)
        ∙ ap (λ (o : Option OnShelf). (before ++ map Some (named_on (take i (on_shelf tells plugs)) name)) ++ o ∷ []) (shown_at i plug below is)
        ∙ append_assoc before (map Some (named_on (take i (on_shelf tells plugs)) name)) (Some (shown tells plug) ∷ [])
        ∙ ap (λ (os : List (Option OnShelf)). before ++ os)
        (sym (map-append Some (named_on (take i (on_shelf tells plugs)) name) (shown tells plug ∷ [])) ∙ ap (map Some) (sym (named_so_far true same)))

    -- .. or hasn't
    pub unnamed_next : (old : List ℕ) → map (slice_get (on_shelf tells plugs)) old ≡ order → bytes_eq plug.name name ≡ false
        → map (slice_get (on_shelf tells plugs)) old ≡ before ++ map Some (named_on (take (i + 1) (on_shelf tells plugs)) name)
    unnamed_next old were same =
        were ∙ so_far
        ∙ ap (λ (xs : List OnShelf). before ++ map Some xs) (sym (append-nil (named_on (take i (on_shelf tells plugs)) name)) ∙ sym (named_so_far false same))

  pub all_named : (name : List ℕ) (before order : List (Option OnShelf)) (i : ℕ) → length plugs ≤ i → order ≡ before ++ map Some (named_on (take i (on_shelf tells plugs)) name)
      → order ≡ before ++ map Some (named_on (on_shelf tells plugs) name)
  all_named name before order i most so_far =
      so_far ∙ ap (λ (xs : List OnShelf). before ++ map Some (named_on xs name)) (take_all (on_shelf tells plugs) i (omega (arith, most, length-map plugs (shown tells))))

-- those of one name more
pub names_next : (shelf : List OnShelf) (loaded : List (List ℕ)) (i : ℕ) (name : List ℕ) (old new : List (Option OnShelf)) → slice_get loaded i ≡ Some name
    → old ≡ map Some (flat_map (named_on shelf) (take i loaded)) → new ≡ old ++ map Some (named_on shelf name) → new ≡ map Some (flat_map (named_on shelf) (take (i + 1) loaded))
names_next shelf loaded i name old new at so_far is =
    is ∙ ap (λ (os : List (Option OnShelf)). os ++ map Some (named_on shelf name)) so_far
    ∙ sym (map-append Some (flat_map (named_on shelf) (take i loaded)) (named_on shelf name))
    ∙ ap (map Some) (ap (λ (xs : List OnShelf). flat_map (named_on shelf) (take i loaded) ++ xs) (sym (append-nil (named_on shelf name)))
    ∙ sym (flat_map-append (named_on shelf) (take i loaded) (name ∷ [])) ∙ ap (flat_map (named_on shelf)) (sym (take_one loaded i name at)))

-- ---- a block is looked for

pub passed_over : {A : Type 0} (test : A → Bool) (xs : List A) (i : ℕ) (x : A) → slice_get xs i ≡ Some x → test x ≡ false → find test (drop i xs) ≡ find test (drop (i + 1) xs)
passed_over test [] i x at is = absurd (none-some x at)
passed_over test (y ∷ xs) zero x at is = ap (λ (b : Bool). cond b (Some y) (find test xs)) (ap test (same_Some y x at) ∙ is)
passed_over test (y ∷ xs) (suc i) x at is =
    passed_over test xs i x at is ∙ ap (λ (k : ℕ). find test (drop k (y ∷ xs))) (let e : suc (i + 1) ≡ suc i + 1 = omega arith in e)

pub found_here : {A : Type 0} (test : A → Bool) (xs : List A) (i : ℕ) (x : A) → slice_get xs i ≡ Some x → test x ≡ true → find test (drop i xs) ≡ Some x
found_here test [] i x at is = absurd (none-some x at)
found_here test (y ∷ xs) zero x at is = ap (λ (b : Bool). cond b (Some y) (find test xs)) (ap test (same_Some y x at) ∙ is) ∙ at
found_here test (y ∷ xs) (suc i) x at is = found_here test xs i x at is

pub nothing_found : {A : Type 0} (test : A → Bool) (xs : List A) (i : ℕ) → length xs ≤ i → find test (drop i xs) ≡ None
nothing_found test [] zero most = refl
nothing_found test [] (suc i) most = refl
nothing_found test (x ∷ xs) zero most = absurd (omega (arith, most))
nothing_found test (x ∷ xs) (suc i) most = nothing_found test xs i (omega (arith, most))
