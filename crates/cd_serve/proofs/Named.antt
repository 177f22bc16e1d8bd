-- Names that differ, and places on a shelf.
use Rattle.cd_serve.specs.Working.Loading.{ArePlacesOf, PlaceSeen, has_name, names_of, numbered, plugs_of, registration_of}
use Rattle.cd_history.specs.Registrations.{Registration, is_text}
use Rattle.cd_transcript.specs.LineRuns.{Loaded, OnShelf}
use Rattle.std.proofs.Common.{Bool, List, Some, [], ap, arith, drop, false, length, map, nat_eq, refl, slice_get, suc, sym, take, true, zero, ℕ, ◌++◌, ◌+◌, ◌∙◌, ◌∷◌, ◌≡◌, ◌||◌}
use Rattle.std.proofs.Math.ListN.{set}
use Rattle.std.proofs.lemmas.Option.{none-some, same_Some}
use Rattle.std.proofs.lemmas.Slice.Eq.{bytes_eq-Decides}
use Rattle.std.specs.List.{AllByRecursion, IsDistinct, list_any}
use Rattle.std.specs.Str.{bytes_eq}

pub same_number : (n : ℕ) → nat_eq n n ≡ true
same_number n = grind arith

pub same_name : (name : List ℕ) → bytes_eq name name ≡ true
same_name name = (bytes_eq-Decides name name).1 refl

pub or_true : (b : Bool) → (b || true) ≡ true
or_true true = refl
or_true false = refl

-- names that differ do so both ways
pub differ_both_ways : (name other : List ℕ) → bytes_eq name other ≡ false → bytes_eq other name ≡ false
differ_both_ways name other is = by (bytes_eq other name) refl
  where
    by : (t : Bool) → bytes_eq other name ≡ t → t ≡ false
    by false e = refl
    by true e =
        let same : other ≡ name = (bytes_eq-Decides other name).0 e in
        let back : bytes_eq name other ≡ true = (bytes_eq-Decides name other).1 (sym same) in
        absurd (cc)

-- all of some names differ from one
abbrev pub AllDiffer : List ℕ → List (List ℕ) → Type 0
AllDiffer name names = AllByRecursion (λ other. bytes_eq name other ≡ false) names

-- ---- one place of a shelf is changed

differs_at : (name : List ℕ) (plugs : List OnShelf) (i : ℕ) (plug : OnShelf) → AllDiffer name (names_of plugs) → slice_get plugs i ≡ Some plug → bytes_eq name plug.name ≡ false
differs_at name [] i plug all at = absurd (none-some plug at)
differs_at name (p ∷ ps) zero plug all at = ap (λ (o : OnShelf). bytes_eq name o.name) (sym (same_Some p plug at)) ∙ all.0
differs_at name (p ∷ ps) (suc i) plug all at = differs_at name ps i plug all.1 at

-- .. all others stay
abbrev pub OthersStay : List ℕ → (OnShelf → PlaceSeen) → (OnShelf → PlaceSeen) → Type 0
OthersStay name f h = (other : OnShelf) → bytes_eq other.name name ≡ false → f other ≡ h other

all_stay : (f h : OnShelf → PlaceSeen) (name : List ℕ) (plugs : List OnShelf) → AllDiffer name (names_of plugs) → OthersStay name f h → map f plugs ≡ map h plugs
all_stay f h name [] all same = refl
all_stay f h name (p ∷ ps) all same =
    ap (λ (y : PlaceSeen). y ∷ map f ps) (same p (differ_both_ways name p.name all.0)) ∙ ap (λ (ys : List PlaceSeen). h p ∷ ys) (all_stay f h name ps all.1 same)

pub one_changed : (f h : OnShelf → PlaceSeen) (shelf : List OnShelf) (i : ℕ) (plug : OnShelf) (place : PlaceSeen)
    → IsDistinct bytes_eq (names_of shelf) → slice_get shelf i ≡ Some plug → place ≡ h plug → OthersStay plug.name f h → set (map f shelf) i place ≡ map h shelf
unfolding IsDistinct
one_changed f h [] i plug place differs at is same = absurd (none-some plug at)
one_changed f h (p ∷ ps) zero plug place differs at is same =
    let here : p ≡ plug = same_Some p plug at in
    ap (λ (y : PlaceSeen). y ∷ map f ps) (is ∙ ap h (sym here))
    ∙ ap (λ (ys : List PlaceSeen). h p ∷ ys)
    (all_stay f h p.name ps differs.0 (λ other apart. same other (ap (λ (o : OnShelf). bytes_eq other.name o.name) (sym here) ∙ apart)))
one_changed f h (p ∷ ps) (suc i) plug place differs at is same =
    ap (λ (y : PlaceSeen). y ∷ set (map f ps) i place) (same p (differs_at p.name ps i plug differs.0 at))
    ∙ ap (λ (ys : List PlaceSeen). h p ∷ ys) (one_changed f h ps i plug place differs.1 at is same)

-- ---- the registrations of plug-ins

pub numbered-append : (n : ℕ) (done more : List Loaded) → numbered n (done ++ more) ≡ numbered n done ++ numbered (n + length done) more
numbered-append n [] more = ap (λ (k : ℕ). numbered k more) (omega arith)
numbered-append n (x ∷ done) more =
    ap (λ (gs : List Registration). registration_of n x ∷ gs)
    (numbered-append (n + 1) done more ∙ ap (λ (k : ℕ). numbered (n + 1) done ++ numbered k more) (omega arith))

pub length-numbered : (n : ℕ) (loaded : List Loaded) → length (numbered n loaded) ≡ length loaded
length-numbered n [] = refl
length-numbered n (x ∷ loaded) = let rest = length-numbered (n + 1) loaded in omega arith

pub numbered_at : (n : ℕ) (done : List Loaded) (loaded : Loaded) (more : List Loaded)
    → slice_get (numbered n (done ++ loaded ∷ more)) (length done) ≡ Some (registration_of (n + length done) loaded)
numbered_at n [] loaded more = ap (λ (k : ℕ). Some (registration_of k loaded)) (omega arith)
numbered_at n (x ∷ done) loaded more = numbered_at (n + 1) done loaded more ∙ ap (λ (k : ℕ). Some (registration_of k loaded)) (omega arith)

pub differs_in : (name : List ℕ) (done : List Loaded) (loaded : Loaded) (more : List Loaded) → AllDiffer name (names_of (plugs_of (done ++ loaded ∷ more)))
    → bytes_eq name loaded.plug.name ≡ false
differs_in name [] loaded more all = all.0
differs_in name (x ∷ done) loaded more all = differs_in name done loaded more all.1

pub none_before : (n : ℕ) (done : List Loaded) (loaded : Loaded) (more : List Loaded) → IsDistinct bytes_eq (names_of (plugs_of (done ++ loaded ∷ more)))
    → has_name (numbered n done) loaded.plug.name ≡ false
unfolding IsDistinct
none_before n [] loaded more differ = refl
none_before n (x ∷ done) loaded more differ = rw (differs_in x.plug.name done loaded more differ.0) (none_before (n + 1) done loaded more differ.1)

none_of : (n : ℕ) (name : List ℕ) (more : List Loaded) → AllDiffer name (names_of (plugs_of more)) → has_name (numbered n more) name ≡ false
none_of n name [] all = refl
none_of n name (x ∷ more) all = rw (differ_both_ways name x.plug.name all.0) (none_of (n + 1) name more all.1)

pub none_behind : (n : ℕ) (done : List Loaded) (loaded : Loaded) (more : List Loaded) → IsDistinct bytes_eq (names_of (plugs_of (done ++ loaded ∷ more)))
    → has_name (numbered n more) loaded.plug.name ≡ false
unfolding IsDistinct
none_behind n [] loaded more differ = none_of n loaded.plug.name more differ.0
none_behind n (x ∷ done) loaded more differ = none_behind n done loaded more differ.1

pub other_named : (n : ℕ) (done : List Loaded) (loaded : Loaded) (name : List ℕ) → bytes_eq name loaded.plug.name ≡ false
    → has_name (numbered n (done ++ loaded ∷ [])) name ≡ has_name (numbered n done) name
other_named n [] loaded name apart = rw (differ_both_ways name loaded.plug.name apart) refl
other_named n (x ∷ done) loaded name apart = ap (λ (b : Bool). is_text x.plug.name name || b) (other_named (n + 1) done loaded name apart)

pub own_named : (n : ℕ) (done : List Loaded) (loaded : Loaded) → has_name (numbered n (done ++ loaded ∷ [])) loaded.plug.name ≡ true
own_named n [] loaded = rw (same_name loaded.plug.name) refl
own_named n (x ∷ done) loaded = ap (λ (b : Bool). is_text x.plug.name loaded.plug.name || b) (own_named (n + 1) done loaded) ∙ or_true (is_text x.plug.name loaded.plug.name)

-- none of some names passes a test
pub none_passes : (test : List ℕ → Bool) (done : List Loaded) (loaded : Loaded) (more : List Loaded)
    → list_any test (names_of (plugs_of (done ++ loaded ∷ more))) ≡ false → test loaded.plug.name ≡ false
none_passes test [] loaded more none = by (test loaded.plug.name) none
  where
    by : (t : Bool) → (t || list_any test (names_of (plugs_of more))) ≡ false → t ≡ false
    by false e = refl
    by true e = e
none_passes test (x ∷ done) loaded more none = by (test x.plug.name) (none_passes test done loaded more) none
  where
    by : (t : Bool) → (list_any test (names_of (plugs_of (done ++ loaded ∷ more))) ≡ false → test loaded.plug.name ≡ false)
        → (t || list_any test (names_of (plugs_of (done ++ loaded ∷ more)))) ≡ false → test loaded.plug.name ≡ false
    by false rest e = rest e
    by true rest e = absurd (cc)

-- ---- the place of the next plug-in

-- so many of them were taken, and this one is the next
pub record IsAt (shelf : List OnShelf) (loaded : List Loaded) (count place : ℕ) : Type 0 where
  pub one : Loaded
  pub more : List Loaded
  pub at : slice_get loaded count ≡ Some one
  pub there : slice_get shelf place ≡ Some one.plug
  pub all : loaded ≡ take count loaded ++ one ∷ more
  pub next : take (count + 1) loaded ≡ take count loaded ++ one ∷ []
  pub rest : drop count loaded ≡ one ∷ more
  pub later : drop (count + 1) loaded ≡ more

pub next_place : (shelf : List OnShelf) (order : List ℕ) (loaded : List Loaded) (count place : ℕ)
    → ArePlacesOf shelf order (plugs_of loaded) → slice_get order count ≡ Some place → IsAt shelf loaded count place
next_place shelf [] loaded count place are at = absurd (none-some place at)
next_place shelf (i ∷ order) [] count place are at = absurd (cc)
next_place shelf (i ∷ order) (x ∷ loaded) zero place are at =
    let here : slice_get shelf i ≡ Some x.plug = cc in
    record {
      one = x;
      more = loaded;
      at = refl;
      there = ap (slice_get shelf) (sym (same_Some i place at)) ∙ here;
      all = refl;
      next = refl;
      rest = refl;
      later = refl;
    }
next_place shelf (i ∷ order) (x ∷ loaded) (suc count) place are at =
    let rest : ArePlacesOf shelf order (plugs_of loaded) = cc in
    let n = next_place shelf order loaded count place rest at in
    let e : suc count + 1 ≡ suc (count + 1) = omega arith in
    record {
      one = n.one;
      more = n.more;
      at = n.at;
      there = n.there;
      all = ap (λ (xs : List Loaded). x ∷ xs) n.all;
      next = ap (λ (k : ℕ). take k (x ∷ loaded)) e ∙ ap (λ (xs : List Loaded). x ∷ xs) n.next;
      rest = n.rest;
      later = ap (λ (k : ℕ). drop k (x ∷ loaded)) e ∙ n.later;
    }
