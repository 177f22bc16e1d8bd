-- A change of one slot, as contracts see it.
use Rattle.cd_registry.specs.Rows.{At, Row, with_row}
use Rattle.std.proofs.Common.{Err, IfOk, IsSomeAnd, List, None, Ok, OnErr, OnOk, Option, Result, Some, [], ap, get_or, length, map, refl, set, slice_get, subst, suc, sym, zero, ℕ, ◌<◌, ◌∙◌, ◌∷◌, ◌≡◌}
use Rattle.std.proofs.Math.Seq.{map-set_same}
use Rattle.std.proofs.lemmas.List.{length-map}
use Rattle.std.proofs.lemmas.Option.{slice_get-map, slice_get_read, slice_get_within}

-- where there is a row, its number is one of the list's
pub at_within : (rows : List Row) (i : ℕ) (P : Row → Type 0) → At rows i P → i < length rows
at_within rows i P at = within_if (slice_get rows i) refl at
  where
    within_if : (found : Option Row) → slice_get rows i ≡ found → IsSomeAnd found P → i < length rows
    within_if (Some x) e h = slice_get_within rows i x e
    within_if None e h = absurd h

-- and one of the elements that the rows are of
pub within : {A : Type 0} (show : A → Row) (xs : List A) (i : ℕ) (P : Row → Type 0) → At (map show xs) i P → i < length xs
within show xs i P at = rw length-map at (at_within (map show xs) i P at)

-- what is shown at the place of an element
pub shown_at : {A : Type 0} (show : A → Row) (xs : List A) (i : ℕ) (x : A) → i < length (map show xs) → x ≡ get_or xs i x
    → slice_get (map show xs) i ≡ Some (show x)
shown_at show xs i x within is = rw (slice_get-map show xs i, slice_get_read xs (length xs) i x refl (rw length-map at within) is)

-- a fact of the row at a place is one of the element there
pub fact_at : {A : Type 0} (show : A → Row) (P : Row → Type 0) (xs : List A) (i : ℕ) (x : A) → x ≡ get_or xs i x
    → At (map show xs) i P → P (show x)
fact_at show P xs i x is fact = let Q : Option Row → Type 0 = λ o. IsSomeAnd o P in subst Q (shown_at show xs i x (at_within (map show xs) i P fact) is) fact

-- and the other way round
pub at_here : {A : Type 0} (show : A → Row) (P : Row → Type 0) (xs : List A) (i : ℕ) (x : A) → i < length (map show xs) → x ≡ get_or xs i x
    → P (show x) → At (map show xs) i P
at_here show P xs i x within is fact = let Q : Option Row → Type 0 = λ o. IsSomeAnd o P in subst Q (sym (shown_at show xs i x within is)) fact

-- one element is replaced
pub changed : {A : Type 0} (show : A → Row) (step : Row → Row) (xs : List A) (i : ℕ) (x y : A) → x ≡ get_or xs i x → show y ≡ step (show x)
    → map show (set xs i y) ≡ with_row i step (map show xs)
changed show step [] i x y is stepped = refl
changed show step (z ∷ zs) zero x y is stepped = ap (λ row. row ∷ map show zs) (stepped ∙ ap (λ x. step (show x)) is)
changed show step (z ∷ zs) (suc i) x y is stepped = ap (λ rows. show z ∷ rows) (changed show step zs i x y is stepped)

-- an element is replaced by one that shows the same
pub unchanged : {A B : Type 0} (show : A → B) (xs : List A) (i : ℕ) (x y : A) → x ≡ get_or xs i x → show y ≡ show x
    → map show (set xs i y) ≡ map show xs
unchanged show xs i x y is same = map-set_same show xs i y x (same ∙ ap show is)

pub on_ok : {T E P Q : Type 0} (r : Result T E) → (P → Q) → OnOk r P → OnOk r Q
on_ok (Ok v) f h = f h
on_ok (Err e) f h = tt

pub on_err : {T E P Q : Type 0} (r : Result T E) → (P → Q) → OnErr r P → OnErr r Q
on_err (Ok v) f h = tt
on_err (Err e) f h = f h

pub if_ok : {T E : Type 0} {P Q : T → Type 0} (r : Result T E) → ((x : T) → P x → Q x) → IfOk r P → IfOk r Q
if_ok (Ok v) f h = f v h
if_ok (Err e) f h = tt
