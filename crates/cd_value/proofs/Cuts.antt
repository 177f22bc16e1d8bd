-- Texts cut at the first byte that passes a test.
use Rattle.std.proofs.Common.{Bool, Bor, List, [], ap, arith, cond, drop, false, length, not, refl, suc, sym, take, true, zero, ℕ, ◌++◌, ◌+◌, ◌<◌, ◌∙◌, ◌∷◌, ◌≡◌}
use Rattle.std.proofs.lemmas.Bool.{or_parts}
use Rattle.std.proofs.lemmas.List.Sums.{sum_by-cons}
use Rattle.std.specs.List.{after_first, before_first, list_any, position_or_len}
use Rattle.std.specs.Prelude.{MatchOption, None, Option, Some, count_by}

count_by-cons : (p : ℕ → Bool) (x : ℕ) (xs : List ℕ) → count_by p (x ∷ xs) ≡ cond (p x) 1 0 + count_by p xs
count_by-cons p x xs = sum_by-cons (λ y. cond (p y) 1 0) x xs

-- where none passes, the count is 0
pub count_by_none : (p : ℕ → Bool) (xs : List ℕ) → position_or_len p xs ≡ length xs → count_by p xs ≡ 0
count_by_none p [] e = refl
count_by_none p (x ∷ xs) e = count_by-cons p x xs ∙ step (p x) (count_by_none p xs) e
  where
    step : (b : Bool) → (position_or_len p xs ≡ length xs → count_by p xs ≡ 0)
        → cond (not b) (1 + position_or_len p xs) 0 ≡ suc (length xs) → cond b 1 0 + count_by p xs ≡ 0
    step true rest h = absurd (omega arith)
    step false rest h = omega (arith, rest (omega arith))

-- one passes first, and then those that stand after it
pub count_by_after_first : (p : ℕ → Bool) (xs : List ℕ) → position_or_len p xs < length xs → count_by p xs ≡ 1 + count_by p (after_first p xs)
count_by_after_first p [] e = absurd (omega arith)
count_by_after_first p (x ∷ xs) e = count_by-cons p x xs ∙ step (p x) (count_by_after_first p xs) e
  where
    step : (b : Bool) → (position_or_len p xs < length xs → count_by p xs ≡ 1 + count_by p (after_first p xs))
        → cond (not b) (1 + position_or_len p xs) 0 < suc (length xs)
        → cond b 1 0 + count_by p xs ≡ 1 + count_by p (drop (cond (not b) (1 + position_or_len p xs) 0 + 1) (x ∷ xs))
    step true rest h = refl
    step false rest h =
        let place : 1 + position_or_len p xs + 1 ≡ suc (position_or_len p xs + 1) = omega arith in
        rw place (omega (arith, rest (omega arith)))

-- a text cut at the first byte that passes, where one does
pub parts_at_first : (p : ℕ → Bool) (xs : List ℕ) (r : Option (Bor (List ℕ) × Bor (List ℕ)))
    → MatchOption r (position_or_len p xs ≡ length xs) (λ x. (x.0.now ≡ before_first p xs) × (x.1.now ≡ after_first p xs) × (position_or_len p xs < length xs))
    → MatchOption r (count_by p xs ≡ 0) (λ x. (x.0.now ≡ before_first p xs) × (x.1.now ≡ after_first p xs) × (count_by p xs ≡ 1 + count_by p x.1.now))
parts_at_first p xs None h = count_by_none p xs h
parts_at_first p xs (Some x) h = (h.0, h.1, count_by_after_first p xs h.2 ∙ ap (λ (rest : List ℕ). 1 + count_by p rest) (sym h.1))

-- what no byte of a text passes, none of its front passes
pub list_any_take : (p : ℕ → Bool) (n : ℕ) (xs : List ℕ) → list_any p xs ≡ false → list_any p (take n xs) ≡ false
list_any_take p zero xs e = refl
list_any_take p (suc n) [] e = refl
list_any_take p (suc n) (x ∷ xs) e =
    let both = or_parts (p x) (list_any p xs) e in
    rw (both.0, list_any_take p n xs both.1) refl

-- and none of its end
pub list_any_drop : (p : ℕ → Bool) (n : ℕ) (xs : List ℕ) → list_any p xs ≡ false → list_any p (drop n xs) ≡ false
list_any_drop p zero xs e = e
list_any_drop p (suc n) [] e = refl
list_any_drop p (suc n) (x ∷ xs) e = list_any_drop p n xs (or_parts (p x) (list_any p xs) e).1

-- none passes before the first that does
pub list_any_before_first : (p : ℕ → Bool) (xs : List ℕ) → list_any p (before_first p xs) ≡ false
list_any_before_first p [] = refl
list_any_before_first p (x ∷ xs) = step (p x) refl (list_any_before_first p xs)
  where
    step : (b : Bool) → p x ≡ b → list_any p (before_first p xs) ≡ false → list_any p (take (cond (not b) (1 + position_or_len p xs) 0) (x ∷ xs)) ≡ false
    step true e rest = refl
    step false e rest =
        let place : 1 + position_or_len p xs ≡ suc (position_or_len p xs) = omega arith in
        rw (place, e) rest

-- the first that passes stands behind a text of which none does
pub place_behind : (p : ℕ → Bool) (xs : List ℕ) (y : ℕ) (ys : List ℕ) → list_any p xs ≡ false → p y ≡ true → position_or_len p (xs ++ y ∷ ys) ≡ length xs
place_behind p [] y ys none e = rw e refl
place_behind p (x ∷ xs) y ys none e =
    let both = or_parts (p x) (list_any p xs) none in
    rw both.0 (omega (arith, place_behind p xs y ys both.1 e))

-- where none passes there is no place
pub place_none : (p : ℕ → Bool) (xs : List ℕ) → list_any p xs ≡ false → position_or_len p xs ≡ length xs
place_none p [] none = refl
place_none p (x ∷ xs) none =
    let both = or_parts (p x) (list_any p xs) none in
    rw both.0 (omega (arith, place_none p xs both.1))
