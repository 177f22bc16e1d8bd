-- The first place in a list where a test passes, and the places where it passes.
use Rattle.cd_registry.specs.Rows.{numbers_of}
use Rattle.memchr.specs.Find.{IsFirstByte}
use Rattle.std.proofs.Common.{Bool, List, None, Option, Some, [], ap, arith, cond, false, get_or, length, map, refl, suc, sym, true, ℕ, ◌++◌, ◌+◌, ◌<◌, ◌∙◌, ◌∷◌, ◌≡◌}
use Rattle.std.proofs.lemmas.Bool.Decides.{nat_tests}
use Rattle.std.proofs.lemmas.Bool.{false_from_ne_true}
use Rattle.std.proofs.lemmas.List.Sums.{position_or_len_is}
use Rattle.std.proofs.lemmas.List.{get_or-map, length-map}
use Rattle.std.specs.List.{enumerate_from, filter, position, position_or_len}

pub position_at : {X : Type 0} (p : X → Bool) (xs : List X) (i : ℕ) (d : X) → i < length xs → ((k : ℕ) → k < i → p (get_or xs k d) ≡ false) → p (get_or xs i d) ≡ true → position p xs ≡ Some i
position_at p xs i d within before at =
    let is : position_or_len p xs ≡ i = position_or_len_is p xs i d (omega arith) before (λ w. at) in
    rw is (grind (arith, nat_tests))

pub position_none : {X : Type 0} (p : X → Bool) (xs : List X) (d : X) → ((k : ℕ) → k < length xs → p (get_or xs k d) ≡ false) → position p xs ≡ None
position_none p xs d nowhere =
    let is : position_or_len p xs ≡ length xs = position_or_len_is p xs (length xs) d (omega arith) nowhere (λ w. absurd (omega arith)) in
    rw is (grind (arith, nat_tests))

-- the first of some flags that is up
pub first_up : (test : ℕ → Bool) (bytes : List ℕ) (r : Option ℕ) → IsFirstByte test bytes r → r ≡ position (λ up. up) (map test bytes)
first_up test bytes None nowhere =
    sym (position_none (λ up. up) (map test bytes) (test 0) (λ k below.
    let within : k < length bytes = omega (arith, length-map bytes test) in
    get_or-map test bytes k 0 (test 0) within ∙ false_from_ne_true _ (nowhere k (omega arith) within)))
first_up test bytes (Some i) found =
    sym (position_at (λ up. up) (map test bytes) i (test 0) (omega (arith, length-map bytes test, found.0.high))
    (λ k below. get_or-map test bytes k 0 (test 0) (omega (arith, found.0.high)) ∙ false_from_ne_true _ (found.0.before k (omega arith) below))
    (get_or-map test bytes i 0 (test 0) found.0.high ∙ found.1))

-- the first place where a test passes, of what a function gives of each
pub prefix-map : {A B : Type 0} (f : A → B) (p : B → Bool) (q : A → Bool) → ((x : A) → p (f x) ≡ q x) → (xs : List A)
    → position_or_len p (map f xs) ≡ position_or_len q xs
prefix-map f p q same [] = refl
prefix-map f p q same (x ∷ xs) = rw (same x, prefix-map f p q same xs) refl

pub position-map : {A B : Type 0} (f : A → B) (p : B → Bool) (q : A → Bool) → ((x : A) → p (f x) ≡ q x) → (xs : List A)
    → position p (map f xs) ≡ position q xs
position-map f p q same xs = rw (prefix-map f p q same xs, length-map xs f) refl

-- how many pass
pub count-map : {A B : Type 0} (f : A → B) (p : B → Bool) → (xs : List A) → length (filter p (map f xs)) ≡ length (filter (λ x. p (f x)) xs)
count-map f p [] = refl
count-map f p (x ∷ xs) = by (p (f x)) (f x) x (filter p (map f xs)) (filter (λ x. p (f x)) xs) (count-map f p xs)
  where
    by : {A B : Type 0} (passes : Bool) (y : B) (x : A) (ys : List B) (xs : List A) → length ys ≡ length xs → length (cond passes (y ∷ ys) ys) ≡ length (cond passes (x ∷ xs) xs)
    by true y x ys xs e = ap suc e
    by false y x ys xs e = e

-- the numbers from n on of the elements that pass
abbrev pub numbers_from : {A : Type 0} → ℕ → (A → Bool) → List A → List ℕ
numbers_from n p xs = map (λ numbered. numbered.0) (filter (λ numbered. p numbered.1) (enumerate_from n xs))

pub numbers_from-cons : {A : Type 0} (n : ℕ) (p : A → Bool) (x : A) (xs : List A) → numbers_from n p (x ∷ xs) ≡ cond (p x) (n ∷ []) [] ++ numbers_from (n + 1) p xs
numbers_from-cons n p x xs = by (p x) n x (filter (λ numbered. p numbered.1) (enumerate_from (n + 1) xs))
  where
    by : {A : Type 0} (passes : Bool) (n : ℕ) (x : A) (rest : List (ℕ × A)) → map (λ numbered. numbered.0) (cond passes ((n, x) ∷ rest) rest) ≡ cond passes (n ∷ []) [] ++ map (λ numbered. numbered.0) rest
    by true n x rest = refl
    by false n x rest = refl

numbers_from-map : {A B : Type 0} (f : A → B) (p : B → Bool) (n : ℕ) (xs : List A) → numbers_from n p (map f xs) ≡ numbers_from n (λ x. p (f x)) xs
numbers_from-map f p n [] = refl
numbers_from-map f p n (x ∷ xs) =
    numbers_from-cons n p (f x) (map f xs)
    ∙ ap (λ numbers. cond (p (f x)) (n ∷ []) [] ++ numbers) (numbers_from-map f p (n + 1) xs)
    ∙ sym (numbers_from-cons n (λ x. p (f x)) x xs)

pub numbers-map : {A B : Type 0} (f : A → B) (p : B → Bool) (xs : List A) → numbers_of p (map f xs) ≡ numbers_of (λ x. p (f x)) xs
numbers-map f p xs = numbers_from-map f p 0 xs
