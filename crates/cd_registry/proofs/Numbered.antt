-- Rows that are shown of elements which have their numbers: what is asked of the rows, by the elements.
use Rattle.cd_registry.proofs.Places.{numbers_from, numbers_from-cons}
use Rattle.cd_registry.specs.Rows.{Row, numbers_of, with_row}
use Rattle.std.proofs.Common.{Bool, List, None, Option, Some, [], ap, arith, cond, eq-eqb, false, length, map, nat_eq, refl, rules, suc, sym, true, zero, ℕ, ◌++◌, ◌+◌, ◌<◌, ◌∙◌, ◌∷◌, ◌≡◌, ◌≤◌}
use Rattle.std.proofs.lemmas.Bool.{ne_eqb}
use Rattle.std.proofs.lemmas.Iterator.Adapters.{position_from-zero}
use Rattle.std.specs.List.{enumerate_from, filter, find, position, position_from}
use Rattle.std.specs.Option.{option_map}

-- the elements have the numbers from n on, in order
abbrev pub AreNumbered : {A : Type 0} → (A → ℕ) → ℕ → List A → Type 0
AreNumbered number n [] = Unit {0}
AreNumbered number n (x ∷ xs) = (number x ≡ n) × AreNumbered number (n + 1) xs

-- one more, behind the others
pub numbered_push : {A : Type 0} (number : A → ℕ) (n : ℕ) (xs : List A) (x : A) → AreNumbered number n xs → number x ≡ n + length xs → AreNumbered number n (xs ++ x ∷ [])
numbered_push number n [] x are is = (omega arith, tt)
numbered_push number n (y ∷ xs) x are is = (are.0, numbered_push number (n + 1) xs x are.1 (omega arith))

-- the numbers of those that pass
pub numbers_from-numbered : {A : Type 0} (number : A → ℕ) (n : ℕ) (p : A → Bool) (xs : List A) → AreNumbered number n xs → numbers_from n p xs ≡ map number (filter p xs)
numbers_from-numbered number n p [] are = refl
numbers_from-numbered {A = A} number n p (x ∷ xs) are =
    numbers_from-cons n p x xs
    ∙ ap (λ rest. cond (p x) (n ∷ []) [] ++ rest) (numbers_from-numbered number (n + 1) p xs are.1)
    ∙ by (p x) x (filter p xs) are.0
  where
    by : (passes : Bool) (x : A) (rest : List A) → number x ≡ n → cond passes (n ∷ []) [] ++ map number rest ≡ map number (cond passes (x ∷ rest) rest)
    by true x rest is = ap (λ m. m ∷ map number rest) (sym is)
    by false x rest is = refl

pub numbers-numbered : {A : Type 0} (number : A → ℕ) (p : A → Bool) (xs : List A) → AreNumbered number 0 xs → numbers_of p xs ≡ map number (filter p xs)
numbers-numbered number p xs are = numbers_from-numbered number 0 p xs are

-- the number of the first that passes
pub position_from-numbered : {A : Type 0} (number : A → ℕ) (n : ℕ) (p : A → Bool) (xs : List A) → AreNumbered number n xs → position_from p n xs ≡ option_map number (find p xs)
position_from-numbered number n p [] are = refl
position_from-numbered number n p (x ∷ xs) are = by (p x) are.0 (position_from-numbered number (n + 1) p xs are.1)
  where
    by : (passes : Bool) → number x ≡ n → position_from p (n + 1) xs ≡ option_map number (find p xs)
        → cond passes (Some n) (position_from p (n + 1) xs) ≡ option_map number (cond passes (Some x) (find p xs))
    by true is rest = ap Some (sym is)
    by false is rest = rest

pub position-numbered : {A : Type 0} (number : A → ℕ) (p : A → Bool) (xs : List A) → AreNumbered number 0 xs → position p xs ≡ option_map number (find p xs)
position-numbered number p xs are = position_from-zero p xs ∙ position_from-numbered number 0 p xs are

-- rows of elements with greater numbers stay
rows_stay : {A : Type 0} (number : A → ℕ) (show change : A → Row) (n m : ℕ) (xs : List A) → n < m → AreNumbered number m xs
    → map (λ x. cond (nat_eq (number x) n) (change x) (show x)) xs ≡ map show xs
rows_stay number show change n m [] below are = refl
rows_stay number show change n m (x ∷ xs) below are =
    let other : nat_eq (number x) n ≡ false = ne_eqb (number x) n (λ e. omega (arith, e, are.0)) in
    rw other (ap (λ rows. show x ∷ rows) (rows_stay number show change n (m + 1) xs (omega arith) are.1))

with_row_from : {A : Type 0} (number : A → ℕ) (show : A → Row) (step : Row → Row) (n k : ℕ) (xs : List A) → AreNumbered number n xs
    → with_row k step (map show xs) ≡ map (λ x. cond (nat_eq (number x) (n + k)) (step (show x)) (show x)) xs
with_row_from number show step n k [] are = refl
with_row_from number show step n zero (x ∷ xs) are =
    let same : nat_eq (number x) (n + 0) ≡ true = eq-eqb (number x) (n + 0) (omega (arith, are.0)) in
    rw same (ap (λ rows. step (show x) ∷ rows) (sym (rows_stay number show (λ x. step (show x)) (n + 0) (n + 1) xs (omega arith) are.1)))
with_row_from number show step n (suc k) (x ∷ xs) are =
    let other : nat_eq (number x) (n + suc k) ≡ false = ne_eqb (number x) (n + suc k) (λ e. omega (arith, e, are.0)) in
    let next : (n + 1) + k ≡ n + suc k = omega arith in
    rw other (ap (λ rows. show x ∷ rows)
    (with_row_from number show step (n + 1) k xs are.1 ∙ ap (λ m. map (λ x. cond (nat_eq (number x) m) (step (show x)) (show x)) xs) next))

-- a change of the row of a number is one of the row of the element that has it
pub with_row-numbered : {A : Type 0} (number : A → ℕ) (show : A → Row) (step : Row → Row) (reg : ℕ) (xs : List A) → AreNumbered number 0 xs
    → with_row reg step (map show xs) ≡ map (λ x. cond (nat_eq (number x) reg) (step (show x)) (show x)) xs
with_row-numbered number show step reg xs are =
    with_row_from number show step 0 reg xs are ∙ (let zero_in : 0 + reg ≡ reg = omega arith in ap (λ m. map (λ x. cond (nat_eq (number x) m) (step (show x)) (show x)) xs) zero_in)
