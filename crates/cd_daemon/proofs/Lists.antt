-- Lists of elements that have their numbers, and what is found in them.
use Rattle.cd_registry.proofs.Numbered.{AreNumbered}
use Rattle.std.proofs.Common.{Bool, IsSomeAnd, List, None, Option, Some, [], ap, arith, cond, drop, false, length, map, nat_lt, refl, slice_get, subst, suc, sym, true, zero, ℕ, ◌&&◌, ◌++◌, ◌+◌, ◌∙◌, ◌∷◌, ◌≡◌, ◌≤◌}
use Rattle.std.proofs.lemmas.Bool.{and_parts, lt-ltb}
use Rattle.std.proofs.lemmas.Option.{none-some, same_Some}
use Rattle.std.specs.List.{filter, find, list_all}
use Rattle.std.specs.Option.{option_map}

-- two maps of a list are equal where they are so at each element
pub map_each : {A B : Type 0} (f h : A → B) (xs : List A) → ((i : ℕ) (x : A) → slice_get xs i ≡ Some x → f x ≡ h x) → map f xs ≡ map h xs
map_each f h [] same = refl
map_each f h (x ∷ xs) same =
    ap (λ y. y ∷ map f xs) (same zero x refl) ∙ ap (λ ys. h x ∷ ys) (map_each f h xs (λ i y at. same (suc i) y at))

number_from : {A : Type 0} (number : A → ℕ) (n : ℕ) (xs : List A) (i : ℕ) (x : A) → AreNumbered number n xs → slice_get xs i ≡ Some x → number x ≡ n + i
number_from number n [] i x are at = absurd (none-some x at)
number_from number n (y ∷ xs) zero x are at = ap number (sym (same_Some y x at)) ∙ (let first = are.0 in omega arith)
number_from number n (y ∷ xs) (suc i) x are at = let rest = number_from number (n + 1) xs i x are.1 at in omega arith

-- an element stands at the place that its number is
pub number_at : {A : Type 0} (number : A → ℕ) (xs : List A) (i : ℕ) (x : A) → AreNumbered number 0 xs → slice_get xs i ≡ Some x → number x ≡ i
number_at number xs i x are at = let is = number_from number 0 xs i x are at in omega arith

-- the element of a number is the one at that place
pub only_one : {A : Type 0} (number : A → ℕ) (xs : List A) (i j : ℕ) (x y : A) → AreNumbered number 0 xs → slice_get xs i ≡ Some x → number x ≡ j → slice_get xs j ≡ Some y → x ≡ y
only_one number xs i j x y are at is there =
    let here : i ≡ j = sym (number_at number xs i x are at) ∙ is in
    same_Some x y (sym at ∙ ap (λ k. slice_get xs k) here ∙ there)

numbers_below_from : {A : Type 0} (number : A → ℕ) (n m : ℕ) (xs : List A) → AreNumbered number n xs → n + length xs ≤ m → list_all (λ x. nat_lt (number x) m) xs ≡ true
numbers_below_from number n m [] are few = refl
numbers_below_from number n m (x ∷ xs) are few =
    let here : nat_lt (number x) m ≡ true = lt-ltb (number x) m (let first = are.0 in omega arith) in
    rw here (numbers_below_from number (n + 1) m xs are.1 (omega arith))

-- all numbers are below the count
pub numbers_below : {A : Type 0} (number : A → ℕ) (xs : List A) → AreNumbered number 0 xs → list_all (λ x. nat_lt (number x) (length xs)) xs ≡ true
numbers_below number xs are = numbers_below_from number 0 (length xs) xs are (omega arith)

-- what holds of all holds of those that pass a test
pub all_filter : {A : Type 0} (h p : A → Bool) (xs : List A) → list_all h xs ≡ true → list_all h (filter p xs) ≡ true
all_filter h p [] all = refl
all_filter h p (x ∷ xs) all = by (p x) (and_parts (h x) (list_all h xs) all) (all_filter h p xs (and_parts (h x) (list_all h xs) all).1)
  where
    by : (passes : Bool) → (h x ≡ true) × (list_all h xs ≡ true) → list_all h (filter p xs) ≡ true → list_all h (cond passes (x ∷ filter p xs) (filter p xs)) ≡ true
    by true two rest = rw two.0 rest
    by false two rest = rest

pub all_map : {A B : Type 0} (f : A → B) (h : B → Bool) (xs : List A) → list_all (λ x. h (f x)) xs ≡ true → list_all h (map f xs) ≡ true
all_map f h [] all = refl
all_map f h (x ∷ xs) all = let two = and_parts (h (f x)) (list_all (λ x. h (f x)) xs) all in rw two.0 (all_map f h xs two.1)

-- what is found: it passes, it stands in the list, and what holds of all holds of it
pub record IsFound {A : Type 0} (p : A → Bool) (xs : List A) (x : A) : Type 0 where
  pub place : ℕ
  pub at : slice_get xs place ≡ Some x
  pub passes : p x ≡ true

pub found_is : {A : Type 0} (p : A → Bool) (xs : List A) (x : A) → find p xs ≡ Some x → IsFound p xs x
found_is p [] x found = absurd (none-some x found)
found_is {A} p (y ∷ xs) x found = by (p y) refl (found_is p xs x) found
  where
    by : (passes : Bool) → p y ≡ passes → (find p xs ≡ Some x → IsFound p xs x) → cond passes (Some y) (find p xs) ≡ Some x → IsFound p (y ∷ xs) x
    by true passes rest found = let P : A → Type 0 = λ z. p z ≡ true in record { place = 0; at = found; passes = subst P (same_Some y x found) passes }
    by false passes rest found = let r = rest found in record { place = suc r.place; at = r.at; passes = r.passes }

pub all_at : {A : Type 0} (h : A → Bool) (xs : List A) (i : ℕ) (x : A) → list_all h xs ≡ true → slice_get xs i ≡ Some x → h x ≡ true
all_at h [] i x all at = absurd (none-some x at)
all_at h (y ∷ xs) zero x all at = ap h (sym (same_Some y x at)) ∙ (and_parts (h y) (list_all h xs) all).0
all_at h (y ∷ xs) (suc i) x all at = all_at h xs i x (and_parts (h y) (list_all h xs) all).1 at

-- the number of what is found
pub record IsNumbered {A : Type 0} (number : A → ℕ) (p : A → Bool) (xs : List A) (n : ℕ) : Type 0 where
  pub one : A
  pub found : IsFound p xs one
  pub number_is : number one ≡ n

pub numbered_is : {A : Type 0} (number : A → ℕ) (p : A → Bool) (xs : List A) (n : ℕ) → option_map number (find p xs) ≡ Some n → IsNumbered number p xs n
numbered_is {A} number p xs n is = by (find p xs) refl is
  where
    by : (o : Option A) → find p xs ≡ o → option_map number o ≡ Some n → IsNumbered number p xs n
    by None e is = absurd (none-some n is)
    by (Some x) e is = record { one = x; found = found_is p xs x e; number_is = same_Some (number x) n is }

-- to look among those that pass is to look for one that passes both
pub find_among : {A : Type 0} (p q : A → Bool) (xs : List A) → find p (filter q xs) ≡ find (λ x. q x && p x) xs
find_among p q [] = refl
find_among p q (x ∷ xs) = by (q x) (find_among p q xs)
  where
    by : (a : Bool) → find p (filter q xs) ≡ find (λ x. q x && p x) xs → find p (cond a (x ∷ filter q xs) (filter q xs)) ≡ cond (a && p x) (Some x) (find (λ x. q x && p x) xs)
    by true rest = ap (λ o. cond (p x) (Some x) o) rest
    by false rest = rest

pub find_same : {A : Type 0} (p q : A → Bool) (xs : List A) → ((x : A) → p x ≡ q x) → find p xs ≡ find q xs
find_same p q [] same = refl
find_same p q (x ∷ xs) same = ap (λ b. cond b (Some x) (find p xs)) (same x) ∙ ap (λ o. cond (q x) (Some x) o) (find_same p q xs same)

pub filter_same : {A : Type 0} (p q : A → Bool) (xs : List A) → ((x : A) → p x ≡ q x) → filter p xs ≡ filter q xs
filter_same p q [] same = refl
filter_same p q (x ∷ xs) same = ap (λ b. cond b (x ∷ filter p xs) (filter p xs)) (same x) ∙ ap (λ ys. cond (q x) (x ∷ ys) ys) (filter_same p q xs same)

pub filter_append : {A : Type 0} (p : A → Bool) (xs ys : List A) → filter p (xs ++ ys) ≡ filter p xs ++ filter p ys
filter_append p [] ys = refl
filter_append p (x ∷ xs) ys = by (p x) (filter_append p xs ys)
  where
    by : (b : Bool) → filter p (xs ++ ys) ≡ filter p xs ++ filter p ys → cond b (x ∷ filter p (xs ++ ys)) (filter p (xs ++ ys)) ≡ cond b (x ∷ filter p xs) (filter p xs) ++ filter p ys
    by true rest = ap (λ zs. x ∷ zs) rest
    by false rest = rest

-- a fact of the row at a place, of rows that are shown of elements
pub at_shown : {A B : Type 0} (show : A → B) (xs : List A) (i : ℕ) (Q : B → Type 0) → IsSomeAnd (slice_get (map show xs) i) Q → (x : A) × (slice_get xs i ≡ Some x) × Q (show x)
at_shown show [] i Q at = absurd at
at_shown show (x ∷ xs) zero Q at = (x, refl, at)
at_shown show (x ∷ xs) (suc i) Q at = at_shown show xs i Q at

-- the first element that is left
pub first_left : {A : Type 0} (n : ℕ) (xs : List A) → slice_get (drop n xs) 0 ≡ slice_get xs n
first_left zero xs = refl
first_left (suc n) [] = refl
first_left (suc n) (x ∷ xs) = first_left n xs
