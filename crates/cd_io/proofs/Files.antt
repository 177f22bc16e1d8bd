-- The files of a world, searched by their paths.
use Rattle.cd_io.specs.World.{FileTells, after_opening, later, later_texts, opening}
use Rattle.std.proofs.Common.{Bool, List, None, Option, Some, [], ap, arith, cond, drop, false, get_or, length, length-drop, map, nat_lt, not, one-add, refl, set, sym, true, ℕ, ◌+◌, ◌-◌, ◌<◌, ◌∙◌, ◌∷◌, ◌≡◌, ◌≤◌}
use Rattle.std.proofs.lemmas.Bool.Decides.{nat_tests}
use Rattle.std.proofs.lemmas.Bool.{cond-true, ltb-true}
use Rattle.std.proofs.lemmas.List.{drop-drop, drop-map, length-map}
use Rattle.std.proofs.lemmas.Option.{cond_some}
use Rattle.std.specs.List.{find, position, position_or_len, slice_get}
use Rattle.std.specs.Option.{option_and_then, option_map}
use Rattle.std.specs.Str.{bytes_eq}

-- the place that was found is the first that passes, and is within the list
pub place_found : {A : Type 0} (p : A → Bool) (xs : List A) (i : ℕ) → position p xs ≡ Some i
    → (position_or_len p xs ≡ i) × (i < length xs)
place_found p xs i found =
    let both = cond_some _ _ _ found in
    let within : position_or_len p xs < length xs = ltb-true _ _ both.0 in
    let same : position_or_len p xs ≡ i = both.1 in
    (same, omega (arith, same, within))

pub place_missed : {A : Type 0} (p : A → Bool) (xs : List A) → position p xs ≡ None → length xs ≤ position_or_len p xs
place_missed p xs missed = by (position_or_len p xs) (length xs) missed
  where
    by : (a b : ℕ) → cond (nat_lt a b) (Some a) None ≡ None → b ≤ a
    by a b missed = grind (arith, nat_tests)

find_first : {A : Type 0} (p : A → Bool) (xs : List A) (d : A) → position_or_len p xs < length xs
    → find p xs ≡ Some (get_or xs (position_or_len p xs) d)
find_first p [] d within = absurd (omega arith)
find_first p (x ∷ xs) d within = by (p x) x xs (position_or_len p xs) (find p xs) d within (find_first p xs d)
  where
    by : {A : Type 0} (b : Bool) (x : A) (xs : List A) (k : ℕ) (f : Option A) (d : A) → cond (not b) (1 + k) 0 < length (x ∷ xs)
        → (k < length xs → f ≡ Some (get_or xs k d)) → cond b (Some x) f ≡ Some (get_or (x ∷ xs) (cond (not b) (1 + k) 0) d)
    by true x xs k f d within rest = refl
    by false x xs k f d within rest = rw one-add (rest (omega arith))

find_none : {A : Type 0} (p : A → Bool) (xs : List A) → length xs ≤ position_or_len p xs → find p xs ≡ None
find_none p [] past = refl
find_none p (x ∷ xs) past = by (p x) x xs (position_or_len p xs) (find p xs) past (find_none p xs)
  where
    by : {A : Type 0} (b : Bool) (x : A) (xs : List A) (k : ℕ) (f : Option A) → length (x ∷ xs) ≤ cond (not b) (1 + k) 0
        → (length xs ≤ k → f ≡ None) → cond b (Some x) f ≡ None
    by true x xs k f past rest = absurd (omega arith)
    by false x xs k f past rest = rest (omega arith)

find-map : {A B : Type 0} (f : A → B) (p : B → Bool) (xs : List A) → find p (map f xs) ≡ option_map f (find (λ x. p (f x)) xs)
find-map f p [] = refl
find-map f p (x ∷ xs) = by (p (f x)) f x (find p (map f xs)) (find (λ y. p (f y)) xs) (find-map f p xs)
  where
    by : {A B : Type 0} (b : Bool) (f : A → B) (x : A) (r : Option B) (s : Option A) → r ≡ option_map f s
        → cond b (Some (f x)) r ≡ option_map f (cond b (Some x) s)
    by true f x r s same = refl
    by false f x r s same = same

-- where no file lies at a path, its opening finds nothing
pub opens_nothing : {A : Type 0} (shown : A → FileTells) (path : List ℕ) (xs : List A)
    → position (λ x. bytes_eq (shown x).path path) xs ≡ None → opening path (map shown xs) ≡ None
opens_nothing shown path xs missed =
    let test : FileTells → Bool = λ file. bytes_eq file.path path in
    let none : find (λ x. test (shown x)) xs ≡ None = find_none _ xs (place_missed _ xs missed) in
    ap (option_and_then (λ (file : FileTells). slice_get file.texts 0)) (find-map shown test xs ∙ ap (option_map shown) none)

-- the first that passes is found
pub found_at : {A : Type 0} (p : A → Bool) (xs : List A) (i : ℕ) (d : A) → position p xs ≡ Some i → find p xs ≡ Some (get_or xs i d)
found_at p xs i d found =
    let at = place_found p xs i found in
    let within : position_or_len p xs < length xs = omega (arith, at.0, at.1) in
    find_first p xs d within ∙ ap (λ (k : ℕ). Some (get_or xs k d)) at.0

-- the first file that lies at a path is opened
pub opens_first : {A : Type 0} (shown : A → FileTells) (path : List ℕ) (xs : List A) (i : ℕ) (d : A)
    → position (λ x. bytes_eq (shown x).path path) xs ≡ Some i
    → opening path (map shown xs) ≡ slice_get (shown (get_or xs i d)).texts 0
opens_first {A} shown path xs i d found =
    let test : FileTells → Bool = λ file. bytes_eq file.path path in
    let first : find (λ x. test (shown x)) xs ≡ Some (get_or xs i d) = found_at (λ x. test (shown x)) xs i d found in
    ap (option_and_then (λ (file : FileTells). slice_get file.texts 0)) (find-map shown test xs ∙ ap (option_map shown) first)

goes_on : {A : Type 0} (shown : A → FileTells) (path : List ℕ) (xs : List A) (y d : A)
    → position_or_len (λ x. bytes_eq (shown x).path path) xs < length xs
    → shown y ≡ later (shown (get_or xs (position_or_len (λ x. bytes_eq (shown x).path path) xs) d))
    → map shown (set xs (position_or_len (λ x. bytes_eq (shown x).path path) xs) y) ≡ after_opening path (map shown xs)
goes_on shown path [] y d within is = absurd (omega arith)
goes_on shown path (x ∷ xs) y d within is =
    by (bytes_eq (shown x).path path) shown x xs (position_or_len (λ x. bytes_eq (shown x).path path) xs) y d
    (after_opening path (map shown xs)) within is (goes_on shown path xs y d)
  where
    by : {A : Type 0} (b : Bool) (shown : A → FileTells) (x : A) (xs : List A) (k : ℕ) (y d : A) (rest : List FileTells)
        → cond (not b) (1 + k) 0 < length (x ∷ xs)
        → shown y ≡ later (shown (get_or (x ∷ xs) (cond (not b) (1 + k) 0) d))
        → (k < length xs → shown y ≡ later (shown (get_or xs k d)) → map shown (set xs k y) ≡ rest)
        → map shown (set (x ∷ xs) (cond (not b) (1 + k) 0) y) ≡ cond b (later (shown x) ∷ map shown xs) (shown x ∷ rest)
    by true shown x xs k y d rest within is others = ap (λ (file : FileTells). file ∷ map shown xs) is
    by false shown x xs k y d rest within is others =
        rw one-add (ap (λ (files : List FileTells). shown x ∷ files) (others (omega arith) (rw one-add at is)))

-- it goes on, and the others stay
pub opened_first : {A : Type 0} (shown : A → FileTells) (path : List ℕ) (xs : List A) (i : ℕ) (y d : A)
    → position (λ x. bytes_eq (shown x).path path) xs ≡ Some i → shown y ≡ later (shown (get_or xs i d))
    → map shown (set xs i y) ≡ after_opening path (map shown xs)
opened_first {A} shown path xs i y d found is =
    let test : A → Bool = λ x. bytes_eq (shown x).path path in
    let at = place_found test xs i found in
    let here : position_or_len test xs ≡ i = at.0 in
    let within : position_or_len test xs < length xs = omega (arith, here, at.1) in
    ap (λ (k : ℕ). map shown (set xs k y)) (sym here)
    ∙ goes_on shown path xs y d within (is ∙ ap (λ (k : ℕ). later (shown (get_or xs k d))) (sym here))

-- the texts behind the first, where more than one is left
pub later_dropped : {A : Type 0} (f : A → List ℕ) (texts : List A) (opened : ℕ) → 1 < length texts - opened
    → later_texts (map f (drop opened texts)) ≡ map f (drop (opened + 1) texts)
later_dropped f texts opened more =
    let left : List (List ℕ) = map f (drop opened texts) in
    let long : 1 < length left = omega (arith, length-map (drop opened texts) f, length-drop opened texts) in
    let test : nat_lt 1 (length left) ≡ true = tested 1 (length left) long in
    cond-true (nat_lt 1 (length left)) (drop 1 left) left test
    ∙ drop-map f 1 (drop opened texts) ∙ ap (map f) (drop-drop 1 opened texts)
  where
    tested : (a b : ℕ) → a < b → nat_lt a b ≡ true
    tested a b lt = grind (arith, nat_tests)
