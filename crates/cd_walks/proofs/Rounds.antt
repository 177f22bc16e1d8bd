-- Rounds that mark the chains from which at most so many jumps lead to one.
use Rattle.std.proofs.Common.{◌≡◌, ℕ, zero, suc, ◌+◌, ◌<◌, ◌≤◌, Bool, true, false, cond, ◌||◌, None, Some, List, [], ◌∷◌, length, nat_eq, Vec, zero-add, refl, sym, ap, ◌∙◌, subst, arith}
use Rattle.std.proofs.lemmas.List.{length-map}
use Rattle.std.specs.List.{find, list_any, range_with_len}
use Rattle.cd_walks.proofs.Loops.{any_from, found, same_number, witness}
use Rattle.cd_walks.specs.Levels.{reaches}
use Rattle.cd_walks.specs.Walks.{from, items_of, leads, round}

first_fails : (s t : Bool) → (s || t) ≡ false → s ≡ false
first_fails s t h = grind arith

second_fails : (s t : Bool) → (s || t) ≡ false → t ≡ false
second_fails s t h = grind arith

both_fail : (s t : Bool) → s ≡ false → t ≡ false → (s || t) ≡ false
both_fail s t h k = grind arith

-- what fails where more fails
any_less : (p q : ℕ → Bool) → ((x : ℕ) → p x ≡ false → q x ≡ false) → (xs : List ℕ) → list_any p xs ≡ false → list_any q xs ≡ false
any_less p q less [] e = refl
any_less p q less (x ∷ xs) e = both_fail (q x) (list_any q xs) (less x (first_fails (p x) (list_any p xs) e)) (any_less p q less xs (second_fails (p x) (list_any p xs) e))

-- where at most so many jumps don't lead to a chain, no fewer do
not_within : (J : List (List ℕ)) (to n c : ℕ) → reaches J to n c ≡ false → (m : ℕ) → m < n → leads J to (suc m) c ≡ false
not_within J to zero c e m less = absurd (omega arith)
not_within J to (suc n) c e zero less =
    any_less (λ d. nat_eq to d || reaches J to n d) (nat_eq to) (λ d h. first_fails (nat_eq to d) (reaches J to n d) h) (from J c) e
not_within J to (suc n) c e (suc m) less =
    any_less (λ d. nat_eq to d || reaches J to n d) (leads J to (suc m)) (λ d h. not_within J to n d (second_fails (nat_eq to d) (reaches J to n d) h) m (omega arith)) (from J c) e

within : (J : List (List ℕ)) (to n c : ℕ) → reaches J to n c ≡ true → (m : ℕ) × (m < n) × (leads J to (suc m) c ≡ true)
within J to zero c e = absurd (cc)
within J to (suc n) c e =
    let w = witness (λ d. nat_eq to d || reaches J to n d) nat_eq same_number (from J c) e in
    elim (nat_eq to w.0) as (λ t. nat_eq to w.0 ≡ t → (t || reaches J to n w.0) ≡ true → (m : ℕ) × (m < suc n) × (leads J to (suc m) c ≡ true)) [
      | true ↦ λ is _. (0, omega arith, any_from (nat_eq to) nat_eq found w.0 (from J c) w.1 is)
      | false ↦ λ _ more.
          let r = within J to n w.0 more in
          (suc r.0, (let l = r.1 in omega arith), any_from (leads J to (suc r.0)) nat_eq found w.0 (from J c) w.1 r.2)
    ] refl w.2

-- a chain that a round marks first has just so many jumps to go
just_now : (J : List (List ℕ)) (to n c : ℕ) → reaches J to n c ≡ false → reaches J to (suc n) c ≡ true → leads J to (suc n) c ≡ true
just_now J to n c before now' = by (nat_eq w.0 n) refl
  where
    w : (m : ℕ) × (m < suc n) × (leads J to (suc m) c ≡ true)
    w = within J to (suc n) c now'

    less : nat_eq w.0 n ≡ false → w.0 < n
    less e = let l = w.1 in grind arith

    by : (t : Bool) → nat_eq w.0 n ≡ t → leads J to (suc n) c ≡ true
    by true same = subst (λ m. leads J to (suc m) c ≡ true) (found w.0 n same) w.2
    by false other = let none = not_within J to n c before w.0 (less other) in let some' = w.2 in absurd (cc)

-- a round that marks no further chain is the last that does
stays : (J : List (List ℕ)) (to n : ℕ) → reaches J to (suc n) ≡ reaches J to n → (k : ℕ) → reaches J to (k + n) ≡ reaches J to n
stays J to n same zero = ap (reaches J to) (zero-add n)
stays J to n same (suc k) =
    ap (reaches J to) (more k) ∙ ap (λ (f : ℕ → Bool). λ c. list_any (λ d. nat_eq to d || f d) (from J c)) (stays J to n same k) ∙ same
  where
    more : (k : ℕ) → suc k + n ≡ suc (k + n)
    more k = omega arith

-- ---- searches over numbers

find_at : (p : ℕ → Bool) (a n c : ℕ) → a ≤ c → c < a + n → p c ≡ true → ((k : ℕ) → a ≤ k → k < c → p k ≡ false) → find p (range_with_len a n) ≡ Some c
find_at p a zero c low high holds below = absurd (omega arith)
find_at p a (suc n) c low high holds below =
    by (nat_eq c a) refl (λ past. find_at p (a + 1) n c past (omega arith) holds (λ k from_here under. below k (omega arith) under))
  where
    by : (t : Bool) → nat_eq c a ≡ t → (a + 1 ≤ c → find p (range_with_len (a + 1) n) ≡ Some c) → cond (p a) (Some a) (find p (range_with_len (a + 1) n)) ≡ Some c
    by true same later =
        ap (λ b. cond b (Some a) (find p (range_with_len (a + 1) n))) (subst (λ z. p z ≡ true) (found c a same) holds) ∙ ap Some (sym (found c a same))
    by false other later =
        let l : a < c = grind arith in
        ap (λ b. cond b (Some a) (find p (range_with_len (a + 1) n))) (below a (omega arith) l) ∙ later (omega arith)

find_nothing : (p : ℕ → Bool) (a n : ℕ) → ((k : ℕ) → a ≤ k → k < a + n → p k ≡ false) → find p (range_with_len a n) ≡ None
find_nothing p a zero none = refl
find_nothing p a (suc n) none =
    ap (λ b. cond b (Some a) (find p (range_with_len (a + 1) n))) (none a (omega arith) (omega arith))
    ∙ find_nothing p (a + 1) n (λ k low high. none k (omega arith) (omega arith))

-- ---- what the rounds tell

many : {Z : Type 0} (jumps : List (Vec ℕ Z)) → length (items_of jumps) ≡ length jumps
many {Z = Z} jumps = length-map jumps (λ (v : Vec ℕ Z). v.items)

one_more : (n : ℕ) → suc n ≡ n + 1
one_more n = omega arith

pub found_round : {Z : Type 0} (jumps : List (Vec ℕ Z)) (a n : ℕ) → n < length jumps → reaches (items_of jumps) a n a ≡ false → reaches (items_of jumps) a (n + 1) a ≡ true → Some (n + 1) ≡ round (items_of jumps) a
found_round jumps a n inside before now' =
    let e = many jumps in
    sym (find_at (λ m. leads (items_of jumps) a m a) 1 (length (items_of jumps)) (n + 1) (omega arith) (omega arith)
    (subst (λ m. leads (items_of jumps) a m a ≡ true) (one_more n) (just_now (items_of jumps) a n a before (subst (λ m. reaches (items_of jumps) a m a ≡ true) (sym (one_more n)) now')))
    fewer)
  where
    fewer : (k : ℕ) → 1 ≤ k → k < n + 1 → leads (items_of jumps) a k a ≡ false
    fewer zero low high = absurd (omega arith)
    fewer (suc k) low high = not_within (items_of jumps) a n a before k (omega arith)

no_round : (J : List (List ℕ)) (a : ℕ) → ((m : ℕ) → m < length J → leads J a (suc m) a ≡ false) → None ≡ round J a
no_round J a none = sym (find_nothing (λ m. leads J a m a) 1 (length J) at)
  where
    at : (k : ℕ) → 1 ≤ k → k < 1 + length J → leads J a k a ≡ false
    at zero low high = absurd (omega arith)
    at (suc k) low high = none k (omega arith)

-- after as many rounds as there are chains
pub all_rounds : {Z : Type 0} (jumps : List (Vec ℕ Z)) (a n : ℕ) → length jumps ≤ n → reaches (items_of jumps) a n a ≡ false → None ≡ round (items_of jumps) a
all_rounds jumps a n past none = let e = many jumps in no_round (items_of jumps) a (λ m less. not_within (items_of jumps) a n a none m (omega arith))

-- after a round that marks no further chain
pub last_round : {Z : Type 0} (jumps : List (Vec ℕ Z)) (a n : ℕ) → reaches (items_of jumps) a (n + 1) ≡ reaches (items_of jumps) a n → reaches (items_of jumps) a n a ≡ false → None ≡ round (items_of jumps) a
last_round jumps a n same none =
    all_rounds jumps a (length jumps + n) (omega arith) (ap (λ (f : ℕ → Bool). f a) (stays (items_of jumps) a n (ap (reaches (items_of jumps) a) (one_more n) ∙ same) (length jumps)) ∙ none)
