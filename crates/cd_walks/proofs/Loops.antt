-- Where no chain reaches itself, no walk has as many jumps as there are chains: it would come to a chain twice.
use Rattle.std.proofs.Common.{◌≡◌, ℕ, zero, suc, ◌+◌, ◌<◌, ◌≤◌, Bool, true, false, cond, ◌||◌, Option, None, Some, is_some, List, [], ◌∷◌, length, nat_eq, nat_lt, refl, sym, ap, ◌∙◌, subst, arith}
use Rattle.std.specs.List.{find, list_any, range_with_len, AllByRecursion, IsDistinct}
use Rattle.std.proofs.Math.Dec.{eqb}
use Rattle.std.proofs.lemmas.Bool.{ltb-false}
use Rattle.std.proofs.lemmas.List.{get_or_past}
use Rattle.std.proofs.lemmas.Map.Keys.{IsDistinct-cons}
use Rattle.std.proofs.lemmas.Map.Steps.{length-le_from_distinct_below}
use Rattle.cd_walks.specs.Levels.{is_deep}
use Rattle.cd_walks.specs.Walks.{IsFree, cycle, first_looped, from, leads, round, walk_round}

-- no chain reaches itself by at most as many jumps as there are chains
record Loopless (jumps : List (List ℕ)) : Type 0 where
  never : (a n : ℕ) → a < length jumps → suc n ≤ length jumps → leads jumps a (suc n) a ≡ false

-- the chains to which a walk comes from a, one after another
data Walked (jumps : List (List ℕ)) : ℕ → List ℕ → Type 0 where
  ends : {a : ℕ} → a < length jumps → Walked jumps a []
  goes : {a b : ℕ} {xs : List ℕ} → a < length jumps → list_any (nat_eq b) (from jumps a) ≡ true → Walked jumps b xs → Walked jumps a (b ∷ xs)

-- an element that passes
pub witness : {X : Type 0} (p : X → Bool) (eq : X → X → Bool) → ((x : X) → eq x x ≡ true) → (xs : List X) → list_any p xs ≡ true → (x : X) × (list_any (eq x) xs ≡ true) × (p x ≡ true)
witness p eq same [] e = absurd (cc)
witness p eq same (x ∷ xs) e =
    elim (p x) as (λ b. p x ≡ b → (b || list_any p xs) ≡ true → (y : _) × ((eq y x || list_any (eq y) xs) ≡ true) × (p y ≡ true)) [
      | true ↦ λ is h. (x, ap (λ b. b || list_any (eq x) xs) (same x), is)
      | false ↦ λ is h. let w = witness p eq same xs h in (w.0, later (eq w.0 x) _ w.1, w.2)
    ] refl e
  where
    later : (a b : Bool) → b ≡ true → (a || b) ≡ true
    later a b h = grind arith

pub same_number : (n : ℕ) → nat_eq n n ≡ true
same_number n = grind arith

-- a chain that jumps is in the table
pub jumping : (jumps : List (List ℕ)) (a b : ℕ) → list_any (nat_eq b) (from jumps a) ≡ true → a < length jumps
jumping jumps a b e = below (nat_lt a (length jumps)) refl
  where
    below : (t : Bool) → nat_lt a (length jumps) ≡ t → a < length jumps
    below true is = grind arith
    below false is =
        let past = get_or_past jumps a [] (ltb-false _ _ is) in
        let none : list_any (nat_eq b) [] ≡ true = subst (λ xs. list_any (nat_eq b) xs ≡ true) past e in
        absurd (cc)

walked : (jumps : List (List ℕ)) (n a : ℕ) → is_deep jumps n a ≡ true → (xs : List ℕ) × (length xs ≡ n) × Walked jumps a xs
walked jumps zero a e = ([], refl, ends (grind arith))
walked jumps (suc n) a e =
    let w = witness (is_deep jumps n) nat_eq same_number (from jumps a) e in
    let rest = walked jumps n w.0 w.2 in
    (w.0 ∷ rest.0, ap suc rest.1, goes (jumping jumps a w.0 w.1) w.1 rest.2)

-- the same element
pub found : (b x : ℕ) → nat_eq b x ≡ true → b ≡ x
found b x e = grind arith

pub any_from : {X : Type 0} (p : X → Bool) (eq : X → X → Bool) → ((x y : X) → eq x y ≡ true → x ≡ y) → (x : X) (xs : List X) → list_any (eq x) xs ≡ true → p x ≡ true → list_any p xs ≡ true
any_from p eq is x [] e h = absurd (cc)
any_from p eq is x (y ∷ xs) e h =
    elim (eq x y) as (λ b. eq x y ≡ b → (b || list_any (eq x) xs) ≡ true → (p y || list_any p xs) ≡ true) [
      | true ↦ λ same _. ap (λ b. b || list_any p xs) (subst (λ z. p z ≡ true) (is x y same) h)
      | false ↦ λ _ more. later (p y) _ (any_from p eq is x xs more h)
    ] refl e
  where
    later : (a b : Bool) → b ≡ true → (a || b) ≡ true
    later a b h = grind arith

-- a chain to which a walk comes is reached by jumps
reached : (jumps : List (List ℕ)) {a : ℕ} {xs : List ℕ} → Walked jumps a xs → (b : ℕ) → list_any (nat_eq b) xs ≡ true → (n : ℕ) × (suc n ≤ length xs) × (leads jumps b (suc n) a ≡ true)
reached jumps (ends h) b e = absurd (cc)
reached jumps {a = a} (goes {b = c} {xs = xs} h jump rest) b e =
    elim (nat_eq b c) as (λ t. nat_eq b c ≡ t → (t || list_any (nat_eq b) xs) ≡ true → (n : ℕ) × (suc n ≤ suc (length xs)) × (leads jumps b (suc n) a ≡ true)) [
      | true ↦ λ is _. (0, omega arith, any_from (nat_eq b) nat_eq found c (from jumps a) jump is)
      | false ↦ λ _ more.
          let r = reached jumps rest b more in
          (suc r.0, (let l = r.1 in omega arith), any_from (leads jumps b (suc r.0)) nat_eq found c (from jumps a) jump r.2)
    ] refl e

-- all chains of a walk are in the table
within : (jumps : List (List ℕ)) {a : ℕ} {xs : List ℕ} → Walked jumps a xs → (q : ℕ) → list_any (eqb q) (a ∷ xs) ≡ true → q < length jumps
within jumps {a = a} (ends h) q e = grind arith
within jumps {a = a} (goes {b = c} {xs = xs} h jump rest) q e =
    elim (nat_eq q a) as (λ t. nat_eq q a ≡ t → (t || list_any (eqb q) (c ∷ xs)) ≡ true → q < length jumps) [
      | true ↦ λ is _. subst (λ z. z < length jumps) (sym (found q a is)) h
      | false ↦ λ _ more. within jumps rest q more
    ] refl e

pub none_equal : (a : ℕ) (xs : List ℕ) → list_any (eqb a) xs ≡ false → AllByRecursion (λ y. eqb a y ≡ false) xs
none_equal a [] e = tt
none_equal a (x ∷ xs) e = (first (eqb a x) _ e, none_equal a xs (second (eqb a x) _ e))
  where
    first : (s t : Bool) → (s || t) ≡ false → s ≡ false
    first s t h = grind arith

    second : (s t : Bool) → (s || t) ≡ false → t ≡ false
    second s t h = grind arith

distinct : (jumps : List (List ℕ)) → Loopless jumps → {a : ℕ} {xs : List ℕ} → Walked jumps a xs → length xs ≤ length jumps → IsDistinct eqb (a ∷ xs)
distinct jumps none {a = a} (ends h) l = IsDistinct-cons eqb a [] tt (unfold IsDistinct in tt)
distinct jumps none {a = a} (goes {b = c} {xs = xs} h jump rest) l =
    IsDistinct-cons eqb a (c ∷ xs) (none_equal a (c ∷ xs) (apart (list_any (eqb a) (c ∷ xs)) refl)) (distinct jumps none rest (omega arith))
  where
    apart : (t : Bool) → list_any (eqb a) (c ∷ xs) ≡ t → list_any (eqb a) (c ∷ xs) ≡ false
    apart false is = is
    apart true is =
        let r = reached jumps (goes h jump rest) a is in
        let le = r.1 in
        let never = none.never a r.0 h (omega arith) in
        let yes = r.2 in
        absurd (cc)

flat : (jumps : List (List ℕ)) → Loopless jumps → (a : ℕ) → is_deep jumps (length jumps) a ≡ false
flat jumps none a = no (is_deep jumps (length jumps) a) refl
  where
    no : (t : Bool) → is_deep jumps (length jumps) a ≡ t → is_deep jumps (length jumps) a ≡ false
    no false is = is
    no true is =
        let w = walked jumps (length jumps) a is in
        let many = length-le_from_distinct_below (a ∷ w.0) (length jumps) (distinct jumps none w.2 (let l = w.1 in omega arith)) (within jumps w.2) in
        let l = w.1 in
        absurd (omega arith)

-- ---- no least cycle, no cycle

pub find_none : (p : ℕ → Bool) (a n : ℕ) → find p (range_with_len a n) ≡ None → (k : ℕ) → a ≤ k → k < a + n → p k ≡ false
find_none p a zero e k low high = absurd (omega arith)
find_none p a (suc n) e k low high =
    elim (p a) as (λ t. p a ≡ t → cond t (Some a) (find p (range_with_len (a + 1) n)) ≡ None → p k ≡ false) [
      | true ↦ λ is h. absurd (cc)
      | false ↦ λ is h. same_or_later (nat_eq k a) refl is (λ past. find_none p (a + 1) n h k past (omega arith))
    ] refl e
  where
    same_or_later : (t : Bool) → nat_eq k a ≡ t → p a ≡ false → (a + 1 ≤ k → p k ≡ false) → p k ≡ false
    same_or_later true same is later = subst (λ z. p z ≡ false) (sym (found k a same)) is
    same_or_later false other is later = later (grind arith)

pub not_some : {X : Type 0} (o : Option X) → is_some o ≡ false → o ≡ None
not_some None e = refl
not_some (Some x) e = absurd (cc)

-- where no walk is given, no chain reaches itself by so few jumps
loopless : (jumps : List (List ℕ)) → cycle jumps ≡ None → Loopless jumps
loopless jumps none = record {
  never = λ a n below few. find_none (λ n. leads jumps a n a) 1 (length jumps) (not_some (round jumps a) (find_none (λ a. is_some (round jumps a)) 0 (length jumps) no_first a (omega arith) (omega arith))) (suc n) (omega arith) (omega arith);
}
  where
    empty : (o : Option ℕ) → elim o as (λ o. Option (List ℕ)) [ None ↦ None | Some a ↦ Some (walk_round jumps a (round jumps a)) ] ≡ None → o ≡ None
    empty None e = refl
    empty (Some a) e = absurd (cc)

    no_first : first_looped jumps ≡ None
    no_first = empty (first_looped jumps) none

-- ---- a chain that reaches itself begins walks of any number of jumps

find_all_false : (p : ℕ → Bool) → ((k : ℕ) → p k ≡ false) → (xs : List ℕ) → find p xs ≡ None
find_all_false p none [] = refl
find_all_false p none (x ∷ xs) = ap (λ b. cond b (Some x) (find p xs)) (none x) ∙ find_all_false p none xs

begins : (jumps : List (List ℕ)) (a n : ℕ) → a < length jumps → leads jumps a (suc n) a ≡ true → (k m c : ℕ) → leads jumps a m c ≡ true → is_deep jumps k c ≡ true
begins jumps a n below loop zero zero c e = let same = found a c e in grind arith
begins jumps a n below loop zero (suc m) c e =
    let w = witness (leads jumps a m) nat_eq same_number (from jumps c) e in
    let low = jumping jumps c w.0 w.1 in
    grind arith
begins jumps a n below loop (suc k) zero c e =
    let w = witness (leads jumps a n) nat_eq same_number (from jumps a) loop in
    subst (λ c. list_any (is_deep jumps k) (from jumps c) ≡ true) (found a c e) (any_from (is_deep jumps k) nat_eq found w.0 (from jumps a) w.1 (begins jumps a n below loop k n w.0 w.2))
begins jumps a n below loop (suc k) (suc m) c e =
    let w = witness (leads jumps a m) nat_eq same_number (from jumps c) e in
    any_from (is_deep jumps k) nat_eq found w.0 (from jumps c) w.1 (begins jumps a n below loop k m w.0 w.2)

-- where no walk of so many jumps begins anywhere, no chain reaches itself
pub no_cycle : (jumps : List (List ℕ)) (k : ℕ) → ((c : ℕ) → is_deep jumps k c ≡ false) → cycle jumps ≡ None
no_cycle jumps k none = ap (λ o. elim o as (λ o. Option (List ℕ)) [ None ↦ None | Some a ↦ Some (walk_round jumps a (round jumps a)) ]) (find_all_false (λ a. is_some (round jumps a)) (λ a. ap is_some (no_round a)) (range_with_len 0 (length jumps)))
  where
    never : (a n : ℕ) → leads jumps a (suc n) a ≡ false
    never a n = by (leads jumps a (suc n) a) refl
      where
        by : (t : Bool) → leads jumps a (suc n) a ≡ t → leads jumps a (suc n) a ≡ false
        by false is = is
        by true is =
            let w = witness (leads jumps a n) nat_eq same_number (from jumps a) is in
            let low = jumping jumps a w.0 w.1 in
            let yes' = begins jumps a n low is k (suc n) a is in
            let no' = none a in
            absurd (cc)

    in_range_false : (a i n : ℕ) → find (λ n. leads jumps a n a) (range_with_len (suc i) n) ≡ None
    in_range_false a i zero = refl
    in_range_false a i (suc n) = ap (λ b. cond b (Some (suc i)) (find (λ n. leads jumps a n a) (range_with_len (suc i + 1) n))) (never a i) ∙ ap (λ m. find (λ n. leads jumps a n a) (range_with_len m n)) (more i) ∙ in_range_false a (suc i) n
      where
        more : (i : ℕ) → suc i + 1 ≡ suc (suc i)
        more i = omega arith

    no_round : (a : ℕ) → round jumps a ≡ None
    no_round a = in_range_false a 0 (length jumps)

-- ---- where no walk is given, no chain reaches itself

pub free : (jumps : List (List ℕ)) → cycle jumps ≡ None → IsFree jumps
free jumps none = record { never = λ a n. by a n (leads jumps a (suc n) a) refl }
  where
    by : (a n : ℕ) (t : Bool) → leads jumps a (suc n) a ≡ t → leads jumps a (suc n) a ≡ false
    by a n false is = is
    by a n true is =
        let w = witness (leads jumps a n) nat_eq same_number (from jumps a) is in
        let low = jumping jumps a w.0 w.1 in
        let yes' = begins jumps a n low is (length jumps) (suc n) a is in
        let no' = flat jumps (loopless jumps none) a in
        absurd (cc)

-- .. and no walk has as many jumps as there are chains
pub shallow : (jumps : List (List ℕ)) → IsFree jumps → (a : ℕ) → is_deep jumps (length jumps) a ≡ false
shallow jumps free a = flat jumps (record { never = λ b n _ _. free.never b n }) a
