-- Marks, one round after another, and searches over numbers.
use Rattle.std.proofs.Common.{◌≡◌, ℕ, zero, suc, ◌+◌, ◌-◌, ◌<◌, ◌≤◌, Bool, true, false, cond, ◌&&◌, ◌||◌, List, [], ◌∷◌, ◌++◌, map, length, nat_eq, nat_lt, get_or, Option, None, Some, Vec, refl, sym, ap, ◌∙◌, subst, append_assoc, length-append, arith}
use Rattle.std.proofs.Math.Path.{fun_ext}
use Rattle.std.proofs.lemmas.Bool.{ltb-false}
use Rattle.std.proofs.lemmas.List.{get_or-map, get_or_past, length-map}
use Rattle.std.specs.Bool.{beq}
use Rattle.std.specs.Cmp.Lexicographic.{pointwise}
use Rattle.std.specs.List.{find, list_any, range_with_len}
use Rattle.cd_walks.specs.Levels.{AreLevels, Marks, is_deep, reaches}
use Rattle.cd_walks.specs.Walks.{from, items_of, leads, next, walk}

-- a number is below another or not
split : (a b : ℕ) (P : Type 0) → (a < b → P) → (b ≤ a → P) → P
split a b P less more = by (nat_lt a b) refl
  where
    by : (t : Bool) → nat_lt a b ≡ t → P
    by true is = less (grind arith)
    by false is = more (ltb-false a b is)

-- ---- a round

mapped : {Z : Type 0} (jumps : List (Vec ℕ Z)) (f : ℕ → Bool) (c : ℕ) → get_or (map (λ (chains : Vec ℕ Z). list_any f chains.items) jumps) c false ≡ list_any f (from (items_of jumps) c)
mapped [] f c = refl
mapped (v ∷ vs) f zero = refl
mapped (v ∷ vs) f (suc c) = mapped vs f c

made : {Z : Type 0} (jumps : List (Vec ℕ Z)) (f g : ℕ → Bool) (new : List Bool) → new ≡ map (λ (chains : Vec ℕ Z). list_any f chains.items) jumps → f ≡ g → Marks (λ c. list_any g (from (items_of jumps) c)) new
made jumps f g new is same = record {
  at = λ c. ap (λ (marks : List Bool). get_or marks c false) is ∙ mapped jumps f c ∙ ap (λ (f : ℕ → Bool). list_any f (from (items_of jumps) c)) same;
}

alike : (old slice : List Bool) (p : ℕ → Bool) → Marks p old → slice ≡ old → (λ c. get_or slice c false) ≡ p
alike old slice p are same = ap (λ (marks : List Bool). λ c. get_or marks c false) same ∙ fun_ext are.at

one_more : (n : ℕ) → suc n ≡ n + 1
one_more n = omega arith

pub level_before : {Z : Type 0} (jumps : List (Vec ℕ Z)) (b n : ℕ) (old slice new : List Bool) → Marks (leads (items_of jumps) b n) old → slice ≡ old → new ≡ map (λ (chains : Vec ℕ Z). list_any (λ c. get_or slice c false) chains.items) jumps → Marks (leads (items_of jumps) b (n + 1)) new
level_before jumps b n old slice new are same is =
    subst (λ m. Marks (leads (items_of jumps) b m) new) (one_more n) (made jumps (λ c. get_or slice c false) (leads (items_of jumps) b n) new is (alike old slice (leads (items_of jumps) b n) are same))

pub deep_before : {Z : Type 0} (jumps : List (Vec ℕ Z)) (n : ℕ) (old slice new : List Bool) → Marks (is_deep (items_of jumps) n) old → slice ≡ old → new ≡ map (λ (chains : Vec ℕ Z). list_any (λ c. get_or slice c false) chains.items) jumps → Marks (is_deep (items_of jumps) (n + 1)) new
deep_before jumps n old slice new are same is =
    subst (λ m. Marks (is_deep (items_of jumps) m) new) (one_more n) (made jumps (λ c. get_or slice c false) (is_deep (items_of jumps) n) new is (alike old slice (is_deep (items_of jumps) n) are same))

pub near_before : {Z : Type 0} (jumps : List (Vec ℕ Z)) (b n : ℕ) (old slice new : List Bool) → Marks (reaches (items_of jumps) b n) old → slice ≡ old → new ≡ map (λ (chains : Vec ℕ Z). list_any (λ c. nat_eq b c || get_or slice c false) chains.items) jumps → Marks (reaches (items_of jumps) b (n + 1)) new
near_before jumps b n old slice new are same is =
    subst (λ m. Marks (reaches (items_of jumps) b m) new) (one_more n) (made jumps (λ c. nat_eq b c || get_or slice c false) (λ c. nat_eq b c || reaches (items_of jumps) b n c) new is (ap (λ (f : ℕ → Bool). λ c. nat_eq b c || f c) (alike old slice (reaches (items_of jumps) b n) are same)))

-- no chain is marked at first
pub none_near : (J : List (List ℕ)) (b : ℕ) (marks : List Bool) → marks ≡ [] → Marks (reaches J b 0) marks
none_near J b marks none = record { at = λ c. ap (λ (marks : List Bool). get_or marks c false) none }

-- what a mark tells
pub told : (p : ℕ → Bool) (marks slice : List Bool) (c : ℕ) (found t : Bool) → Marks p marks → slice ≡ marks → found ≡ get_or slice c false → found ≡ t → p c ≡ t
told p marks slice c found t are same read is = sym (are.at c) ∙ ap (λ (marks : List Bool). get_or marks c false) (sym same) ∙ sym read ∙ is

-- the same marks, the same chains
pub same_marks : (p q : ℕ → Bool) (marks others slice others_slice : List Bool) → Marks p marks → Marks q others → slice ≡ marks → others_slice ≡ others → slice ≡ others_slice → p ≡ q
same_marks p q marks others slice others_slice are others_are is others_is same =
    sym (fun_ext are.at) ∙ ap (λ (marks : List Bool). λ c. get_or marks c false) (sym is ∙ same ∙ others_is) ∙ fun_ext others_are.at

same_mark : (a b : Bool) → beq a b ≡ true → a ≡ b
same_mark true true e = refl
same_mark true false e = sym e
same_mark false true e = e
same_mark false false e = refl

both_true : (s t : Bool) → (s && t) ≡ true → (s ≡ true) × (t ≡ true)
both_true s t h = (grind arith, grind arith)

pub equal : (xs ys : List Bool) → pointwise beq xs ys ≡ true → xs ≡ ys
equal [] [] e = refl
equal [] (y ∷ ys) e = absurd (cc)
equal (x ∷ xs) [] e = absurd (cc)
equal (x ∷ xs) (y ∷ ys) e =
    let parts = both_true (beq x y) (pointwise beq xs ys) e in
    ap (λ z. z ∷ xs) (same_mark x y parts.0) ∙ ap (λ zs. y ∷ zs) (equal xs ys parts.1)

-- ---- kept levels

pub one_longer : {A : Type 0} (xs new : List A) (x : A) (n : ℕ) → length xs ≡ n → new ≡ xs ++ x ∷ [] → length new ≡ n + 1
one_longer xs new x n many is = ap length is ∙ length-append xs (x ∷ []) ∙ ap (λ m. m + 1) many

front : {Z : Type 0} (vs : List (Vec Bool Z)) (v : Vec Bool Z) (k : ℕ) → k < length vs → get_or (items_of (vs ++ v ∷ [])) k [] ≡ get_or (items_of vs) k []
front [] v k below = absurd (omega arith)
front (x ∷ vs) v zero below = refl
front (x ∷ vs) v (suc k) below = front vs v k (omega arith)

last : {Z : Type 0} (vs : List (Vec Bool Z)) (v : Vec Bool Z) → get_or (items_of (vs ++ v ∷ [])) (length vs) [] ≡ v.items
last [] v = refl
last (x ∷ vs) v = last vs v

pub pushed : {Z : Type 0} (J : List (List ℕ)) (b n : ℕ) (levels new : List (Vec Bool Z)) (level : Vec Bool Z) → length levels ≡ n → AreLevels J b levels → Marks (leads J b n) level.items → new ≡ levels ++ level ∷ [] → AreLevels J b new
pushed {Z = Z} J b n levels new level many are own is = subst (λ (vs : List (Vec Bool Z)). AreLevels J b vs) (sym is) (record {
  at = λ k below. split k (length levels) (Marks (leads J b k) (get_or (items_of (levels ++ level ∷ [])) k []))
      (λ less. subst (Marks (leads J b k)) (sym (front levels level k less)) (are.at k less))
      (λ past. at_last k (let e = length-append levels (level ∷ []) in omega arith));
})
  where
    at_last : (k : ℕ) → k ≡ length levels → Marks (leads J b k) (get_or (items_of (levels ++ level ∷ [])) k [])
    at_last k same =
        subst (λ k. Marks (leads J b k) (get_or (items_of (levels ++ level ∷ [])) k [])) (sym same)
        (subst (Marks (leads J b (length levels))) (sym (last levels level)) (subst (λ m. Marks (leads J b m) level.items) (sym many) own))

pub popped : {Z : Type 0} (J : List (List ℕ)) (b : ℕ) (levels rest : List (Vec Bool Z)) (level : Vec Bool Z) → AreLevels J b levels → levels ≡ rest ++ level ∷ [] → AreLevels J b rest × Marks (leads J b (length rest)) level.items
popped {Z = Z} J b levels rest level are is =
    let all = subst (λ (vs : List (Vec Bool Z)). AreLevels J b vs) is are in (
      record { at = λ k below. subst (Marks (leads J b k)) (front rest level k below) (all.at k (let e = length-append rest (level ∷ []) in omega arith)) },
      subst (Marks (leads J b (length rest))) (last rest level) (all.at (length rest) (let e = length-append rest (level ∷ []) in omega arith)),
    )

-- ---- the first level, and the others

pub first : {Z : Type 0} (jumps : List (Vec ℕ Z)) (b : ℕ) (level : List Bool) → b < length jumps → length level ≡ length jumps → ((k : ℕ) → k < length jumps → get_or level k false ≡ nat_eq b k) → Marks (leads (items_of jumps) b 0) level
first jumps b level below many at = record {
  at = λ c. split c (length jumps) (get_or level c false ≡ nat_eq b c) (at c) (λ past. get_or_past level c false (omega arith) ∙ sym (apart b c (omega arith)));
}
  where
    apart : (b c : ℕ) → b < c → nat_eq b c ≡ false
    apart b c h = grind arith

from_here : (n len : ℕ) → n < len → range_with_len n (len - n) ≡ n ∷ range_with_len (n + 1) (len - (n + 1))
from_here n len below = let e : len - n ≡ suc (len - (n + 1)) = omega arith in rw e refl

pub went_on : (p : ℕ → Bool) (n len : ℕ) → n < len → p n ≡ false → find p (range_with_len (n + 1) (len - (n + 1))) ≡ find p (range_with_len n (len - n))
went_on p n len below fails = sym (ap (find p) (from_here n len below) ∙ ap (λ b. cond b (Some n) (find p (range_with_len (n + 1) (len - (n + 1))))) fails)

pub in_range : (p : ℕ → Bool) (a n c : ℕ) → find p (range_with_len a n) ≡ Some c → c < a + n
in_range p a zero c is = absurd (cc)
in_range p a (suc n) c is =
    elim (p a) as (λ t. cond t (Some a) (find p (range_with_len (a + 1) n)) ≡ Some c → c < a + suc n) [
      | true ↦ λ h. let e : a ≡ c = cc in omega arith
      | false ↦ λ h. let l = in_range p (a + 1) n c h in omega arith
    ] is

pub next_is : {Z : Type 0} (jumps : List (Vec ℕ Z)) (b n at : ℕ) (level slice : List Bool) (chains : List ℕ) (v : Vec ℕ Z) → Marks (leads (items_of jumps) b n) level → slice ≡ level → chains ≡ v.items → at < length jumps → v ≡ get_or jumps at v
    → find (λ c. list_any (nat_eq c) chains && get_or slice c false) (range_with_len 0 (length jumps)) ≡ next (items_of jumps) b n at
next_is {Z = Z} jumps b n at level slice chains v is same own below read =
    ap (λ (f : ℕ → Bool). find (λ c. list_any (nat_eq c) chains && f c) (range_with_len 0 (length jumps))) (ap (λ (level : List Bool). λ c. get_or level c false) same ∙ fun_ext is.at)
    ∙ ap (λ (chains : List ℕ). find (λ c. list_any (nat_eq c) chains && leads (items_of jumps) b n c) (range_with_len 0 (length jumps))) (own ∙ ap (λ (v : Vec ℕ Z). v.items) read ∙ sym (get_or-map (λ (v : Vec ℕ Z). v.items) jumps at v [] below))
    ∙ ap (λ len. find (λ c. list_any (nat_eq c) (from (items_of jumps) at) && leads (items_of jumps) b n c) (range_with_len 0 len)) (sym (length-map jumps (λ (v : Vec ℕ Z). v.items)))

-- the rest of a walk after its first chain
pub rest_of : List (List ℕ) → ℕ → ℕ → Option ℕ → List ℕ
rest_of J b n None = []
rest_of J b n (Some c) = walk J b n c

walk_suc : (J : List (List ℕ)) (b n a : ℕ) (o : Option ℕ) → next J b n a ≡ o → walk J b (suc n) a ≡ a ∷ rest_of J b n o
unfolding rest_of
walk_suc J b n a o is = ap (λ (o : Option ℕ). a ∷ elim o as (λ o. List ℕ) [ None ↦ [] | Some c ↦ walk J b n c ]) is ∙ by o
  where
    by : (o : Option ℕ) → ◌≡◌ {A = List ℕ} (a ∷ elim o as (λ o. List ℕ) [ None ↦ [] | Some c ↦ walk J b n c ]) (a ∷ rest_of J b n o)
    by None = refl
    by (Some c) = refl

pub ended : (J : List (List ℕ)) (b n left a : ℕ) (walked all : List ℕ) → n + 1 ≡ left → next J b n a ≡ None → walked ++ walk J b left a ≡ all → walked ++ a ∷ [] ≡ all
unfolding rest_of
ended J b n left a walked all one is same =
    ap (λ (w : List ℕ). walked ++ w) (sym (ap (λ m. walk J b m a) (sym one ∙ suc_of n) ∙ walk_suc J b n a None is)) ∙ same
  where
    suc_of : (n : ℕ) → n + 1 ≡ suc n
    suc_of n = omega arith

pub further : (J : List (List ℕ)) (b n left a c : ℕ) (walked pushed all : List ℕ) → n + 1 ≡ left → next J b n a ≡ Some c → pushed ≡ walked ++ a ∷ [] → walked ++ walk J b left a ≡ all → pushed ++ walk J b n c ≡ all
unfolding rest_of
further J b n left a c walked pushed all one is put same =
    ap (λ (w : List ℕ). w ++ walk J b n c) put
    ∙ append_assoc walked (a ∷ []) (walk J b n c)
    ∙ ap (λ (w : List ℕ). walked ++ w) (sym (ap (λ m. walk J b m a) (sym one ∙ suc_of n) ∙ walk_suc J b n a (Some c) is)) ∙ same
  where
    suc_of : (n : ℕ) → n + 1 ≡ suc n
    suc_of n = omega arith

-- ---- where long walks begin

pub all_true : {Z : Type 0} (jumps : List (Vec ℕ Z)) (deep : List Bool) → length deep ≡ length jumps → ((k : ℕ) → k < length jumps → get_or deep k false ≡ true) → Marks (is_deep (items_of jumps) 0) deep
all_true {Z = Z} jumps deep many at = record {
  at = λ c. split c (length jumps) (get_or deep c false ≡ nat_lt c (length (items_of jumps)))
      (λ below. at c below ∙ sym (inside c (length (items_of jumps)) (let e = length-map jumps (λ (v : Vec ℕ Z). v.items) in omega arith)))
      (λ past. get_or_past deep c false (omega arith) ∙ sym (outside c (length (items_of jumps)) (let e = length-map jumps (λ (v : Vec ℕ Z). v.items) in omega arith)));
}
  where
    inside : (a b : ℕ) → a < b → nat_lt a b ≡ true
    inside a b h = grind arith

    outside : (a b : ℕ) → b ≤ a → nat_lt a b ≡ false
    outside a b h = grind arith

pub none_in : (level : List Bool) → list_any (λ b. b) level ≡ false → (c : ℕ) → get_or level c false ≡ false
none_in [] none c = refl
none_in (true ∷ level) none c = absurd (cc)
none_in (false ∷ level) none zero = refl
none_in (false ∷ level) none (suc c) = none_in level none c
