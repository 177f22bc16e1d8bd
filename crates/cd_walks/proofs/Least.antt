-- The walk that is given is a walk, and no walk of as many jumps has lesser numbers.
use Rattle.std.proofs.Common.{◌≡◌, ℕ, zero, suc, ◌+◌, ◌<◌, ◌≤◌, Bool, true, false, cond, ◌||◌, ◌&&◌, Option, None, Some, IfSome, is_some, Result, Ok, Err, IfOk, Vec, List, [], ◌∷◌, length, nat_eq, refl, sym, ap, ◌∙◌, subst, arith}
use Rattle.std.specs.Option.{option_map}
use Rattle.std.proofs.Math.Dec.{eqb}
use Rattle.std.proofs.lemmas.Map.Keys.{IsDistinct-cons}
use Rattle.std.proofs.lemmas.Map.Steps.{length-le_from_distinct_below}
use Rattle.std.specs.List.{IsDistinct, find, list_any, range_with_len}
use Rattle.cd_walks.proofs.Loops.{any_from, find_none, found, free, jumping, none_equal, not_some, same_number, witness}
use Rattle.cd_walks.specs.Walks.{IsFree, IsLeastCycle, IsWalk, comes_first, cycle, first_looped, from, leads, next, round, walk, walk_round}
use Rattle.cd_walks.specs.Walks.IsWalk.{ends, goes}

leads_to : (jumps : List (List ℕ)) (b : ℕ) {n a : ℕ} {xs : List ℕ} → IsWalk jumps b n a xs → leads jumps b n a ≡ true
leads_to jumps b ends = same b
  where
    same : (n : ℕ) → nat_eq n n ≡ true
    same n = grind arith
leads_to jumps b (goes {n = n} {start = a} {chain = c} jump rest) = any_from (leads jumps b n) nat_eq found c (from jumps a) jump (leads_to jumps b rest)

inside : (jumps : List (List ℕ)) (b : ℕ) → b < length jumps → {n a : ℕ} {xs : List ℕ} → IsWalk jumps b n a xs → a < length jumps
inside jumps b below ends = below
inside jumps b below (goes {start = a} {chain = c} jump rest) = jumping jumps a c jump

-- a search finds one that passes, and none before it does
first_in : (p : ℕ → Bool) (a n c : ℕ) → p c ≡ true → a ≤ c → c < a + n → (d : ℕ) × (find p (range_with_len a n) ≡ Some d) × (p d ≡ true) × (d ≤ c)
first_in p a zero c yes' low high = absurd (omega arith)
first_in p a (suc n) c yes' low high =
    elim (p a) as (λ t. p a ≡ t → (d : ℕ) × (cond t (Some a) (find p (range_with_len (a + 1) n)) ≡ Some d) × (p d ≡ true) × (d ≤ c)) [
      | true ↦ λ is. (a, refl, is, low)
      | false ↦ λ is. later is (λ above. first_in p (a + 1) n c yes' above (omega arith))
    ] refl
  where
    later : p a ≡ false → (a + 1 ≤ c → (d : ℕ) × (find p (range_with_len (a + 1) n) ≡ Some d) × (p d ≡ true) × (d ≤ c)) → (d : ℕ) × (find p (range_with_len (a + 1) n) ≡ Some d) × (p d ≡ true) × (d ≤ c)
    later is rest = by (nat_eq a c) refl
      where
        by : (t : Bool) → nat_eq a c ≡ t → (d : ℕ) × (find p (range_with_len (a + 1) n) ≡ Some d) × (p d ≡ true) × (d ≤ c)
        by true same = let e : p a ≡ true = subst (λ z. p z ≡ true) (sym (found a c same)) yes' in absurd (cc)
        by false other = rest (grind arith)

both : (a b : Bool) → a ≡ true → b ≡ true → (a && b) ≡ true
both a b h k = grind arith

walk_on : (jumps : List (List ℕ)) (b n a d : ℕ) → next jumps b n a ≡ Some d → walk jumps b (suc n) a ≡ a ∷ walk jumps b n d
walk_on jumps b n a d is = ap (λ o. a ∷ elim o as (λ o. List ℕ) [ None ↦ [] | Some c ↦ walk jumps b n c ]) is

-- a walk begins with its first chain
headed : (jumps : List (List ℕ)) (b n d : ℕ) → (ys : List ℕ) × (walk jumps b n d ≡ d ∷ ys)
headed jumps b zero d = ([], refl)
headed jumps b (suc n) d = (elim (next jumps b n d) as (λ o. List ℕ) [ None ↦ [] | Some c ↦ walk jumps b n c ], refl)

head_of : {J : List (List ℕ)} {b n a : ℕ} {xs : List ℕ} → IsWalk J b n a xs → (ys : List ℕ) × (xs ≡ a ∷ ys)
head_of ends = ([], refl)
head_of (goes {walk = xs} jump rest) = (xs, refl)

pub least : (jumps : List (List ℕ)) (b : ℕ) → b < length jumps → {n a : ℕ} {xs : List ℕ} → IsWalk jumps b n a xs → comes_first (walk jumps b n a) xs ≡ true
least jumps b below ends = grind arith
least jumps b below (goes {n = n} {start = a} {chain = c} {walk = xs} jump rest) =
    let p = λ (d : ℕ). list_any (nat_eq d) (from jumps a) && leads jumps b n d in
    let d = first_in p 0 (length jumps) c (both _ _ jump (leads_to jumps b rest)) (omega arith) (let l = inside jumps b below rest in omega arith) in
    let further = least jumps b below rest in
    ap (λ ys. comes_first ys (a ∷ xs)) (walk_on jumps b n a d.0 d.1) ∙ behind a (walk jumps b n d.0) xs (order d.0 d.3 further)
  where
    behind : (a : ℕ) (xs ys : List ℕ) → comes_first xs ys ≡ true → comes_first (a ∷ xs) (a ∷ ys) ≡ true
    behind a xs ys h = grind arith

    lower : (d c : ℕ) (xs ys : List ℕ) → d < c → comes_first (d ∷ xs) (c ∷ ys) ≡ true
    lower d c xs ys h = grind arith

    order : (d : ℕ) → d ≤ c → comes_first (walk jumps b n c) xs ≡ true → comes_first (walk jumps b n d) xs ≡ true
    order d le further = by (nat_eq d c) refl
      where
        by : (t : Bool) → nat_eq d c ≡ t → comes_first (walk jumps b n d) xs ≡ true
        by true same = subst (λ z. comes_first (walk jumps b n z) xs ≡ true) (sym (found d c same)) further
        by false other =
            let h = headed jumps b n d in
            let k = head_of rest in
            ap (λ ys. comes_first ys xs) h.1 ∙ ap (comes_first (d ∷ h.0)) k.1 ∙ lower d c h.0 k.0 (grind arith)

-- ---- the walk that is given

split_and : (a b : Bool) → (a && b) ≡ true → (a ≡ true) × (b ≡ true)
split_and a b h = (grind arith, grind arith)

-- a chain from which jumps lead to one of the table is in it
starts_inside : (jumps : List (List ℕ)) (b n a : ℕ) → b < length jumps → leads jumps b n a ≡ true → a < length jumps
starts_inside jumps b zero a below is = subst (λ z. z < length jumps) (found b a is) below
starts_inside jumps b (suc n) a below is =
    let w = witness (leads jumps b n) nat_eq same_number (from jumps a) is in
    jumping jumps a w.0 w.1

is_walk : (jumps : List (List ℕ)) (b n a : ℕ) → b < length jumps → leads jumps b n a ≡ true → IsWalk jumps b n a (walk jumps b n a)
is_walk jumps b zero a below is = subst (λ z. IsWalk jumps b 0 z (z ∷ [])) (found b a is) ends
is_walk jumps b (suc n) a below is =
    let p = λ (d : ℕ). list_any (nat_eq d) (from jumps a) && leads jumps b n d in
    let w = witness (leads jumps b n) nat_eq same_number (from jumps a) is in
    let d = first_in p 0 (length jumps) w.0 (both _ _ w.1 w.2) (omega arith) (let l = starts_inside jumps b n w.0 below w.2 in omega arith) in
    let parts = split_and (list_any (nat_eq d.0) (from jumps a)) (leads jumps b n d.0) d.2 in
    subst (IsWalk jumps b (suc n) a) (sym (walk_on jumps b n a d.0 d.1)) (goes parts.0 (is_walk jumps b n d.0 below parts.1))

-- what a search finds passes, and nothing before it does
finding : (p : ℕ → Bool) (a n c : ℕ) → find p (range_with_len a n) ≡ Some c → (p c ≡ true) × (a ≤ c) × (c < a + n) × ((k : ℕ) → a ≤ k → k < c → p k ≡ false)
finding p a zero c is = absurd (cc)
finding p a (suc n) c is =
    elim (p a) as (λ t. p a ≡ t → cond t (Some a) (find p (range_with_len (a + 1) n)) ≡ Some c → (p c ≡ true) × (a ≤ c) × (c < a + suc n) × ((k : ℕ) → a ≤ k → k < c → p k ≡ false)) [
      | true ↦ λ here h.
          let e : a ≡ c = cc in
          (subst (λ z. p z ≡ true) e here, omega arith, omega arith, λ k low high. absurd (omega arith))
      | false ↦ λ not_here h.
          let more = finding p (a + 1) n c h in
          (more.0, (let l = more.1 in omega arith), (let l = more.2 in omega arith), λ k low high. at k (nat_eq k a) refl not_here low (λ past. more.3 k past high))
    ] refl is
  where
    at : (k : ℕ) (t : Bool) → nat_eq k a ≡ t → p a ≡ false → a ≤ k → (a + 1 ≤ k → p k ≡ false) → p k ≡ false
    at k true same no' low later = subst (λ z. p z ≡ false) (sym (found k a same)) no'
    at k false other no' low later = later (grind arith)

-- ---- a shortest walk comes to no chain twice, so it has fewer jumps than there are chains

-- from each chain of a walk at most as many jumps lead to its end
onward : (jumps : List (List ℕ)) (b : ℕ) {n a : ℕ} {xs : List ℕ} → IsWalk jumps b n a xs → (c : ℕ) → list_any (eqb c) xs ≡ true → (k : ℕ) × (k ≤ n) × (leads jumps b k c ≡ true)
onward jumps b ends c e = (0, omega arith, grind arith)
onward jumps b (goes {n = n} {start = a} {walk = xs} jump rest) c e =
    elim (nat_eq c a) as (λ t. nat_eq c a ≡ t → (t || list_any (eqb c) xs) ≡ true → (k : ℕ) × (k ≤ suc n) × (leads jumps b k c ≡ true)) [
      | true ↦ λ is _. (suc n, omega arith, subst (λ z. leads jumps b (suc n) z ≡ true) (sym (found c a is)) (leads_to jumps b (goes jump rest)))
      | false ↦ λ _ more. let r = onward jumps b rest c more in (r.0, (let l = r.1 in omega arith), r.2)
    ] refl e

-- where none is shorter, the walk comes to no chain twice
once : (jumps : List (List ℕ)) (b : ℕ) {n a : ℕ} {xs : List ℕ} → IsWalk jumps b n a xs → ((k : ℕ) → k < n → leads jumps b k a ≡ false) → IsDistinct eqb xs
once jumps b ends none = IsDistinct-cons eqb b [] tt (unfold IsDistinct in tt)
once jumps b (goes {n = n} {start = a} {chain = c} {walk = xs} jump rest) none =
    IsDistinct-cons eqb a xs (none_equal a xs (apart (list_any (eqb a) xs) refl)) (once jumps b rest (λ k fewer. further k fewer (leads jumps b k c) refl))
  where
    apart : (t : Bool) → list_any (eqb a) xs ≡ t → list_any (eqb a) xs ≡ false
    apart false is = is
    apart true is =
        let r = onward jumps b rest a is in
        let le = r.1 in
        let leading = r.2 in
        let never = none r.0 (omega arith) in
        absurd (cc)

    further : (k : ℕ) → k < n → (t : Bool) → leads jumps b k c ≡ t → leads jumps b k c ≡ false
    further k fewer false is = is
    further k fewer true is =
        let leading : leads jumps b (suc k) a ≡ true = any_from (leads jumps b k) nat_eq found c (from jumps a) jump is in
        let never = none (suc k) (omega arith) in
        absurd (cc)

-- all chains of a walk are in the table
within : (jumps : List (List ℕ)) (b : ℕ) → b < length jumps → {n a : ℕ} {xs : List ℕ} → IsWalk jumps b n a xs → (q : ℕ) → list_any (eqb q) xs ≡ true → q < length jumps
within jumps b below ends q e = grind arith
within jumps b below (goes {start = a} {chain = c} {walk = xs} jump rest) q e =
    elim (nat_eq q a) as (λ t. nat_eq q a ≡ t → (t || list_any (eqb q) xs) ≡ true → q < length jumps) [
      | true ↦ λ is _. subst (λ z. z < length jumps) (sym (found q a is)) (jumping jumps a c jump)
      | false ↦ λ _ more. within jumps b below rest q more
    ] refl e

-- a walk has one chain more than jumps
long : (jumps : List (List ℕ)) (b : ℕ) {n a : ℕ} {xs : List ℕ} → IsWalk jumps b n a xs → length xs ≡ suc n
long jumps b ends = refl
long jumps b (goes jump rest) = ap suc (long jumps b rest)

-- so a chain that doesn't reach itself by at most as many jumps as there are chains never does
never_round : (jumps : List (List ℕ)) (a : ℕ) → a < length jumps → round jumps a ≡ None → (n : ℕ) → leads jumps a (suc n) a ≡ false
never_round jumps a below none n = by (leads jumps a (suc n) a) refl
  where
    by : (t : Bool) → leads jumps a (suc n) a ≡ t → leads jumps a (suc n) a ≡ false
    by false is = is
    by true is =
        let w = witness (leads jumps a n) nat_eq same_number (from jumps a) is in
        let p = λ (k : ℕ). leads jumps a k w.0 in
        let d = first_in p 0 (suc n) n w.2 (omega arith) (omega arith) in
        let f = finding p 0 (suc n) d.0 d.1 in
        let least_walk = is_walk jumps a d.0 w.0 below f.0 in
        let many = length-le_from_distinct_below (walk jumps a d.0 w.0) (length jumps) (once jumps a least_walk (λ k fewer. f.3 k (omega arith) fewer)) (within jumps a below least_walk) in
        let l = long jumps a least_walk in
        let leading : leads jumps a (suc d.0) a ≡ true = any_from (leads jumps a d.0) nat_eq found w.0 (from jumps a) w.1 f.0 in
        let never = find_none (λ n. leads jumps a n a) 1 (length jumps) none (suc d.0) (omega arith) (omega arith) in
        absurd (cc)

some_of : {X : Type 0} (o : Option X) → is_some o ≡ true → (x : X) × (o ≡ Some x)
some_of None e = absurd (cc)
some_of (Some x) e = (x, refl)

-- the walk of a chain that reaches itself, and that no lesser one does
of_chain : (jumps : List (List ℕ)) (a m : ℕ) → first_looped jumps ≡ Some a → round jumps a ≡ Some m → (n : ℕ) × IsLeastCycle jumps a n (walk jumps a m a)
of_chain jumps a zero first count = let f = finding (λ n. leads jumps a n a) 1 (length jumps) 0 count in let l = f.1 in absurd (omega arith)
of_chain jumps a (suc n) first count =
    let f = finding (λ n. leads jumps a n a) 1 (length jumps) (suc n) count in
    let g = finding (λ a. is_some (round jumps a)) 0 (length jumps) a first in
    let below : a < length jumps = (let l = g.2 in omega arith) in (
      n,
      record {
        closed = is_walk jumps a (suc n) a below f.0;
        lowest = λ other k lower. never_round jumps other (omega arith) (not_some (round jumps other) (g.3 other (omega arith) lower)) k;
        shortest = λ k fewer. f.3 (suc k) (omega arith) (omega arith);
        least = λ others is. least jumps a below is;
      },
    )

pub given : (jumps : List (List ℕ)) (walk : List ℕ) → cycle jumps ≡ Some walk → (a : ℕ) × (n : ℕ) × IsLeastCycle jumps a n walk
given jumps found is = by (first_looped jumps) refl is
  where
    by : (o : Option ℕ) → first_looped jumps ≡ o → elim o as (λ o. Option (List ℕ)) [ None ↦ None | Some a ↦ Some (walk_round jumps a (round jumps a)) ] ≡ Some found → (a : ℕ) × (n : ℕ) × IsLeastCycle jumps a n found
    by None first e = absurd (cc)
    by (Some a) first e =
        let g = finding (λ a. is_some (round jumps a)) 0 (length jumps) a first in
        let count = some_of (round jumps a) g.0 in
        let there = of_chain jumps a count.0 first count.1 in
        let same : walk jumps a count.0 a ≡ found = sym (ap (walk_round jumps a) count.1) ∙ inner _ _ e in
        (a, there.0, subst (IsLeastCycle jumps a there.0) same there.1)
      where
        inner : (xs ys : List ℕ) → Some xs ≡ Some ys → xs ≡ ys
        inner xs ys e = cc

-- ---- what is told of an answer

pub free_of : {Z : Type 0} (jumps : List (List ℕ)) (found : Option (Vec ℕ Z)) → option_map (λ walk. walk.items) found ≡ cycle jumps → found ≡ None → IsFree jumps
free_of jumps None is none = free jumps (sym is)
free_of jumps (Some walk) is none = absurd (cc)

pub least_of : {Z : Type 0} (jumps : List (List ℕ)) (found : Option (Vec ℕ Z)) → option_map (λ walk. walk.items) found ≡ cycle jumps → IfSome found (λ walk. (chain : ℕ) × (n : ℕ) × IsLeastCycle jumps chain n walk.items)
least_of jumps None is = tt
least_of jumps (Some walk) is = given jumps walk.items (sym is)

pub on_ok : {T E : Type 0} (P Q : T → Type 0) (r : Result T E) → ((x : T) → P x → Q x) → IfOk r P → IfOk r Q
on_ok P Q (Ok x) f h = f x h
on_ok P Q (Err e) f h = tt
