-- The first of reads.
use Rattle.cd_sched.specs.Due.{first_of, is_before, sooner}
use Rattle.cd_sched.specs.NextReads.{IsLeast, bit, is_same}
use Rattle.std.proofs.Common.{Bool, List, None, Option, Some, [], ap, ap₂, arith, cond, false, refl, sym, true, ℕ, ◌+◌, ◌<◌, ◌∙◌, ◌∷◌, ◌≡◌}
use Rattle.std.proofs.lemmas.List.Sums.{sum_by-cons}
use Rattle.std.specs.List.{count_by}

abbrev pub NextReads : Type 0
NextReads = List (ℕ × ℕ)

-- one more read, and how many pass a test
pub count_more : (p : ℕ × ℕ → Bool) (t : ℕ × ℕ) (ts : NextReads) → count_by p (t ∷ ts) ≡ bit (p t) + count_by p ts
count_more p t ts = sum_by-cons (λ (u : ℕ × ℕ). bit (p u)) t ts

pub same_read : (a b : ℕ × ℕ) → is_same a b ≡ true → a ≡ b
same_read a b h = ap₂ (λ (m n : ℕ). (m, n)) (grind (arith, h)) (grind (arith, h))

pub itself : (a : ℕ × ℕ) → is_same a a ≡ true
itself a = grind arith

-- of two reads that differ one comes before the other
one_before : (a b : ℕ × ℕ) → is_same a b ≡ false → is_before b a ≡ false → is_before a b ≡ true
one_before a b differ not = grind (arith, differ, not)

none_pass : (p : ℕ × ℕ → Bool) (t : ℕ × ℕ) (ts : NextReads) → count_by p (t ∷ ts) ≡ 0 → (p t ≡ false) × (count_by p ts ≡ 0)
none_pass p t ts none =
    elim (p t) as (λ b. bit b + count_by p ts ≡ 0 → (b ≡ false) × (count_by p ts ≡ 0)) [
      | true ↦ λ h. absurd (omega arith)
      | false ↦ λ h. (refl, omega arith)
    ] (sym (count_more p t ts) ∙ none)

-- a test that none passes the first doesn't pass
first_fails : (p : ℕ × ℕ → Bool) (ts : NextReads) (first : ℕ × ℕ) → count_by p ts ≡ 0 → first_of ts ≡ Some first → p first ≡ false
first_fails p [] first none is = absurd (cc)
first_fails p (t ∷ ts) first none is =
    let off = none_pass p t ts none in
    elim (first_of ts) as (λ (o : Option (ℕ × ℕ)). first_of ts ≡ o → sooner t o ≡ Some first → p first ≡ false) [
      | None ↦ λ _ h. let e : t ≡ first = cc in ap p (sym e) ∙ off.0
      | Some u ↦ λ there h.
          elim (is_before u t) as (λ b. cond b (Some u) (Some t) ≡ Some first → p first ≡ false) [
            | true ↦ λ k. first_fails p ts first off.1 (there ∙ k)
            | false ↦ λ k. let e : t ≡ first = cc in ap p (sym e) ∙ off.0
          ] h
    ] refl is

-- a read before which none comes is the first
pub first_is : (ts : NextReads) (o : Option (ℕ × ℕ)) → IsLeast ts o → first_of ts ≡ o
first_is ts None h = ap first_of h
first_is ts (Some read) h = least ts read h.0 h.1
  where
    least : (us : NextReads) (t : ℕ × ℕ) → 0 < count_by (is_same t) us → count_by (λ (other : ℕ × ℕ). is_before other t) us ≡ 0 → first_of us ≡ Some t
    least [] t some none = absurd (omega arith)
    least (u ∷ us) t some none =
        let off = none_pass (λ (other : ℕ × ℕ). is_before other t) u us none in
        elim (is_same t u) as (λ b. is_same t u ≡ b → bit b + count_by (is_same t) us ≡ count_by (is_same t) (u ∷ us) → sooner u (first_of us) ≡ Some t) [
          | true ↦ λ same _.
              let e : t ≡ u = same_read t u same in
              elim (first_of us) as (λ (o : Option (ℕ × ℕ)). first_of us ≡ o → sooner u o ≡ Some t) [
                | None ↦ λ _. ap (λ (v : ℕ × ℕ). Some v) (sym e)
                | Some v ↦ λ there.
                    let later : is_before v u ≡ false = ap (is_before v) (sym e) ∙ first_fails (λ (other : ℕ × ℕ). is_before other t) us v off.1 there in
                    ap (λ b. cond b (Some v) (Some u)) later ∙ ap (λ (w : ℕ × ℕ). Some w) (sym e)
              ] refl
          | false ↦ λ differ counts.
              let more : 0 < count_by (is_same t) us = omega arith in
              ap (sooner u) (least us t more off.1) ∙ ap (λ b. cond b (Some t) (Some u)) (one_before t u differ off.0)
        ] refl (sym (count_more (is_same t) u us))

never_itself : (t : ℕ × ℕ) → is_before t t ≡ false
never_itself t = grind arith

never_both : (t u : ℕ × ℕ) → is_before u t ≡ true → is_before t u ≡ false
never_both t u h = grind (arith, h)

before_later : (q t u : ℕ × ℕ) → is_before u t ≡ false → is_before q t ≡ true → is_before q u ≡ true
before_later q t u h k = grind (arith, h, k)

-- where none passes a test, none passes a stricter one
none_stricter : (p r : ℕ × ℕ → Bool) (ts : NextReads) → ((q : ℕ × ℕ) → p q ≡ true → r q ≡ true) → count_by r ts ≡ 0 → count_by p ts ≡ 0
none_stricter p r [] f none = refl
none_stricter p r (t ∷ ts) f none =
    let off = none_pass r t ts none in
    let fails : p t ≡ false = elim (p t) as (λ b. p t ≡ b → b ≡ false) [
      | true ↦ λ passes. let both : true ≡ false = sym (f t passes) ∙ off.0 in absurd (cc)
      | false ↦ λ _. refl
    ] refl in
    count_more p t ts ∙ ap (λ b. bit b + count_by p ts) fails ∙ ap (λ (n : ℕ). 0 + n) (none_stricter p r ts f off.1)

-- where none passes a test, no read that is there does
pub there_fails : (p : ℕ × ℕ → Bool) (ts : NextReads) (t : ℕ × ℕ) → count_by p ts ≡ 0 → 0 < count_by (is_same t) ts → p t ≡ false
there_fails p [] t none more = absurd (omega arith)
there_fails p (u ∷ ts) t none more =
    let off = none_pass p u ts none in
    elim (is_same t u) as (λ b. is_same t u ≡ b → bit b + count_by (is_same t) ts ≡ count_by (is_same t) (u ∷ ts) → p t ≡ false) [
      | true ↦ λ same _. ap p (same_read t u same) ∙ off.0
      | false ↦ λ _ counts. let behind : 0 < count_by (is_same t) ts = omega arith in there_fails p ts t off.1 behind
    ] refl (sym (count_more (is_same t) u ts))

-- the first of reads is among them, and none of them comes before it
pub first_least : (ts : NextReads) → IsLeast ts (first_of ts)
first_least [] = refl
first_least (t ∷ ts) =
    elim (first_of ts) as (λ (o : Option (ℕ × ℕ)). IsLeast ts o → IsLeast (t ∷ ts) (sooner t o)) [
      | None ↦ λ nil.
          let alone : count_by (λ (other : ℕ × ℕ). is_before other t) ts ≡ 0 = ap (count_by (λ (other : ℕ × ℕ). is_before other t)) nil in
          (here t ts, none_more t t ts (never_itself t) alone)
      | Some u ↦ λ least.
          elim (is_before u t) as (λ b. is_before u t ≡ b → IsLeast (t ∷ ts) (cond b (Some u) (Some t))) [
            | true ↦ λ before. (behind u t ts least.0, none_more u t ts (never_both t u before) least.1)
            | false ↦ λ not. (here t ts, none_more t t ts (never_itself t) (none_stricter (λ (other : ℕ × ℕ). is_before other t) (λ (other : ℕ × ℕ). is_before other u) ts (λ q k. before_later q t u not k) least.1))
          ] refl
    ] (first_least ts)
  where
    here : (v : ℕ × ℕ) (vs : NextReads) → 0 < count_by (is_same v) (v ∷ vs)
    here v vs = let more : count_by (is_same v) (v ∷ vs) ≡ 1 + count_by (is_same v) vs = count_more (is_same v) v vs ∙ ap (λ b. bit b + count_by (is_same v) vs) (itself v) in omega arith

    behind : (v w : ℕ × ℕ) (vs : NextReads) → 0 < count_by (is_same v) vs → 0 < count_by (is_same v) (w ∷ vs)
    behind v w vs more = omega (arith, count_more (is_same v) w vs)

    none_more : (v w : ℕ × ℕ) (vs : NextReads) → is_before w v ≡ false → count_by (λ (other : ℕ × ℕ). is_before other v) vs ≡ 0 → count_by (λ (other : ℕ × ℕ). is_before other v) (w ∷ vs) ≡ 0
    none_more v w vs off none = count_more (λ (other : ℕ × ℕ). is_before other v) w vs ∙ ap (λ b. bit b + count_by (λ (other : ℕ × ℕ). is_before other v) vs) off ∙ ap (λ (n : ℕ). 0 + n) none
