-- Where a number stands among readers in the order of their numbers.
use Rattle.cd_sched.proofs.Numbers.{above_differs, higher_is, is_same, itself, lower_differs, same_is}
use Rattle.cd_sched.specs.Place.{IsAscending, IsBelow, place_of}
use Rattle.cd_sched.specs.Schedule.{reader_at}
use Rattle.cd_sched.specs.declared.reader.Reader.{Reader}
use Rattle.std.proofs.Common.{List, None, Option, Some, [], ap, ap₂, arith, cond, false, get_or, length, nat_lt, refl, suc, sym, true, zero, ℕ, ◌<◌, ◌==◌, ◌∙◌, ◌∷◌, ◌≡◌, ◌≤◌}
use Rattle.std.specs.List.{AllWithin}
use Rattle.std.specs.Option.{is_some, unwrap_or}

abbrev pub Readers : Type 0
Readers = List (ℕ × Reader)

below_get : (n : ℕ) (ps : Readers) → IsBelow n ps → (k : ℕ) (d : ℕ × Reader) → k < length ps → n < (get_or ps k d).0
below_get n [] b k d h = absurd (omega arith)
below_get n (p ∷ ps) b zero d h = b.0
below_get n (p ∷ ps) b (suc k) d h = below_get n ps b.1 k d (omega arith)

-- the numbers don't fall
pub rising : (ps : Readers) → IsAscending ps → (i j : ℕ) (d : ℕ × Reader) → i ≤ j → j < length ps → (get_or ps i d).0 ≤ (get_or ps j d).0
rising [] a i j d le lt = absurd (omega arith)
rising (p ∷ ps) a zero zero d le lt = omega arith
rising (p ∷ ps) a zero (suc j) d le lt = let b : p.0 < (get_or ps j d).0 = below_get p.0 ps a.0 j d (omega arith) in omega arith
rising (p ∷ ps) a (suc i) zero d le lt = absurd (omega arith)
rising (p ∷ ps) a (suc i) (suc j) d le lt = rising ps a.1 i j d (omega arith) (omega arith)

-- the place that a search finds
pub place_is : (number : ℕ) (ps : Readers) (i : ℕ) → i ≤ length ps → AllWithin (λ (p : ℕ × Reader). nat_lt p.0 number ≡ true) ps 0 i
    → AllWithin (λ (p : ℕ × Reader). nat_lt p.0 number ≡ false) ps i (length ps) → i ≡ place_of number ps
place_is number [] i le t f = omega arith
place_is number (p ∷ ps) zero le t f =
    let e : nat_lt p.0 number ≡ false = f zero p (omega arith) (omega arith) in
    sym (ap (λ b. cond b (suc (place_of number ps)) zero) e)
place_is number (p ∷ ps) (suc i) le t f =
    let e : nat_lt p.0 number ≡ true = t zero p (omega arith) (omega arith) in
    let rest : i ≡ place_of number ps = place_is number ps i (omega arith) (λ k d low high. t (suc k) d (omega arith) (omega arith)) (λ k d low high. f (suc k) d (omega arith) (omega arith)) in
    ap (λ (n : ℕ). suc n) rest ∙ sym (ap (λ b. cond b (suc (place_of number ps)) zero) e)

-- a number that isn't above one below all has no reader
pub none_below : (n number : ℕ) (ps : Readers) → IsBelow n ps → number ≤ n → reader_at number ps ≡ None
none_below n number [] b le = refl
none_below n number (p ∷ ps) b le =
    ap (λ t. cond t (Some p.1) (reader_at number ps)) (above_differs p.0 number (omega (arith, b.0))) ∙ none_below n number ps b.1 le

pub some_is : (a b : Reader) → Some a ≡ Some b → a ≡ b
some_is a b h = ap (λ (o : Option Reader). unwrap_or o a) h

pub not_none : (o : Option Reader) (reader : Reader) → o ≡ None → o ≡ Some reader → ⊥
not_none o reader none some = absurd (cc)

-- a reader that is there stands at the place of its number
pub found : (number : ℕ) (ps : Readers) (reader : Reader) → IsAscending ps → reader_at number ps ≡ Some reader
    → (place_of number ps < length ps) × ((d : ℕ × Reader) → get_or ps (place_of number ps) d ≡ (number, reader))
found number [] reader a there = absurd (not_none None reader refl there)
found number (p ∷ ps) reader a there =
    elim (nat_lt p.0 number) as (λ b. nat_lt p.0 number ≡ b → (cond b (suc (place_of number ps)) zero < length (p ∷ ps)) × ((d : ℕ × Reader) → get_or (p ∷ ps) (cond b (suc (place_of number ps)) zero) d ≡ (number, reader))) [
      | true ↦ λ lower.
          let rest : reader_at number ps ≡ Some reader = sym (ap (λ t. cond t (Some p.1) (reader_at number ps)) (lower_differs p.0 number lower)) ∙ there in
          let behind = found number ps reader a.1 rest in
          let within : place_of number ps < length ps = behind.0 in
          (omega arith, behind.1)
      | false ↦ λ higher.
          elim (p.0 == number) as (λ t. (p.0 == number) ≡ t → cond t (Some p.1) (reader_at number ps) ≡ Some reader → (zero < length (p ∷ ps)) × ((d : ℕ × Reader) → p ≡ (number, reader))) [
            | true ↦ λ same is. (omega arith, λ d. ap₂ (λ (n : ℕ) (r : Reader). (n, r)) (same_is p.0 number same) (some_is p.1 reader is))
            | false ↦ λ other is. absurd (not_none _ reader (none_below p.0 number ps a.0 (higher_is p.0 number higher)) is)
          ] refl there
    ] refl

-- what stands at the place of a number, where that is its own
pub present : (number : ℕ) (ps : Readers) (d : ℕ × Reader) → place_of number ps < length ps → (get_or ps (place_of number ps) d).0 ≡ number
    → reader_at number ps ≡ Some (get_or ps (place_of number ps) d).1
present number [] d lt is = absurd (omega arith)
present number (p ∷ ps) d lt is =
    elim (nat_lt p.0 number) as (λ b. nat_lt p.0 number ≡ b → cond b (suc (place_of number ps)) zero < length (p ∷ ps) → (get_or (p ∷ ps) (cond b (suc (place_of number ps)) zero) d).0 ≡ number → reader_at number (p ∷ ps) ≡ Some (get_or (p ∷ ps) (cond b (suc (place_of number ps)) zero) d).1) [
      | true ↦ λ lower within at.
          ap (λ t. cond t (Some p.1) (reader_at number ps)) (lower_differs p.0 number lower) ∙ present number ps d (omega arith) at
      | false ↦ λ higher within at. ap (λ t. cond t (Some p.1) (reader_at number ps)) (is_same p.0 number at)
    ] refl lt is

-- whether what stands there is of that number
pub has_is : (number : ℕ) (ps : Readers) → IsAscending ps → (d : ℕ × Reader) → place_of number ps < length ps → d ≡ get_or ps (place_of number ps) d
    → (d.0 == number) ≡ is_some (reader_at number ps)
has_is number ps a d lt at =
    elim (reader_at number ps) as (λ (o : Option Reader). reader_at number ps ≡ o → (d.0 == number) ≡ is_some o) [
      | None ↦ λ none.
          elim (d.0 == number) as (λ t. (d.0 == number) ≡ t → t ≡ false) [
            | true ↦ λ same. absurd (not_none _ _ none (present number ps d lt (ap (λ (p : ℕ × Reader). p.0) (sym at) ∙ same_is d.0 number same)))
            | false ↦ λ _. refl
          ] refl
      | Some reader ↦ λ there.
          ap (λ (p : ℕ × Reader). p.0 == number) (at ∙ (found number ps reader a there).1 d) ∙ itself number
    ] refl

pub has_not : (number : ℕ) (ps : Readers) → IsAscending ps → length ps ≤ place_of number ps → false ≡ is_some (reader_at number ps)
has_not number ps a le =
    elim (reader_at number ps) as (λ (o : Option Reader). reader_at number ps ≡ o → false ≡ is_some o) [
      | None ↦ λ none. refl
      | Some reader ↦ λ there. let within : place_of number ps < length ps = (found number ps reader a there).0 in absurd (omega arith)
    ] refl

-- there are no more lower numbers than numbers
pub place_within : (number : ℕ) (ps : Readers) → place_of number ps ≤ length ps
place_within number [] = omega arith
place_within number (p ∷ ps) =
    elim (nat_lt p.0 number) as (λ b. cond b (suc (place_of number ps)) zero ≤ length (p ∷ ps)) [
      | true ↦ let le : place_of number ps ≤ length ps = place_within number ps in omega arith
      | false ↦ omega arith
    ]
