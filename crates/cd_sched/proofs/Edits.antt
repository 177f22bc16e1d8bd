-- What is done at the place of a number, and that the numbers stay in order.
use Rattle.cd_sched.proofs.Numbers.{higher_is, is_same, lower_differs, lower_is}
use Rattle.cd_sched.proofs.Places.{Readers, found}
use Rattle.cd_sched.specs.Place.{IsAscending, IsBelow, place_of}
use Rattle.cd_sched.specs.Schedule.{changed, reader_at, with_reader, without}
use Rattle.cd_sched.specs.declared.reader.Reader.{Reader}
use Rattle.std.proofs.Common.{None, Option, Some, [], ap, ap₂, arith, cond, false, get_or, length, nat_lt, refl, subst, suc, sym, true, zero, ℕ, ◌<◌, ◌==◌, ◌∙◌, ◌∷◌, ◌≡◌, ◌≤◌}
use Rattle.std.specs.List.{insert, remove}
use Rattle.std.specs.Prelude.{IsSome, IsSomeAnd, slice_set}

pub put_in : (number : ℕ) (reader : Reader) (ps : Readers) → insert ps (place_of number ps) (number, reader) ≡ with_reader number reader ps
put_in number reader [] = refl
put_in number reader (p ∷ ps) =
    elim (nat_lt p.0 number) as (λ b. insert (p ∷ ps) (cond b (suc (place_of number ps)) zero) (number, reader) ≡ cond b (p ∷ with_reader number reader ps) ((number, reader) ∷ p ∷ ps)) [
      | true ↦ ap (λ (qs : Readers). p ∷ qs) (put_in number reader ps)
      | false ↦ refl
    ]

pub change_at : (number : ℕ) (change : Reader → Reader) (reader : Reader) (ps : Readers) → ((d : ℕ × Reader) → get_or ps (place_of number ps) d ≡ (number, reader))
    → slice_set ps (place_of number ps) (number, change reader) ≡ changed number change ps
change_at number change reader [] at = refl
change_at number change reader (p ∷ ps) at =
    elim (nat_lt p.0 number) as (λ b. nat_lt p.0 number ≡ b → ((d : ℕ × Reader) → get_or (p ∷ ps) (cond b (suc (place_of number ps)) zero) d ≡ (number, reader))
    → slice_set (p ∷ ps) (cond b (suc (place_of number ps)) zero) (number, change reader) ≡ changed number change (p ∷ ps)) [
      | true ↦ λ lower here.
          ap (λ (qs : Readers). p ∷ qs) (change_at number change reader ps here)
          ∙ sym (ap (λ t. cond t ((p.0, change p.1) ∷ ps) (p ∷ changed number change ps)) (lower_differs p.0 number lower))
      | false ↦ λ higher here.
          let is : p ≡ (number, reader) = here p in
          ap (λ (q : ℕ × Reader). (q.0, change q.1) ∷ ps) (sym is)
          ∙ sym (ap (λ t. cond t ((p.0, change p.1) ∷ ps) (p ∷ changed number change ps)) (is_same p.0 number (ap (λ (q : ℕ × Reader). q.0) is)))
    ] refl at

pub take_at : (number : ℕ) (reader : Reader) (ps : Readers) → ((d : ℕ × Reader) → get_or ps (place_of number ps) d ≡ (number, reader))
    → remove ps (place_of number ps) ≡ without number ps
take_at number reader [] at = refl
take_at number reader (p ∷ ps) at =
    elim (nat_lt p.0 number) as (λ b. nat_lt p.0 number ≡ b → ((d : ℕ × Reader) → get_or (p ∷ ps) (cond b (suc (place_of number ps)) zero) d ≡ (number, reader))
    → remove (p ∷ ps) (cond b (suc (place_of number ps)) zero) ≡ without number (p ∷ ps)) [
      | true ↦ λ lower here.
          ap (λ (qs : Readers). p ∷ qs) (take_at number reader ps here)
          ∙ sym (ap (λ t. cond t ps (p ∷ without number ps)) (lower_differs p.0 number lower))
      | false ↦ λ higher here.
          sym (ap (λ t. cond t ps (p ∷ without number ps)) (is_same p.0 number (ap (λ (q : ℕ × Reader). q.0) (here p))))
    ] refl at

below_with : (n number : ℕ) (reader : Reader) (ps : Readers) → n < number → IsBelow n ps → IsBelow n (with_reader number reader ps)
below_with n number reader [] lt b = (lt, tt)
below_with n number reader (p ∷ ps) lt b =
    elim (nat_lt p.0 number) as (λ t. IsBelow n (cond t (p ∷ with_reader number reader ps) ((number, reader) ∷ p ∷ ps))) [
      | true ↦ (b.0, below_with n number reader ps lt b.1)
      | false ↦ (lt, b)
    ]

below_lower : (m n : ℕ) (ps : Readers) → m < n → IsBelow n ps → IsBelow m ps
below_lower m n [] lt b = tt
below_lower m n (p ∷ ps) lt b = (omega (arith, b.0), below_lower m n ps lt b.1)

off_head : (number : ℕ) (p : ℕ × Reader) (ps : Readers) → reader_at number (p ∷ ps) ≡ None → ((p.0 == number) ≡ false) × (reader_at number ps ≡ None)
off_head number p ps none =
    elim (p.0 == number) as (λ t. cond t (Some p.1) (reader_at number ps) ≡ None → (t ≡ false) × (reader_at number ps ≡ None)) [
      | true ↦ λ h. absurd (cc)
      | false ↦ λ h. (refl, h)
    ] none

pub ascending_with : (number : ℕ) (reader : Reader) (ps : Readers) → reader_at number ps ≡ None → IsAscending ps → IsAscending (with_reader number reader ps)
ascending_with number reader [] none a = (tt, tt)
ascending_with number reader (p ∷ ps) none a =
    let off = off_head number p ps none in
    elim (nat_lt p.0 number) as (λ t. nat_lt p.0 number ≡ t → IsAscending (cond t (p ∷ with_reader number reader ps) ((number, reader) ∷ p ∷ ps))) [
      | true ↦ λ lower. (below_with p.0 number reader ps (lower_is p.0 number lower) a.0, ascending_with number reader ps off.1 a.1)
      | false ↦ λ higher.
          let lt : number < p.0 = above number p.0 (higher_is p.0 number higher) off.0 in
          ((lt, below_lower number p.0 ps lt a.0), a)
    ] refl
  where
    above : (m n : ℕ) → m ≤ n → (n == m) ≡ false → m < n
    above m n le off = grind (arith, le, off)

below_changed : (n number : ℕ) (change : Reader → Reader) (ps : Readers) → IsBelow n ps → IsBelow n (changed number change ps)
below_changed n number change [] b = b
below_changed n number change (p ∷ ps) b =
    elim (p.0 == number) as (λ t. IsBelow n (cond t ((p.0, change p.1) ∷ ps) (p ∷ changed number change ps))) [
      | true ↦ b
      | false ↦ (b.0, below_changed n number change ps b.1)
    ]

pub ascending_changed : (number : ℕ) (change : Reader → Reader) (ps : Readers) → IsAscending ps → IsAscending (changed number change ps)
ascending_changed number change [] a = a
ascending_changed number change (p ∷ ps) a =
    elim (p.0 == number) as (λ t. IsAscending (cond t ((p.0, change p.1) ∷ ps) (p ∷ changed number change ps))) [
      | true ↦ a
      | false ↦ (below_changed p.0 number change ps a.0, ascending_changed number change ps a.1)
    ]

below_without : (n number : ℕ) (ps : Readers) → IsBelow n ps → IsBelow n (without number ps)
below_without n number [] b = b
below_without n number (p ∷ ps) b =
    elim (p.0 == number) as (λ t. IsBelow n (cond t ps (p ∷ without number ps))) [
      | true ↦ b.1
      | false ↦ (b.0, below_without n number ps b.1)
    ]

pub ascending_without : (number : ℕ) (ps : Readers) → IsAscending ps → IsAscending (without number ps)
ascending_without number [] a = a
ascending_without number (p ∷ ps) a =
    elim (p.0 == number) as (λ t. IsAscending (cond t ps (p ∷ without number ps))) [
      | true ↦ a.1
      | false ↦ (below_without p.0 number ps a.0, ascending_without number ps a.1)
    ]

-- the reader that a condition speaks of
pub someone : (o : Option Reader) (P : Reader → Type 0) → IsSomeAnd o P → (reader : Reader) × (o ≡ Some reader) × P reader
someone None P h = absurd h
someone (Some reader) P h = (reader, refl, h)

pub anyone : (o : Option Reader) → IsSome o → (reader : Reader) × (o ≡ Some reader)
anyone None h = absurd (cc)
anyone (Some reader) h = (reader, refl)

-- In these, `ps` are the readers as they are kept and `ns` as contracts see them, and `k` is the place of the number.
at_place : (number : ℕ) (ps ns : Readers) (reader : Reader) (k : ℕ) → ps ≡ ns → IsAscending ps → reader_at number ns ≡ Some reader → k ≡ place_of number ns
    → (k < length ps) × ((d : ℕ × Reader) → get_or ps k d ≡ (number, reader)) × (k ≡ place_of number ps)
at_place number ps ns reader k is a there at =
    let f = found number ps reader a (ap (reader_at number) is ∙ there) in
    let here : k ≡ place_of number ps = at ∙ ap (place_of number) (sym is) in
    (subst (λ (n : ℕ). n < length ps) (sym here) f.0, (λ d. ap (λ (n : ℕ). get_or ps n d) here ∙ f.1 d), here)

-- it is that of a reader
pub within : (number : ℕ) (ps ns : Readers) (reader : Reader) (k : ℕ) → ps ≡ ns → IsAscending ps → reader_at number ns ≡ Some reader → k ≡ place_of number ns → k < length ps
within number ps ns reader k is a there at = (at_place number ps ns reader k is a there at).0

-- and of the one that stands under the number
pub stands_there : (number : ℕ) (ps ns : Readers) (reader : Reader) (k : ℕ) (stood : ℕ × Reader) → ps ≡ ns → IsAscending ps → reader_at number ns ≡ Some reader → k ≡ place_of number ns
    → stood ≡ get_or ps k stood → stood ≡ (number, reader)
stands_there number ps ns reader k stood is a there at got = got ∙ (at_place number ps ns reader k is a there at).1 stood

-- what is written there changes the map
pub changed_there : (number : ℕ) (change : Reader → Reader) (ps ns : Readers) (reader : Reader) (k : ℕ) (stood : ℕ × Reader) (made : Reader)
    → ps ≡ ns → IsAscending ps → reader_at number ns ≡ Some reader → k ≡ place_of number ns → stood ≡ get_or ps k stood → made ≡ change stood.1
    → slice_set ps k (number, made) ≡ changed number change ns
changed_there number change ps ns reader k stood made is a there at got makes =
    let f = at_place number ps ns reader k is a there at in
    let stands : stood ≡ (number, reader) = got ∙ f.1 stood in
    ap₂ (λ (n : ℕ) (r : Reader). slice_set ps n (number, r)) f.2 (makes ∙ ap (λ (p : ℕ × Reader). change p.1) stands)
    ∙ change_at number change reader ps (λ d. ap (λ (n : ℕ). get_or ps n d) (sym f.2) ∙ f.1 d)
    ∙ ap (changed number change) is

-- and what is taken out
pub taken_there : (number : ℕ) (ps ns : Readers) (reader : Reader) (k : ℕ) → ps ≡ ns → IsAscending ps → reader_at number ns ≡ Some reader → k ≡ place_of number ns
    → remove ps k ≡ without number ns
taken_there number ps ns reader k is a there at =
    let f = at_place number ps ns reader k is a there at in
    ap (remove ps) f.2 ∙ take_at number reader ps (λ d. ap (λ (n : ℕ). get_or ps n d) (sym f.2) ∙ f.1 d) ∙ ap (without number) is

-- what is put in at the place of a number that has none
pub put_there : (number : ℕ) (reader made : Reader) (ps ns : Readers) (k : ℕ) → ps ≡ ns → k ≡ place_of number ns → made ≡ reader
    → insert ps k (number, made) ≡ with_reader number reader ns
put_there number reader made ps ns k is at makes =
    ap₂ (λ (n : ℕ) (r : Reader). insert ps n (number, r)) (at ∙ ap (place_of number) (sym is)) makes
    ∙ put_in number reader ps
    ∙ ap (with_reader number reader) is
