-- The reads in a heap.
use Rattle.cd_sched.proofs.Firsts.{NextReads, count_more, itself, same_read}
use Rattle.cd_sched.specs.Due.{is_before}
use Rattle.cd_sched.specs.NextReads.{IsLeast, bit, heap_order, is_same, read_in}
use Rattle.std.proofs.Common.{Bool, List, Some, [], ap, arith, cond, false, get_or, length, map, nat_lt, not, refl, sym, true, ℕ, ◌+◌, ◌<◌, ◌==◌, ◌∙◌, ◌∷◌, ◌≡◌, ◌≤◌}
use Rattle.std.proofs.lemmas.List.Sorted.{sum_by-IsPermutation}
use Rattle.std.proofs.lemmas.List.Sums.{sum_by-cons}
use Rattle.std.specs.BinaryHeap.{IsUpperBound}
use Rattle.std.specs.List.Sorted.{IsPermutation}
use Rattle.std.specs.List.{count_by, filter, sum_by}
use Rattle.std.specs.Ordering.{is_lt, nat_cmp, ordering_then}
use Rattle.std.specs.Prelude.{◌&&◌, ◌||◌}
use Rattle.std.specs.declared.cmp.Ordering.TheVariants.{Equal, Greater, Less}
use Rattle.std.specs.declared.cmp.Reverse.{Reverse}

abbrev pub Elements : Type 0
Elements = List (Reverse (ℕ × ℕ))

-- how many reads in elements pass a test
abbrev pub passing : (ℕ × ℕ → Bool) → Elements → ℕ
passing p es = sum_by (λ (e : Reverse (ℕ × ℕ)). bit (p e.0)) es

passing_more : (p : ℕ × ℕ → Bool) (e : Reverse (ℕ × ℕ)) (es : Elements) → passing p (e ∷ es) ≡ bit (p e.0) + passing p es
passing_more p e es = sum_by-cons (λ (x : Reverse (ℕ × ℕ)). bit (p x.0)) e es

pub passing_is : (p : ℕ × ℕ → Bool) (es : Elements) → count_by p (map read_in es) ≡ passing p es
passing_is p [] = refl
passing_is p (e ∷ es) = count_more p e.0 (map read_in es) ∙ ap (λ (n : ℕ). bit (p e.0) + n) (passing_is p es) ∙ sym (passing_more p e es)

-- elements in another order
pub reordered : (p : ℕ × ℕ → Bool) (es fs : Elements) → IsPermutation es fs → passing p fs ≡ passing p es
reordered p es fs h = sum_by-IsPermutation (λ (e : Reverse (ℕ × ℕ)). bit (p e.0)) es fs h

-- an element that is put in
pub put_counts : (p : ℕ × ℕ → Bool) (e : Reverse (ℕ × ℕ)) (es fs : Elements) → IsPermutation (e ∷ es) fs → count_by p (map read_in fs) ≡ bit (p e.0) + count_by p (map read_in es)
put_counts p e es fs h = passing_is p fs ∙ reordered p (e ∷ es) fs h ∙ passing_more p e es ∙ ap (λ (n : ℕ). bit (p e.0) + n) (sym (passing_is p es))

-- one that is taken out
pub taken_counts : (p : ℕ × ℕ → Bool) (e : Reverse (ℕ × ℕ)) (es fs : Elements) → IsPermutation es (e ∷ fs) → bit (p e.0) + count_by p (map read_in fs) ≡ count_by p (map read_in es)
taken_counts p e es fs h = ap (λ (n : ℕ). bit (p e.0) + n) (passing_is p fs) ∙ sym (passing_more p e fs) ∙ reordered p es (e ∷ fs) h ∙ sym (passing_is p es)

-- the order of the heap is that of reads, the other way round
order_is : (a b : Reverse (ℕ × ℕ)) → is_lt (heap_order a b) ≡ is_before b.0 a.0
order_is a b = pairs b.0.0 a.0.0 b.0.1 a.0.1
  where
    last : (m n : ℕ) → is_lt (nat_cmp m n) ≡ nat_lt m n
    last m n = elim (nat_lt m n) as (λ t. is_lt (cond t Less (cond (m == n) Equal Greater)) ≡ t) [
      | true ↦ refl
      | false ↦ elim (m == n) as (λ t. is_lt (cond t Equal Greater) ≡ false) [ true ↦ refl | false ↦ refl ]
    ]

    pairs : (k l m n : ℕ) → is_lt (ordering_then (nat_cmp k l) (nat_cmp m n)) ≡ (nat_lt k l || ((k == l) && nat_lt m n))
    pairs k l m n = elim (nat_lt k l) as (λ t. is_lt (ordering_then (cond t Less (cond (k == l) Equal Greater)) (nat_cmp m n)) ≡ (t || ((k == l) && nat_lt m n))) [
      | true ↦ refl
      | false ↦ elim (k == l) as (λ t. is_lt (ordering_then (cond t Equal Greater) (nat_cmp m n)) ≡ (t && nat_lt m n)) [
        | true ↦ last m n
        | false ↦ refl
      ]
    ]

none_before : (e : Reverse (ℕ × ℕ)) (es : Elements) → IsUpperBound heap_order e es → count_by (λ (other : ℕ × ℕ). is_before other e.0) (map read_in es) ≡ 0
none_before e [] above = refl
none_before e (f ∷ es) above =
    let p = λ (other : ℕ × ℕ). is_before other e.0 in
    count_more p f.0 (map read_in es) ∙ ap (λ b. bit b + count_by p (map read_in es)) (sym (order_is e f) ∙ above.0) ∙ ap (λ (n : ℕ). 0 + n) (none_before e es above.1)

-- the element at the top has the first read
pub top_least : (e : Reverse (ℕ × ℕ)) (es : Elements) → 0 < length es → e ≡ get_or es 0 e → IsUpperBound heap_order e es → IsLeast (map read_in es) (Some e.0)
top_least e [] some at above = absurd (omega arith)
top_least e (f ∷ es) some at above =
    let more : count_by (is_same e.0) (map read_in (f ∷ es)) ≡ 1 + count_by (is_same e.0) (map read_in es) =
    count_more (is_same e.0) f.0 (map read_in es) ∙ ap (λ b. bit b + count_by (is_same e.0) (map read_in es)) (ap (λ (g : Reverse (ℕ × ℕ)). is_same e.0 g.0) (sym at) ∙ itself e.0) in
    (omega arith, none_before e (f ∷ es) above)

pub empty_least : (es : Elements) → length es ≤ 0 → map read_in es ≡ []
empty_least [] h = refl
empty_least (e ∷ es) h = absurd (omega arith)

-- an element at the top whose read is this
pub top_is : (e : Reverse (ℕ × ℕ)) (es : Elements) (read : ℕ × ℕ) → 0 < length es → e ≡ get_or es 0 e → is_same read e.0 ≡ true → (rest : NextReads) × (map read_in es ≡ read ∷ rest)
top_is e [] read some at same = absurd (omega arith)
top_is e (f ∷ es) read some at same =
    (map read_in es, ap (λ (t : ℕ × ℕ). t ∷ map read_in es) (ap (λ (g : Reverse (ℕ × ℕ)). g.0) (sym at) ∙ sym (same_read read e.0 same)))

-- and the other way round
pub popped_is : (e : Reverse (ℕ × ℕ)) (es : Elements) (read : ℕ × ℕ) (rest : NextReads) → map read_in es ≡ read ∷ rest → e ≡ get_or es 0 e → e.0 ≡ read
popped_is e [] read rest is at = absurd (cc)
popped_is e (f ∷ es) read rest is at = ap (λ (g : Reverse (ℕ × ℕ)). g.0) at ∙ head f.0 read (map read_in es) rest is
  where
    head : (t u : ℕ × ℕ) (ts us : NextReads) → t ∷ ts ≡ u ∷ us → t ≡ u
    head t u ts us h = cc

-- all but those of one read
abbrev pub rest_of : ℕ × ℕ → Elements → Elements
rest_of read es = filter (λ (e : Reverse (ℕ × ℕ)). not (is_same read e.0)) es

kept_counts : (p : ℕ × ℕ → Bool) (read : ℕ × ℕ) (es : Elements) → cond (p read) (passing (is_same read) es) 0 + passing p (rest_of read es) ≡ passing p es
kept_counts p read [] = elim (p read) as (λ b. cond b 0 0 + 0 ≡ 0) [ true ↦ refl | false ↦ refl ]
kept_counts p read (e ∷ es) =
    elim (is_same read e.0) as (λ s. is_same read e.0 ≡ s → passing (is_same read) (e ∷ es) ≡ bit s + passing (is_same read) es
    → cond (p read) (passing (is_same read) (e ∷ es)) 0 + passing p (cond (not s) (e ∷ rest_of read es) (rest_of read es)) ≡ passing p (e ∷ es)) [
      | true ↦ λ same counts.
          there (p read) _ _ _ _ _ counts (passing_more p e es ∙ ap (λ (t : ℕ × ℕ). bit (p t) + passing p es) (sym (same_read read e.0 same))) (kept_counts p read es)
      | false ↦ λ _ counts.
          other (p read) _ _ _ _ _ _ _ counts (passing_more p e (rest_of read es)) (passing_more p e es) (kept_counts p read es)
    ] refl (passing_more (is_same read) e es)
  where
    there : (b : Bool) (all ones had left old : ℕ) → all ≡ 1 + ones → had ≡ bit b + old → cond b ones 0 + left ≡ old → cond b all 0 + left ≡ had
    there true all ones had left old a d e = omega arith
    there false all ones had left old a d e = omega arith

    other : (b : Bool) (all ones kept had x left old : ℕ) → all ≡ 0 + ones → kept ≡ x + left → had ≡ x + old → cond b ones 0 + left ≡ old → cond b all 0 + kept ≡ had
    other true all ones kept had x left old a d e f = omega arith
    other false all ones kept had x left old a d e f = omega arith

-- where there is one of that read
pub rest_counts : (p : ℕ × ℕ → Bool) (read : ℕ × ℕ) (es fs : Elements) → count_by (is_same read) (map read_in es) ≡ 1 → IsPermutation (rest_of read es) fs
    → bit (p read) + count_by p (map read_in fs) ≡ count_by p (map read_in es)
rest_counts p read es fs one h =
    ap (λ (n : ℕ). bit (p read) + n) (passing_is p fs ∙ reordered p (rest_of read es) fs h)
    ∙ ap (λ (n : ℕ). cond (p read) n 0 + passing p (rest_of read es)) (sym (sym (passing_is (is_same read) es) ∙ one))
    ∙ kept_counts p read es
    ∙ sym (passing_is p es)
