-- The reads of readers at rest.
use Rattle.cd_sched.proofs.Firsts.{NextReads, count_more, first_is, first_least, itself, same_read, there_fails}
use Rattle.cd_sched.proofs.Edits.{ascending_without}
use Rattle.cd_sched.proofs.Laws.{without_same}
use Rattle.cd_sched.proofs.Numbers.{is_same as is_number, same_is}
use Rattle.cd_sched.proofs.Places.{Readers, none_below, not_none, some_is}
use Rattle.cd_sched.specs.Due.{IsAtRest, IsFirst, first_of, is_before, next_read_of, next_reads_of}
use Rattle.cd_sched.specs.Place.{IsAscending}
use Rattle.cd_sched.specs.Schedule.{changed, reader_at, with_reader, without}
use Rattle.cd_sched.specs.NextReads.{AreNextReadsOf, IsLeast, bit, is_same}
use Rattle.cd_sched.specs.declared.reader.Reader.{Reader}
use Rattle.std.proofs.Common.{Bool, None, Option, Some, [], ap, ap₂, arith, cond, false, length, nat_lt, refl, subst, suc, sym, true, zero, ℕ, ◌+◌, ◌<◌, ◌==◌, ◌∙◌, ◌∷◌, ◌≡◌, ◌≤◌}
use Rattle.std.proofs.lemmas.List.Sums.{sum_by-append}
use Rattle.std.specs.List.{count_by}

-- one more reader, and how many reads pass a test
count_pair : (p : ℕ × ℕ → Bool) (pair : ℕ × Reader) (ps : Readers) → count_by p (next_reads_of (pair ∷ ps)) ≡ count_by p (next_read_of pair) + count_by p (next_reads_of ps)
count_pair p pair ps = sum_by-append (λ (t : ℕ × ℕ). bit (p t)) (next_read_of pair) (next_reads_of ps)

-- the reads once a reader is added
pub with_reads : (p : ℕ × ℕ → Bool) (number : ℕ) (reader : Reader) (ps : Readers)
    → count_by p (next_reads_of (with_reader number reader ps)) ≡ count_by p (next_read_of (number, reader)) + count_by p (next_reads_of ps)
with_reads p number reader [] = count_pair p (number, reader) []
with_reads p number reader (x ∷ ps) =
    elim (nat_lt x.0 number) as (λ b. count_by p (next_reads_of (cond b (x ∷ with_reader number reader ps) ((number, reader) ∷ x ∷ ps))) ≡ count_by p (next_read_of (number, reader)) + count_by p (next_reads_of (x ∷ ps))) [
      | true ↦ moved _ _ _ _ _ _ (count_pair p x (with_reader number reader ps)) (with_reads p number reader ps) (count_pair p x ps)
      | false ↦ count_pair p (number, reader) (x ∷ ps)
    ]
  where
    moved : (all put had x' n old : ℕ) → all ≡ x' + put → put ≡ n + old → had ≡ x' + old → all ≡ n + had
    moved all put had x' n old a b d = omega arith

-- once one is changed
pub changed_reads : (p : ℕ × ℕ → Bool) (number : ℕ) (change : Reader → Reader) (reader : Reader) (ps : Readers) → reader_at number ps ≡ Some reader
    → count_by p (next_reads_of (changed number change ps)) + count_by p (next_read_of (number, reader)) ≡ count_by p (next_reads_of ps) + count_by p (next_read_of (number, change reader))
changed_reads p number change reader [] there = absurd (not_none None reader refl there)
changed_reads p number change reader (x ∷ ps) there =
    elim (x.0 == number) as (λ b. (x.0 == number) ≡ b → cond b (Some x.1) (reader_at number ps) ≡ Some reader
    → count_by p (next_reads_of (cond b ((x.0, change x.1) ∷ ps) (x ∷ changed number change ps))) + count_by p (next_read_of (number, reader)) ≡ count_by p (next_reads_of (x ∷ ps)) + count_by p (next_read_of (number, change reader))) [
      | true ↦ λ same is.
          let e : x ≡ (number, reader) = ap₂ (λ (n : ℕ) (r : Reader). (n, r)) (same_is x.0 number same) (some_is x.1 reader is) in
          put _ _ _ _ _ _ _ (count_pair p (x.0, change x.1) ps) (count_pair p x ps) (ap (λ (q : ℕ × Reader). count_by p (next_read_of q)) e) (ap (λ (q : ℕ × Reader). count_by p (next_read_of (q.0, change q.1))) e)
      | false ↦ λ other is.
          moved _ _ _ _ _ _ _ (count_pair p x (changed number change ps)) (count_pair p x ps) (changed_reads p number change reader ps is)
    ] refl there
  where
    put : (all had xc x' left n nc : ℕ) → all ≡ xc + left → had ≡ x' + left → x' ≡ n → xc ≡ nc → all + n ≡ had + nc
    put all had xc x' left n nc a b d e = omega arith

    moved : (all had x' left old n nc : ℕ) → all ≡ x' + left → had ≡ x' + old → left + n ≡ old + nc → all + n ≡ had + nc
    moved all had x' left old n nc a b d = omega arith

-- once one is taken out
pub without_reads : (p : ℕ × ℕ → Bool) (number : ℕ) (reader : Reader) (ps : Readers) → reader_at number ps ≡ Some reader
    → count_by p (next_reads_of (without number ps)) + count_by p (next_read_of (number, reader)) ≡ count_by p (next_reads_of ps)
without_reads p number reader [] there = absurd (not_none None reader refl there)
without_reads p number reader (x ∷ ps) there =
    elim (x.0 == number) as (λ b. (x.0 == number) ≡ b → cond b (Some x.1) (reader_at number ps) ≡ Some reader
    → count_by p (next_reads_of (cond b ps (x ∷ without number ps))) + count_by p (next_read_of (number, reader)) ≡ count_by p (next_reads_of (x ∷ ps))) [
      | true ↦ λ same is.
          let e : x ≡ (number, reader) = ap₂ (λ (n : ℕ) (r : Reader). (n, r)) (same_is x.0 number same) (some_is x.1 reader is) in
          out _ _ _ _ (count_pair p x ps) (ap (λ (q : ℕ × Reader). count_by p (next_read_of q)) e)
      | false ↦ λ other is. moved _ _ _ _ _ _ (count_pair p x (without number ps)) (count_pair p x ps) (without_reads p number reader ps is)
    ] refl there
  where
    out : (left had x' n : ℕ) → had ≡ x' + left → x' ≡ n → left + n ≡ had
    out left had x' n a b = omega arith

    moved : (all had x' left old n : ℕ) → all ≡ x' + left → had ≡ x' + old → left + n ≡ old → all + n ≡ had
    moved all had x' left old n a b d = omega arith

pub at_rest_read : (number : ℕ) (reader : Reader) → reader.under_way ≡ false → next_read_of (number, reader) ≡ (reader.due, number) ∷ []
at_rest_read number reader h = ap (λ b. cond b [] ((reader.due, number) ∷ [])) h

pub no_read : (number : ℕ) (reader : Reader) → reader.under_way ≡ true → next_read_of (number, reader) ≡ []
no_read number reader h = ap (λ b. cond b [] ((reader.due, number) ∷ [])) h

one_counts : (p : ℕ × ℕ → Bool) (number : ℕ) (reader : Reader) → reader.under_way ≡ false → count_by p (next_read_of (number, reader)) ≡ bit (p (reader.due, number))
one_counts p number reader rest = ap (count_by p) (at_rest_read number reader rest) ∙ count_more p (reader.due, number) [] ∙ alone (bit (p (reader.due, number)))
  where
    alone : (n : ℕ) → n + 0 ≡ n
    alone n = omega arith

-- a reader at rest has a read
pub has_read : (number : ℕ) (reader : Reader) (ps : Readers) → IsAtRest number reader ps → 0 < count_by (is_same (reader.due, number)) (next_reads_of ps)
has_read number reader ps rest =
    let p = is_same (reader.due, number) in
    let one : count_by p (next_read_of (number, reader)) ≡ 1 = ap (count_by p) (at_rest_read number reader rest.at_rest) ∙ count_more p (reader.due, number) [] ∙ ap (λ b. bit b + 0) (itself (reader.due, number)) in
    more _ _ _ (without_reads p number reader ps rest.there) one
  where
    more : (left one had : ℕ) → left + one ≡ had → one ≡ 1 → 0 < had
    more left one had a b = omega arith

-- what is said of the readers behind the first is so of all
behind : (x : ℕ × Reader) (ps : Readers) (due number : ℕ) → IsAscending (x ∷ ps) → (reader : Reader) × IsAtRest number reader ps × (reader.due ≡ due)
    → (reader : Reader) × IsAtRest number reader (x ∷ ps) × (reader.due ≡ due)
behind x ps due number a found =
    let apart : (x.0 == number) ≡ false = elim (x.0 == number) as (λ b. (x.0 == number) ≡ b → b ≡ false) [
      | true ↦ λ same. let e : x.0 ≡ number = same_is x.0 number same in absurd (not_none _ found.0 (none_below x.0 number ps a.0 (omega arith)) found.1.there)
      | false ↦ λ _. refl
    ] refl in
    (found.0, record { there = ap (λ b. cond b (Some x.1) (reader_at number ps)) apart ∙ found.1.there; at_rest = found.1.at_rest }, found.2)

-- and a read is that of a reader at rest
pub reader_of : (ps : Readers) (due number : ℕ) → IsAscending ps → 0 < count_by (is_same (due, number)) (next_reads_of ps)
    → (reader : Reader) × IsAtRest number reader ps × (reader.due ≡ due)
reader_of [] due number a more = absurd (omega arith)
reader_of (x ∷ ps) due number a more =
    elim x.1.under_way as (λ b. x.1.under_way ≡ b → count_by (is_same (due, number)) (next_reads_of (x ∷ ps)) ≡ count_by (is_same (due, number)) (cond b [] ((x.1.due, x.0) ∷ [])) + count_by (is_same (due, number)) (next_reads_of ps)
    → (reader : Reader) × IsAtRest number reader (x ∷ ps) × (reader.due ≡ due)) [
      | true ↦ λ away counts. behind x ps due number a (reader_of ps due number a.1 (omega arith))
      | false ↦ λ rest counts.
          elim (is_same (due, number) (x.1.due, x.0)) as (λ b. is_same (due, number) (x.1.due, x.0) ≡ b → count_by (is_same (due, number)) ((x.1.due, x.0) ∷ []) ≡ bit b + 0
          → (reader : Reader) × IsAtRest number reader (x ∷ ps) × (reader.due ≡ due)) [
            | true ↦ λ same _.
                let e : (due, number) ≡ (x.1.due, x.0) = same_read (due, number) (x.1.due, x.0) same in
                (x.1, record { there = ap (λ b. cond b (Some x.1) (reader_at number ps)) (is_number x.0 number (ap (λ (t : ℕ × ℕ). t.1) (sym e))); at_rest = rest }, ap (λ (t : ℕ × ℕ). t.0) (sym e))
            | false ↦ λ _ none. behind x ps due number a (reader_of ps due number a.1 (omega arith))
          ] refl (count_more (is_same (due, number)) (x.1.due, x.0) [])
    ] refl (count_pair (is_same (due, number)) x ps)

-- the first read is that of the first reader
pub says_first : (ps : Readers) (due number : ℕ) → IsAscending ps → first_of (next_reads_of ps) ≡ Some (due, number)
    → (reader : Reader) × IsFirst number reader ps × (reader.due ≡ due)
says_first ps due number a is =
    let least : IsLeast (next_reads_of ps) (Some (due, number)) = subst (IsLeast (next_reads_of ps)) is (first_least (next_reads_of ps)) in
    let found = reader_of ps due number a least.0 in (
      found.0,
      record {
        at_rest = found.1;
        first = λ other later rest.
            ap (λ (n : ℕ). is_before (later.due, other) (n, number)) found.2
            ∙ there_fails (λ (t : ℕ × ℕ). is_before t (due, number)) (next_reads_of ps) (later.due, other) least.1 (has_read other later ps rest);
      },
      found.2,
    )

-- where there is no read, none is at rest
pub says_none : (ps : Readers) → first_of (next_reads_of ps) ≡ None → (number : ℕ) (reader : Reader) → reader_at number ps ≡ Some reader → reader.under_way ≡ true
says_none ps is number reader there =
    let nil : next_reads_of ps ≡ [] = subst (IsLeast (next_reads_of ps)) is (first_least (next_reads_of ps)) in
    elim reader.under_way as (λ b. reader.under_way ≡ b → b ≡ true) [
      | true ↦ λ _. refl
      | false ↦ λ rest.
          let more : 0 < count_by (is_same (reader.due, number)) (next_reads_of ps) = has_read number reader ps (record { there = there; at_rest = rest }) in
          let none : count_by (is_same (reader.due, number)) (next_reads_of ps) ≡ 0 = ap (count_by (is_same (reader.due, number))) nil in
          absurd (omega arith)
    ] refl

-- no more readers are at rest than there are
pub reads_fewer : (p : ℕ × ℕ → Bool) (ps : Readers) → count_by p (next_reads_of ps) ≤ length ps
reads_fewer p [] = omega arith
reads_fewer p (x ∷ ps) =
    elim x.1.under_way as (λ b. count_by p (next_reads_of (x ∷ ps)) ≡ count_by p (cond b [] ((x.1.due, x.0) ∷ [])) + count_by p (next_reads_of ps) → count_by p (next_reads_of (x ∷ ps)) ≤ length (x ∷ ps)) [
      | true ↦ λ counts. few _ _ _ counts (reads_fewer p ps)
      | false ↦ λ counts. one _ _ _ (p (x.1.due, x.0)) (counts ∙ ap (λ (n : ℕ). n + count_by p (next_reads_of ps)) (count_more p (x.1.due, x.0) [])) (reads_fewer p ps)
    ] (count_pair p x ps)
  where
    few : (all left n : ℕ) → all ≡ 0 + left → left ≤ n → all ≤ suc n
    few all left n a b = omega arith

    one : (all left n : ℕ) (b : Bool) → all ≡ (bit b + 0) + left → left ≤ n → all ≤ suc n
    one all left n true a b = omega arith
    one all left n false a b = omega arith

length_without : (number : ℕ) (reader : Reader) (ps : Readers) → reader_at number ps ≡ Some reader → suc (length (without number ps)) ≡ length ps
length_without number reader [] there = absurd (not_none None reader refl there)
length_without number reader (x ∷ ps) there =
    elim (x.0 == number) as (λ b. cond b (Some x.1) (reader_at number ps) ≡ Some reader → suc (length (cond b ps (x ∷ without number ps))) ≡ length (x ∷ ps)) [
      | true ↦ λ _. refl
      | false ↦ λ is. ap (λ (n : ℕ). suc n) (length_without number reader ps is)
    ] there

-- and fewer where a reading is under way
pub reads_fewer_under_way : (p : ℕ × ℕ → Bool) (number : ℕ) (reader : Reader) (ps : Readers) → reader_at number ps ≡ Some reader → reader.under_way ≡ true
    → count_by p (next_reads_of ps) < length ps
reads_fewer_under_way p number reader ps there away =
    fewer _ _ _ _ _ (without_reads p number reader ps there) (ap (count_by p) (no_read number reader away)) (reads_fewer p (without number ps)) (length_without number reader ps there)
  where
    fewer : (left none had m n : ℕ) → left + none ≡ had → none ≡ 0 → left ≤ m → suc m ≡ n → had < n
    fewer left none had m n a b d e = omega arith

-- a reader at rest has one read
pub one_read : (number : ℕ) (reader : Reader) (ps : Readers) → IsAscending ps → IsAtRest number reader ps → count_by (is_same (reader.due, number)) (next_reads_of ps) ≡ 1
one_read number reader ps a rest =
    let p = is_same (reader.due, number) in
    let one : count_by p (next_read_of (number, reader)) ≡ 1 = ap (count_by p) (at_rest_read number reader rest.at_rest) ∙ count_more p (reader.due, number) [] ∙ ap (λ b. bit b + 0) (itself (reader.due, number)) in
    let none : count_by p (next_reads_of (without number ps)) ≡ 0 = zero_from _ (λ more.
    let found = reader_of (without number ps) reader.due number (ascending_without number ps a) more in
    not_none _ found.0 (without_same number ps a) found.1.there) in
    sym (without_reads p number reader ps rest.there) ∙ ap₂ (λ (m n : ℕ). m + n) none one
  where
    zero_from : (n : ℕ) → (0 < n → ⊥) → n ≡ 0
    zero_from zero h = refl
    zero_from (suc n) h = absurd (h (omega arith))

-- how many there are
pub count_all : (ts : NextReads) → count_by (λ (t : ℕ × ℕ). true) ts ≡ length ts
count_all [] = refl
count_all (t ∷ ts) = count_more (λ (u : ℕ × ℕ). true) t ts ∙ ap (λ (n : ℕ). 1 + n) (count_all ts) ∙ more (length ts)
  where
    more : (n : ℕ) → 1 + n ≡ suc n
    more n = omega arith

-- the reads of readers in whatever order have the same first
pub least_along : (ps : Readers) (ts : NextReads) (o : Option (ℕ × ℕ)) → AreNextReadsOf ps ts → IsLeast ts o → first_of (next_reads_of ps) ≡ o
least_along ps ts None are nil =
    ap first_of (empty (next_reads_of ps) (sym (count_all (next_reads_of ps)) ∙ sym (are (λ (t : ℕ × ℕ). true)) ∙ ap (count_by (λ (t : ℕ × ℕ). true)) nil))
  where
    empty : (us : NextReads) → length us ≡ 0 → us ≡ []
    empty [] h = refl
    empty (u ∷ us) h = absurd (omega arith)
least_along ps ts (Some t) are least =
    first_is (next_reads_of ps) (Some t) (subst (λ (n : ℕ). 0 < n) (are (is_same t)) least.0, sym (are (λ (other : ℕ × ℕ). is_before other t)) ∙ least.1)

-- the reads once a reading begins
pub left_reads : (number : ℕ) (change : Reader → Reader) (reader : Reader) (ns : Readers) (old new : NextReads) → reader_at number ns ≡ Some reader → reader.under_way ≡ false → (change reader).under_way ≡ true
    → AreNextReadsOf ns old → ((p : ℕ × ℕ → Bool) → bit (p (reader.due, number)) + count_by p new ≡ count_by p old) → AreNextReadsOf (changed number change ns) new
left_reads number change reader ns old new there rest away are left = λ p.
    out _ _ _ _ _ _ _ (changed_reads p number change reader ns there) (one_counts p number reader rest) (ap (count_by p) (no_read number (change reader) away)) (are p) (left p)
  where
    out : (all one had none b new old : ℕ) → all + one ≡ had + none → one ≡ b → none ≡ 0 → old ≡ had → b + new ≡ old → new ≡ all
    out all one had none b new old h i j k l = omega arith

-- once one returned
pub joined_reads : (number : ℕ) (change : Reader → Reader) (reader : Reader) (ns : Readers) (old new : NextReads) → reader_at number ns ≡ Some reader → reader.under_way ≡ true → (change reader).under_way ≡ false
    → AreNextReadsOf ns old → ((p : ℕ × ℕ → Bool) → count_by p new ≡ bit (p ((change reader).due, number)) + count_by p old) → AreNextReadsOf (changed number change ns) new
joined_reads number change reader ns old new there away rest are joined = λ p.
    in_ _ _ _ _ _ _ _ (changed_reads p number change reader ns there) (ap (count_by p) (no_read number reader away)) (one_counts p number (change reader) rest) (are p) (joined p)
  where
    in_ : (all none had one b new old : ℕ) → all + none ≡ had + one → none ≡ 0 → one ≡ b → old ≡ had → new ≡ b + old → new ≡ all
    in_ all none had one b new old h i j k l = omega arith

-- once a reader is forgotten
pub taken_reads : (number : ℕ) (reader : Reader) (ns : Readers) (old new : NextReads) → reader_at number ns ≡ Some reader → reader.under_way ≡ false
    → AreNextReadsOf ns old → ((p : ℕ × ℕ → Bool) → bit (p (reader.due, number)) + count_by p new ≡ count_by p old) → AreNextReadsOf (without number ns) new
taken_reads number reader ns old new there rest are left = λ p.
    out _ _ _ _ _ _ (without_reads p number reader ns there) (one_counts p number reader rest) (are p) (left p)
  where
    out : (all one had b new old : ℕ) → all + one ≡ had → one ≡ b → old ≡ had → b + new ≡ old → new ≡ all
    out all one had b new old h i j k = omega arith

pub forgotten_reads : (number : ℕ) (reader : Reader) (ns : Readers) (old : NextReads) → reader_at number ns ≡ Some reader → reader.under_way ≡ true → AreNextReadsOf ns old → AreNextReadsOf (without number ns) old
forgotten_reads number reader ns old there away are = λ p.
    out _ _ _ _ (without_reads p number reader ns there) (ap (count_by p) (no_read number reader away)) (are p)
  where
    out : (all none had old : ℕ) → all + none ≡ had → none ≡ 0 → old ≡ had → old ≡ all
    out all none had old h i j = omega arith

-- once one is added
pub added_reads : (number : ℕ) (reader : Reader) (ns : Readers) (old new : NextReads) → reader.under_way ≡ false
    → AreNextReadsOf ns old → ((p : ℕ × ℕ → Bool) → count_by p new ≡ bit (p (reader.due, number)) + count_by p old) → AreNextReadsOf (with_reader number reader ns) new
added_reads number reader ns old new rest are joined = λ p.
    in_ _ _ _ _ _ _ (with_reads p number reader ns) (one_counts p number reader rest) (are p) (joined p)
  where
    in_ : (all one had b new old : ℕ) → all ≡ one + had → one ≡ b → old ≡ had → new ≡ b + old → new ≡ all
    in_ all one had b new old h i j k = omega arith

-- how many reads there are, and that readers leave room for one more
pub reads_within : (ps : Readers) (ts : NextReads) → AreNextReadsOf ps ts → length ts ≤ length ps
reads_within ps ts are = le _ _ _ _ (count_all ts) (are (λ (t : ℕ × ℕ). true)) (reads_fewer (λ (t : ℕ × ℕ). true) ps)
  where
    le : (n m k l : ℕ) → k ≡ n → k ≡ l → l ≤ m → n ≤ m
    le n m k l a b d = omega arith

pub reads_below : (number : ℕ) (reader : Reader) (ps : Readers) (ts : NextReads) → reader_at number ps ≡ Some reader → reader.under_way ≡ true → AreNextReadsOf ps ts → length ts < length ps
reads_below number reader ps ts there away are = lt _ _ _ _ (count_all ts) (are (λ (t : ℕ × ℕ). true)) (reads_fewer_under_way (λ (t : ℕ × ℕ). true) number reader ps there away)
  where
    lt : (n m k l : ℕ) → k ≡ n → k ≡ l → l < m → n < m
    lt n m k l a b d = omega arith
