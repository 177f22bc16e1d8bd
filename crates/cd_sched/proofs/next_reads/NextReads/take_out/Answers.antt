-- The element leaves from the top, or all others are kept.
use Rattle.cd_sched.proofs.Heaps.{Elements, popped_is, rest_counts, rest_of, taken_counts}
use Rattle.cd_sched.proofs.Outcomes.{some_then}
use Rattle.cd_sched.proofs.next_reads.NextReads.take_out.Goals as goal
use Rattle.cd_sched.specs.NextReads.{NextReadList, bit, is_same, read_in}
use Rattle.std.proofs.Common.{List, ap, arith, get_or, length, map, not, of_calls, rules, subst, sym, ℕ, ◌+◌, ◌<◌, ◌∙◌, ◌∷◌, ◌≡◌}
use Rattle.std.proofs.lemmas.Fn.{filter_same}
use Rattle.std.proofs.lemmas.List.{length-map}
use Rattle.std.specs.BinaryHeap.{heap_items, heap_len}
use Rattle.std.specs.List.Sorted.{IsPermutation}
use Rattle.std.specs.List.{count_by}
use Rattle.std.specs.declared.cmp.Reverse.{Reverse}

pub returns-then-is_first-clause-reads : goal.returns-then-is_first-clause-reads
returns-then-is_first-clause-reads c = λ p.
    let heap = c.self.inside.heap in
    let es : Elements = heap_items heap in
    let fs : Elements = heap_items c.pop.new.self in
    let read : ℕ × ℕ = c.args.read in
    let view : map read_in es ≡ c.args.self.now.reads = ap (λ (m : NextReadList). m.reads) c.self.view_is in
    let front : (rest : List (ℕ × ℕ)) × (c.args.self.now.reads ≡ read ∷ rest) = c.is_first.ensures c.if-is_first.true in
    let is : map read_in es ≡ read ∷ front.0 = view ∙ front.1 in
    let mapped : length es ≡ length (read ∷ front.0) = sym (length-map es read_in) ∙ ap length is in
    let counted : heap_len heap ≡ length es = heap.data.ok.0 in
    let some : 0 < heap_len heap = omega arith in
    let popped : (x : Reverse (ℕ × ℕ)) × (x ≡ get_or es 0 x) × IsPermutation es (x ∷ fs) =
    some_then c.pop.result (λ x. x ≡ get_or es 0 x) (λ x. IsPermutation es (x ∷ fs)) (c.pop.ensures.variant.1 some) c.pop.ensures.top c.pop.ensures.permutation in
    ap (λ (t : ℕ × ℕ). bit (p t) + count_by p (map read_in fs)) (sym (popped_is popped.0 es read front.0 is popped.1))
    ∙ taken_counts p popped.0 es fs popped.2
    ∙ ap (count_by p) view

pub returns-clause-reads : goal.returns-clause-reads
returns-clause-reads c = λ p.
    let es : Elements = heap_items c.self.inside.heap in
    let fs : Elements = heap_items c.retain.new.self in
    let read : ℕ × ℕ = c.args.read in
    let view : map read_in es ≡ c.args.self.now.reads = ap (λ (m : NextReadList). m.reads) c.self.view_is in
    let kept : Elements = c.retain.ensures.filtered.0 in
    let are : kept ≡ rest_of read es = filter_same _ (λ (e : Reverse (ℕ × ℕ)). not (is_same read e.0)) _ (λ x b f' h. search (rules, of_calls)) es kept c.retain.ensures.filtered.1 in
    rest_counts p read es fs (ap (count_by (is_same read)) view ∙ c.requires) (subst (λ (ks : Elements). IsPermutation ks fs) are c.retain.ensures.filtered.2)
    ∙ ap (count_by p) view
