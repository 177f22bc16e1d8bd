-- Where there is room the element goes in.
use Rattle.cd_sched.proofs.Heaps.{Elements, put_counts}
use Rattle.cd_sched.proofs.Outcomes.{ok_then}
use Rattle.cd_sched.proofs.next_reads.NextReads.put.Goals as goal
use Rattle.cd_sched.specs.NextReads.{NextReadList, bit, read_in}
use Rattle.std.proofs.Common.{ap, arith, length, map, subst, sym, ℕ, ◌+◌, ◌<◌, ◌∙◌, ◌∷◌, ◌≡◌}
use Rattle.std.proofs.lemmas.List.{length-map}
use Rattle.std.specs.BinaryHeap.{heap_capacity, heap_items, heap_len}
use Rattle.std.specs.List.Sorted.{IsPermutation}
use Rattle.std.specs.List.{count_by}
use Rattle.std.specs.declared.cmp.Reverse.{Reverse}

pub returns-clause-reads : goal.returns-clause-reads
returns-clause-reads c = λ p.
    let heap = c.self.inside.heap in
    let es : Elements = heap_items c.self.inside.heap in
    let e : Reverse (ℕ × ℕ) = record { 0 = c.args.read } in
    let room : length (map read_in es) < heap_capacity heap = subst (λ (m : NextReadList). length m.reads < m.room) (sym c.self.view_is) c.requires in
    let mapped : length (map read_in es) ≡ length es = length-map es read_in in
    let counted : heap_len heap ≡ length es = heap.data.ok.0 in
    let fits : heap_len heap < heap_capacity heap = omega arith in
    let moved : IsPermutation (e ∷ es) (heap_items c.push.new.self) = ok_then c.push.result _ (c.push.ensures.succeeds fits) c.push.ensures.permutation in
    put_counts p e es (heap_items c.push.new.self) moved
    ∙ ap (λ (m : NextReadList). bit (p c.args.read) + count_by p m.reads) c.self.view_is
