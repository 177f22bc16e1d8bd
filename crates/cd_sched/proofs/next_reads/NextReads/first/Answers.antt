-- The element at the top has the first read.
use Rattle.cd_sched.proofs.Heaps.{Elements, empty_least, top_least}
use Rattle.cd_sched.proofs.next_reads.NextReads.first.Goals as goal
use Rattle.cd_sched.specs.NextReads.{IsLeast, NextReadList, read_in}
use Rattle.std.proofs.Common.{List, Some, ap, get_or, length, map, subst, sym, ℕ, ◌<◌, ◌∙◌, ◌≡◌, ◌≤◌}
use Rattle.std.specs.BinaryHeap.{heap_items}
use Rattle.std.specs.declared.cmp.Reverse.{Reverse}

pub returns-in-Some : goal.returns-in-Some
returns-in-Some c =
    let es : Elements = heap_items c.self.inside.heap in
    let e : Reverse (ℕ × ℕ) = c.in-Some.first.now in
    let some : 0 < length es = c.in-Some.ensures.item.3.0 in
    let at : e ≡ get_or es 0 e = c.in-Some.ensures.item.1 in
    let reads : map read_in es ≡ c.args.self.now.reads = ap (λ (m : NextReadList). m.reads) c.self.view_is in
    subst (λ (ts : List (ℕ × ℕ)). IsLeast ts (Some e.0)) reads (top_least e es some at (c.in-Some.ensures.greatest c.self.invariant))

pub returns-in-None : goal.returns-in-None
returns-in-None c =
    let es : Elements = heap_items c.self.inside.heap in
    let none : length es ≤ 0 = c.in-None.ensures.item.3 in
    sym (ap (λ (m : NextReadList). m.reads) c.self.view_is) ∙ empty_least es none
