-- The element at the top stands in front.
use Rattle.cd_sched.proofs.Heaps.{Elements, top_is}
use Rattle.cd_sched.proofs.next_reads.NextReads.is_first.Goals as goal
use Rattle.cd_sched.specs.NextReads.{NextReadList, read_in}
use Rattle.std.proofs.Common.{List, ap, get_or, length, map, sym, ℕ, ◌<◌, ◌∙◌, ◌∷◌, ◌≡◌}
use Rattle.std.specs.BinaryHeap.{heap_items}
use Rattle.std.specs.declared.cmp.Reverse.{Reverse}

pub returns-in-Some : goal.returns-in-Some
returns-in-Some c = λ same.
    let es : Elements = heap_items c.self.inside.heap in
    let e : Reverse (ℕ × ℕ) = c.in-Some.first.now in
    let some : 0 < length es = c.in-Some.ensures.item.3.0 in
    let at : e ≡ get_or es 0 e = c.in-Some.ensures.item.1 in
    let top : (rest : List (ℕ × ℕ)) × (map read_in es ≡ c.args.read ∷ rest) = top_is e es c.args.read some at (sym c.is_same.ensures ∙ same) in
    (top.0, sym (ap (λ (m : NextReadList). m.reads) c.self.view_is) ∙ top.1)
