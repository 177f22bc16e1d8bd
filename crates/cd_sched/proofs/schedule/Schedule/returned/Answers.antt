-- The reader of the number stands at its place.
use Rattle.cd_sched.proofs.Edits.{ascending_changed, changed_there, someone, stands_there, within}
use Rattle.cd_sched.proofs.Laws.{changed_others, changed_same}
use Rattle.cd_sched.proofs.Resting.{joined_reads, reads_below}
use Rattle.cd_sched.proofs.schedule.Schedule.returned.Goals as goal
use Rattle.cd_sched.specs.Place.{IsAscending}
use Rattle.cd_sched.specs.Schedule.{ReaderMap, reader_after, changed, reader_at}
use Rattle.cd_sched.specs.NextReads.{AreNextReadsOf, bit}
use Rattle.cd_sched.specs.declared.reader.Reader.{Reader}
use Rattle.std.proofs.Common.{Bool, List, ap, arith, length, refl, subst, sym, vec_len, ℕ, ◌+◌, ◌<◌, ◌∙◌, ◌≡◌, ◌≤◌}
use Rattle.std.specs.List.{count_by}
use Rattle.std.specs.Prelude.{slice_set}

pub index-requires : goal.index-requires
index-requires c =
    let reg : ℕ = c.args.reg in
    let ps : List (ℕ × Reader) = c.self.inside.readers.items in
    let ns : List (ℕ × Reader) = c.args.self.now.readers in
    let is : ps ≡ ns = ap (λ (m : ReaderMap). m.readers) c.self.view_is in
    let here = someone (reader_at reg ns) _ c.requires in
    let lt : c.place-place.result < length ps = within reg ps ns here.0 c.place-place.result is c.self.invariant.0 here.1 c.place-place.ensures in
    omega arith

pub index_mut-requires : goal.index_mut-requires
index_mut-requires c =
    let reg : ℕ = c.args.reg in
    let ps : List (ℕ × Reader) = c.self.inside.readers.items in
    let ns : List (ℕ × Reader) = c.args.self.now.readers in
    let is : ps ≡ ns = ap (λ (m : ReaderMap). m.readers) c.self.view_is in
    let here = someone (reader_at reg ns) _ c.requires in
    let lt : c.place-place.result < length ps = within reg ps ns here.0 c.place-place.result is c.self.invariant.0 here.1 c.place-place.ensures in
    omega arith

pub put-requires : goal.put-requires
put-requires c =
    let reg : ℕ = c.args.reg in
    let ps : List (ℕ × Reader) = c.self.inside.readers.items in
    let ns : List (ℕ × Reader) = c.args.self.now.readers in
    let is : ps ≡ ns = ap (λ (m : ReaderMap). m.readers) c.self.view_is in
    let here = someone (reader_at reg ns) _ c.requires in
    let old : List (ℕ × ℕ) = c.self.inside.next_reads.reads in
    let below : length old < length ps = reads_below reg here.0 ps old (ap (reader_at reg) is ∙ here.1) here.2 c.self.invariant.1 in
    let counted : vec_len c.self.inside.readers ≡ length ps = c.self.inside.readers.ok.0 in
    let room : vec_len c.self.inside.readers ≤ c.self.inside.next_reads.room = c.self.invariant.2 in
    omega arith

pub invariant_of-self : goal.invariant_of-self
invariant_of-self c =
    let reg : ℕ = c.args.reg in
    let ps : List (ℕ × Reader) = c.self.inside.readers.items in
    let ns : List (ℕ × Reader) = c.args.self.now.readers in
    let is : ps ≡ ns = ap (λ (m : ReaderMap). m.readers) c.self.view_is in
    let here = someone (reader_at reg ns) _ c.requires in
    let change : Reader → Reader = reader_after c.args.self.now.longest c.args.ok c.args.now in
    let makes : c.after-later.result ≡ change c.index.result.now.1 = c.after-later.ensures ∙ ap (λ (longest : ℕ). reader_after longest c.args.ok c.args.now c.index.result.now.1) (ap (λ (m : ReaderMap). m.longest) c.self.view_is) in
    let after : slice_set ps c.place-place.result (reg, c.after-later.result) ≡ changed reg change ns =
    changed_there reg change ps ns here.0 c.place-place.result c.index.result.now c.after-later.result is c.self.invariant.0 here.1 c.place-place.ensures c.index.ensures makes in
    let stood : c.index.result.now ≡ (reg, here.0) = stands_there reg ps ns here.0 c.place-place.result c.index.result.now is c.self.invariant.0 here.1 c.place-place.ensures c.index.ensures in
    let old : List (ℕ × ℕ) = c.self.inside.next_reads.reads in
    let new : List (ℕ × ℕ) = c.put.new.self.reads in
    let made : c.after-later.result ≡ change here.0 = makes ∙ ap (λ (q : ℕ × Reader). change q.1) stood in
    let joined : (p : ℕ × ℕ → Bool) → count_by p new ≡ bit (p ((change here.0).due, reg)) + count_by p old =
    λ p. c.put.ensures.reads p ∙ ap (λ (r : Reader). bit (p (r.due, reg)) + count_by p old) made in
    let reads : AreNextReadsOf (changed reg change ns) new =
    joined_reads reg change here.0 ns old new here.1 here.2 refl (subst (λ (rs : List (ℕ × Reader)). AreNextReadsOf rs old) is c.self.invariant.1) joined in
    let had : vec_len c.self.inside.readers ≤ c.self.inside.next_reads.room = c.self.invariant.2 in
    let grows : c.self.inside.next_reads.room ≤ c.put.new.self.room = c.put.ensures.room in
    let room : vec_len c.self.inside.readers ≤ c.put.new.self.room = omega arith in (
      subst IsAscending (sym after) (ascending_changed reg change ns (subst IsAscending is c.self.invariant.0)),
      subst (λ (rs : List (ℕ × Reader)). AreNextReadsOf rs new) (sym after) reads,
      room,
    )

pub returns-clause-readers : goal.returns-clause-readers
returns-clause-readers c =
    let reg : ℕ = c.args.reg in
    let ps : List (ℕ × Reader) = c.self.inside.readers.items in
    let ns : List (ℕ × Reader) = c.args.self.now.readers in
    let is : ps ≡ ns = ap (λ (m : ReaderMap). m.readers) c.self.view_is in
    let here = someone (reader_at reg ns) _ c.requires in
    let change : Reader → Reader = reader_after c.args.self.now.longest c.args.ok c.args.now in
    let makes : c.after-later.result ≡ change c.index.result.now.1 = c.after-later.ensures ∙ ap (λ (longest : ℕ). reader_after longest c.args.ok c.args.now c.index.result.now.1) (ap (λ (m : ReaderMap). m.longest) c.self.view_is) in
    let after : slice_set ps c.place-place.result (reg, c.after-later.result) ≡ changed reg change ns =
    changed_there reg change ps ns here.0 c.place-place.result c.index.result.now c.after-later.result is c.self.invariant.0 here.1 c.place-place.ensures c.index.ensures makes in
    after

pub returns-clause-there : goal.returns-clause-there
returns-clause-there c =
    let reg : ℕ = c.args.reg in
    let ps : List (ℕ × Reader) = c.self.inside.readers.items in
    let ns : List (ℕ × Reader) = c.args.self.now.readers in
    let is : ps ≡ ns = ap (λ (m : ReaderMap). m.readers) c.self.view_is in
    let here = someone (reader_at reg ns) _ c.requires in
    let change : Reader → Reader = reader_after c.args.self.now.longest c.args.ok c.args.now in
    let makes : c.after-later.result ≡ change c.index.result.now.1 = c.after-later.ensures ∙ ap (λ (longest : ℕ). reader_after longest c.args.ok c.args.now c.index.result.now.1) (ap (λ (m : ReaderMap). m.longest) c.self.view_is) in
    let after : slice_set ps c.place-place.result (reg, c.after-later.result) ≡ changed reg change ns =
    changed_there reg change ps ns here.0 c.place-place.result c.index.result.now c.after-later.result is c.self.invariant.0 here.1 c.place-place.ensures c.index.ensures makes in
    ap (reader_at reg) after ∙ changed_same reg change ns

pub returns-clause-others : goal.returns-clause-others
returns-clause-others c = λ other differ.
    let reg : ℕ = c.args.reg in
    let ps : List (ℕ × Reader) = c.self.inside.readers.items in
    let ns : List (ℕ × Reader) = c.args.self.now.readers in
    let is : ps ≡ ns = ap (λ (m : ReaderMap). m.readers) c.self.view_is in
    let here = someone (reader_at reg ns) _ c.requires in
    let change : Reader → Reader = reader_after c.args.self.now.longest c.args.ok c.args.now in
    let makes : c.after-later.result ≡ change c.index.result.now.1 = c.after-later.ensures ∙ ap (λ (longest : ℕ). reader_after longest c.args.ok c.args.now c.index.result.now.1) (ap (λ (m : ReaderMap). m.longest) c.self.view_is) in
    let after : slice_set ps c.place-place.result (reg, c.after-later.result) ≡ changed reg change ns =
    changed_there reg change ps ns here.0 c.place-place.result c.index.result.now c.after-later.result is c.self.invariant.0 here.1 c.place-place.ensures c.index.ensures makes in
    ap (reader_at other) after ∙ changed_others reg change ns other differ
