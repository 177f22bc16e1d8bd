-- The reader of the number stands at its place.
use Rattle.cd_sched.proofs.Edits.{ascending_changed, changed_there, someone, stands_there, within}
use Rattle.cd_sched.proofs.Laws.{changed_others, changed_same}
use Rattle.cd_sched.proofs.Resting.{left_reads, one_read}
use Rattle.cd_sched.proofs.schedule.Schedule.begin.Goals as goal
use Rattle.cd_sched.specs.Place.{IsAscending}
use Rattle.cd_sched.specs.Schedule.{ReaderMap, begun, changed, reader_at}
use Rattle.cd_sched.specs.NextReads.{AreNextReadsOf, bit, is_same}
use Rattle.cd_sched.specs.declared.reader.Reader.{Reader}
use Rattle.std.proofs.Common.{Bool, List, ap, arith, length, refl, subst, sym, vec_len, ℕ, ◌+◌, ◌<◌, ◌∙◌, ◌≡◌, ◌≤◌}
use Rattle.std.specs.List.{count_by}
use Rattle.std.specs.Prelude.{slice_set}

pub index-requires : goal.index-requires
index-requires c =
    let reg : ℕ = c.args.reg in
    let ps : List (ℕ × Reader) = c.self.inside.readers.items in
    let ns : List (ℕ × Reader) = c.args.self.now.readers in
    let is : ps ≡ ns = ap (λ (m : ReaderMap). m.readers) c.self.view_is in
    let here = someone (reader_at reg ns) _ c.requires in
    let lt : c.place-place.result < length ps = within reg ps ns here.0 c.place-place.result is c.self.invariant.0 here.1 c.place-place.ensures in
    omega arith

pub index_mut-requires : goal.index_mut-requires
index_mut-requires c =
    let reg : ℕ = c.args.reg in
    let ps : List (ℕ × Reader) = c.self.inside.readers.items in
    let ns : List (ℕ × Reader) = c.args.self.now.readers in
    let is : ps ≡ ns = ap (λ (m : ReaderMap). m.readers) c.self.view_is in
    let here = someone (reader_at reg ns) _ c.requires in
    let lt : c.place-place.result < length ps = within reg ps ns here.0 c.place-place.result is c.self.invariant.0 here.1 c.place-place.ensures in
    omega arith

pub take_out-requires : goal.take_out-requires
take_out-requires c =
    let reg : ℕ = c.args.reg in
    let ps : List (ℕ × Reader) = c.self.inside.readers.items in
    let ns : List (ℕ × Reader) = c.args.self.now.readers in
    let is : ps ≡ ns = ap (λ (m : ReaderMap). m.readers) c.self.view_is in
    let here = someone (reader_at reg ns) _ c.requires in
    let stood : c.index.result.now ≡ (reg, here.0) = stands_there reg ps ns here.0 c.place-place.result c.index.result.now is c.self.invariant.0 here.1 c.place-place.ensures c.index.ensures in
    let old : List (ℕ × ℕ) = c.self.inside.next_reads.reads in
    let one : count_by (is_same (here.0.due, reg)) old ≡ 1 =
    c.self.invariant.1 (is_same (here.0.due, reg)) ∙ one_read reg here.0 ps c.self.invariant.0 (record { there = ap (reader_at reg) is ∙ here.1; at_rest = here.2 }) in
    ap (λ (q : ℕ × Reader). count_by (is_same (q.1.due, reg)) old) stood ∙ one

pub invariant_of-self : goal.invariant_of-self
invariant_of-self c =
    let reg : ℕ = c.args.reg in
    let ps : List (ℕ × Reader) = c.self.inside.readers.items in
    let ns : List (ℕ × Reader) = c.args.self.now.readers in
    let is : ps ≡ ns = ap (λ (m : ReaderMap). m.readers) c.self.view_is in
    let here = someone (reader_at reg ns) _ c.requires in
    let change : Reader → Reader = begun in
    let makes : c.begun.result ≡ change c.index.result.now.1 = c.begun.ensures in
    let after : slice_set ps c.place-place.result (reg, c.begun.result) ≡ changed reg change ns =
    changed_there reg change ps ns here.0 c.place-place.result c.index.result.now c.begun.result is c.self.invariant.0 here.1 c.place-place.ensures c.index.ensures makes in
    let stood : c.index.result.now ≡ (reg, here.0) = stands_there reg ps ns here.0 c.place-place.result c.index.result.now is c.self.invariant.0 here.1 c.place-place.ensures c.index.ensures in
    let old : List (ℕ × ℕ) = c.self.inside.next_reads.reads in
    let new : List (ℕ × ℕ) = c.take_out.new.self.reads in
    let left : (p : ℕ × ℕ → Bool) → bit (p (here.0.due, reg)) + count_by p new ≡ count_by p old =
    λ p. ap (λ (q : ℕ × Reader). bit (p (q.1.due, reg)) + count_by p new) (sym stood) ∙ c.take_out.ensures.reads p in
    let reads : AreNextReadsOf (changed reg change ns) new =
    left_reads reg change here.0 ns old new here.1 here.2 refl (subst (λ (rs : List (ℕ × Reader)). AreNextReadsOf rs old) is c.self.invariant.1) left in
    let room : vec_len c.self.inside.readers ≤ c.take_out.new.self.room = subst (λ (n : ℕ). vec_len c.self.inside.readers ≤ n) (sym c.take_out.ensures.room) c.self.invariant.2 in (
      subst IsAscending (sym after) (ascending_changed reg change ns (subst IsAscending is c.self.invariant.0)),
      subst (λ (rs : List (ℕ × Reader)). AreNextReadsOf rs new) (sym after) reads,
      room,
    )

pub returns-clause-readers : goal.returns-clause-readers
returns-clause-readers c =
    let reg : ℕ = c.args.reg in
    let ps : List (ℕ × Reader) = c.self.inside.readers.items in
    let ns : List (ℕ × Reader) = c.args.self.now.readers in
    let is : ps ≡ ns = ap (λ (m : ReaderMap). m.readers) c.self.view_is in
    let here = someone (reader_at reg ns) _ c.requires in
    let change : Reader → Reader = begun in
    let makes : c.begun.result ≡ change c.index.result.now.1 = c.begun.ensures in
    let after : slice_set ps c.place-place.result (reg, c.begun.result) ≡ changed reg change ns =
    changed_there reg change ps ns here.0 c.place-place.result c.index.result.now c.begun.result is c.self.invariant.0 here.1 c.place-place.ensures c.index.ensures makes in
    after

pub returns-clause-there : goal.returns-clause-there
returns-clause-there c =
    let reg : ℕ = c.args.reg in
    let ps : List (ℕ × Reader) = c.self.inside.readers.items in
    let ns : List (ℕ × Reader) = c.args.self.now.readers in
    let is : ps ≡ ns = ap (λ (m : ReaderMap). m.readers) c.self.view_is in
    let here = someone (reader_at reg ns) _ c.requires in
    let change : Reader → Reader = begun in
    let makes : c.begun.result ≡ change c.index.result.now.1 = c.begun.ensures in
    let after : slice_set ps c.place-place.result (reg, c.begun.result) ≡ changed reg change ns =
    changed_there reg change ps ns here.0 c.place-place.result c.index.result.now c.begun.result is c.self.invariant.0 here.1 c.place-place.ensures c.index.ensures makes in
    ap (reader_at reg) after ∙ changed_same reg change ns

pub returns-clause-others : goal.returns-clause-others
returns-clause-others c = λ other differ.
    let reg : ℕ = c.args.reg in
    let ps : List (ℕ × Reader) = c.self.inside.readers.items in
    let ns : List (ℕ × Reader) = c.args.self.now.readers in
    let is : ps ≡ ns = ap (λ (m : ReaderMap). m.readers) c.self.view_is in
    let here = someone (reader_at reg ns) _ c.requires in
    let change : Reader → Reader = begun in
    let makes : c.begun.result ≡ change c.index.result.now.1 = c.begun.ensures in
    let after : slice_set ps c.place-place.result (reg, c.begun.result) ≡ changed reg change ns =
    changed_there reg change ps ns here.0 c.place-place.result c.index.result.now c.begun.result is c.self.invariant.0 here.1 c.place-place.ensures c.index.ensures makes in
    ap (reader_at other) after ∙ changed_others reg change ns other differ
