-- The reader of the number stands at its place.
use Rattle.cd_sched.proofs.Edits.{anyone, ascending_without, stands_there, taken_there, within}
use Rattle.cd_sched.proofs.Laws.{without_others, without_same}
use Rattle.cd_sched.proofs.Resting.{forgotten_reads, one_read, taken_reads}
use Rattle.cd_sched.proofs.schedule.Schedule.remove.Goals as goal
use Rattle.cd_sched.specs.Place.{IsAscending}
use Rattle.cd_sched.specs.Schedule.{ReaderMap, reader_at, without}
use Rattle.cd_sched.specs.NextReads.{AreNextReadsOf, bit, is_same}
use Rattle.cd_sched.specs.declared.reader.Reader.{Reader}
use Rattle.std.proofs.Common.{Bool, List, ap, arith, false, length, subst, sym, true, vec_len, ℕ, ◌+◌, ◌<◌, ◌∙◌, ◌≡◌, ◌≤◌}
use Rattle.std.specs.List.{count_by}

pub remove-requires : goal.remove-requires
remove-requires c =
    let reg : ℕ = c.args.reg in
    let ps : List (ℕ × Reader) = c.self.inside.readers.items in
    let ns : List (ℕ × Reader) = c.args.self.now.readers in
    let is : ps ≡ ns = ap (λ (m : ReaderMap). m.readers) c.self.view_is in
    let here = anyone (reader_at reg ns) c.requires in
    let lt : c.place-place.result < length ps = within reg ps ns here.0 c.place-place.result is c.self.invariant.0 here.1 c.place-place.ensures in
    omega arith

pub invariant_of-self : goal.invariant_of-self
invariant_of-self c =
    let reg : ℕ = c.args.reg in
    let ps : List (ℕ × Reader) = c.self.inside.readers.items in
    let ns : List (ℕ × Reader) = c.args.self.now.readers in
    let is : ps ≡ ns = ap (λ (m : ReaderMap). m.readers) c.self.view_is in
    let here = anyone (reader_at reg ns) c.requires in
    let after : c.remove.new.self.items ≡ without reg ns = c.remove.ensures.items ∙ taken_there reg ps ns here.0 c.place-place.result is c.self.invariant.0 here.1 c.place-place.ensures in
    let stood : c.remove.result ≡ (reg, here.0) = stands_there reg ps ns here.0 c.place-place.result c.remove.result is c.self.invariant.0 here.1 c.place-place.ensures c.remove.ensures.value in
    let old : List (ℕ × ℕ) = c.self.inside.next_reads.reads in
    let away : here.0.under_way ≡ true = ap (λ (q : ℕ × Reader). q.1.under_way) (sym stood) ∙ c.if-gone.true in
    let had : vec_len c.self.inside.readers ≤ c.self.inside.next_reads.room = c.self.invariant.2 in
    let less : vec_len c.remove.new.self + 1 ≡ vec_len c.self.inside.readers = c.remove.ensures.len in
    let room : vec_len c.remove.new.self ≤ c.self.inside.next_reads.room = omega arith in (
      subst IsAscending (sym after) (ascending_without reg ns (subst IsAscending is c.self.invariant.0)),
      subst (λ (rs : List (ℕ × Reader)). AreNextReadsOf rs old) (sym after) (forgotten_reads reg here.0 ns old here.1 away (subst (λ (rs : List (ℕ × Reader)). AreNextReadsOf rs old) is c.self.invariant.1)),
      room,
    )

pub take_out-requires : goal.take_out-requires
take_out-requires c =
    let reg : ℕ = c.args.reg in
    let ps : List (ℕ × Reader) = c.self.inside.readers.items in
    let ns : List (ℕ × Reader) = c.args.self.now.readers in
    let is : ps ≡ ns = ap (λ (m : ReaderMap). m.readers) c.self.view_is in
    let here = anyone (reader_at reg ns) c.requires in
    let stood : c.remove.result ≡ (reg, here.0) = stands_there reg ps ns here.0 c.place-place.result c.remove.result is c.self.invariant.0 here.1 c.place-place.ensures c.remove.ensures.value in
    let old : List (ℕ × ℕ) = c.self.inside.next_reads.reads in
    let rest : here.0.under_way ≡ false = ap (λ (q : ℕ × Reader). q.1.under_way) (sym stood) ∙ c.if-gone.false in
    ap (λ (q : ℕ × Reader). count_by (is_same (q.1.due, reg)) old) stood
    ∙ c.self.invariant.1 (is_same (here.0.due, reg))
    ∙ one_read reg here.0 ps c.self.invariant.0 (record { there = ap (reader_at reg) is ∙ here.1; at_rest = rest })

pub invariant_of-self-2 : goal.invariant_of-self-2
invariant_of-self-2 c =
    let reg : ℕ = c.args.reg in
    let ps : List (ℕ × Reader) = c.self.inside.readers.items in
    let ns : List (ℕ × Reader) = c.args.self.now.readers in
    let is : ps ≡ ns = ap (λ (m : ReaderMap). m.readers) c.self.view_is in
    let here = anyone (reader_at reg ns) c.requires in
    let after : c.remove.new.self.items ≡ without reg ns = c.remove.ensures.items ∙ taken_there reg ps ns here.0 c.place-place.result is c.self.invariant.0 here.1 c.place-place.ensures in
    let stood : c.remove.result ≡ (reg, here.0) = stands_there reg ps ns here.0 c.place-place.result c.remove.result is c.self.invariant.0 here.1 c.place-place.ensures c.remove.ensures.value in
    let old : List (ℕ × ℕ) = c.self.inside.next_reads.reads in
    let rest : here.0.under_way ≡ false = ap (λ (q : ℕ × Reader). q.1.under_way) (sym stood) ∙ c.if-gone.false in
    let new : List (ℕ × ℕ) = c.take_out.new.self.reads in
    let left : (p : ℕ × ℕ → Bool) → bit (p (here.0.due, reg)) + count_by p new ≡ count_by p old =
    λ p. ap (λ (q : ℕ × Reader). bit (p (q.1.due, reg)) + count_by p new) (sym stood) ∙ c.take_out.ensures.reads p in
    let had : vec_len c.self.inside.readers ≤ c.self.inside.next_reads.room = c.self.invariant.2 in
    let less : vec_len c.remove.new.self + 1 ≡ vec_len c.self.inside.readers = c.remove.ensures.len in
    let stays : c.take_out.new.self.room ≡ c.self.inside.next_reads.room = c.take_out.ensures.room in
    let room : vec_len c.remove.new.self ≤ c.take_out.new.self.room = omega arith in (
      subst IsAscending (sym after) (ascending_without reg ns (subst IsAscending is c.self.invariant.0)),
      subst (λ (rs : List (ℕ × Reader)). AreNextReadsOf rs new) (sym after) (taken_reads reg here.0 ns old new here.1 rest (subst (λ (rs : List (ℕ × Reader)). AreNextReadsOf rs old) is c.self.invariant.1) left),
      room,
    )

pub returns-then-gone-clause-readers : goal.returns-then-gone-clause-readers
returns-then-gone-clause-readers c =
    let reg : ℕ = c.args.reg in
    let ps : List (ℕ × Reader) = c.self.inside.readers.items in
    let ns : List (ℕ × Reader) = c.args.self.now.readers in
    let is : ps ≡ ns = ap (λ (m : ReaderMap). m.readers) c.self.view_is in
    let here = anyone (reader_at reg ns) c.requires in
    let after : c.remove.new.self.items ≡ without reg ns = c.remove.ensures.items ∙ taken_there reg ps ns here.0 c.place-place.result is c.self.invariant.0 here.1 c.place-place.ensures in
    after

pub returns-then-gone-clause-gone : goal.returns-then-gone-clause-gone
returns-then-gone-clause-gone c =
    let reg : ℕ = c.args.reg in
    let ps : List (ℕ × Reader) = c.self.inside.readers.items in
    let ns : List (ℕ × Reader) = c.args.self.now.readers in
    let is : ps ≡ ns = ap (λ (m : ReaderMap). m.readers) c.self.view_is in
    let here = anyone (reader_at reg ns) c.requires in
    let after : c.remove.new.self.items ≡ without reg ns = c.remove.ensures.items ∙ taken_there reg ps ns here.0 c.place-place.result is c.self.invariant.0 here.1 c.place-place.ensures in
    ap (reader_at reg) after ∙ without_same reg ns (subst IsAscending is c.self.invariant.0)

pub returns-then-gone-clause-others : goal.returns-then-gone-clause-others
returns-then-gone-clause-others c = λ other differ.
    let reg : ℕ = c.args.reg in
    let ps : List (ℕ × Reader) = c.self.inside.readers.items in
    let ns : List (ℕ × Reader) = c.args.self.now.readers in
    let is : ps ≡ ns = ap (λ (m : ReaderMap). m.readers) c.self.view_is in
    let here = anyone (reader_at reg ns) c.requires in
    let after : c.remove.new.self.items ≡ without reg ns = c.remove.ensures.items ∙ taken_there reg ps ns here.0 c.place-place.result is c.self.invariant.0 here.1 c.place-place.ensures in
    ap (reader_at other) after ∙ without_others reg ns other differ

pub returns-clause-readers : goal.returns-clause-readers
returns-clause-readers c =
    let reg : ℕ = c.args.reg in
    let ps : List (ℕ × Reader) = c.self.inside.readers.items in
    let ns : List (ℕ × Reader) = c.args.self.now.readers in
    let is : ps ≡ ns = ap (λ (m : ReaderMap). m.readers) c.self.view_is in
    let here = anyone (reader_at reg ns) c.requires in
    let after : c.remove.new.self.items ≡ without reg ns = c.remove.ensures.items ∙ taken_there reg ps ns here.0 c.place-place.result is c.self.invariant.0 here.1 c.place-place.ensures in
    after

pub returns-clause-gone : goal.returns-clause-gone
returns-clause-gone c =
    let reg : ℕ = c.args.reg in
    let ps : List (ℕ × Reader) = c.self.inside.readers.items in
    let ns : List (ℕ × Reader) = c.args.self.now.readers in
    let is : ps ≡ ns = ap (λ (m : ReaderMap). m.readers) c.self.view_is in
    let here = anyone (reader_at reg ns) c.requires in
    let after : c.remove.new.self.items ≡ without reg ns = c.remove.ensures.items ∙ taken_there reg ps ns here.0 c.place-place.result is c.self.invariant.0 here.1 c.place-place.ensures in
    ap (reader_at reg) after ∙ without_same reg ns (subst IsAscending is c.self.invariant.0)

pub returns-clause-others : goal.returns-clause-others
returns-clause-others c = λ other differ.
    let reg : ℕ = c.args.reg in
    let ps : List (ℕ × Reader) = c.self.inside.readers.items in
    let ns : List (ℕ × Reader) = c.args.self.now.readers in
    let is : ps ≡ ns = ap (λ (m : ReaderMap). m.readers) c.self.view_is in
    let here = anyone (reader_at reg ns) c.requires in
    let after : c.remove.new.self.items ≡ without reg ns = c.remove.ensures.items ∙ taken_there reg ps ns here.0 c.place-place.result is c.self.invariant.0 here.1 c.place-place.ensures in
    ap (reader_at other) after ∙ without_others reg ns other differ
