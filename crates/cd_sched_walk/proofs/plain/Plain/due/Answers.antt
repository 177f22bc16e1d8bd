-- What the first read says of the readers.
use Rattle.cd_sched.proofs.Resting.{says_first, says_none}
use Rattle.cd_sched_walk.proofs.plain.Plain.due.Goals as goal
use Rattle.cd_sched.specs.Due.{IsFirst, first_of, next_reads_of}
use Rattle.cd_sched.specs.Place.{IsAscending}
use Rattle.cd_sched.specs.Schedule.{ReaderMap}
use Rattle.cd_sched.specs.declared.reader.Reader.{Reader}
use Rattle.std.proofs.Common.{List, None, Some, ap, subst, sym, ℕ, ◌∙◌, ◌≡◌, ◌≤◌}

pub returns-in-None-clause-first : goal.returns-in-None-clause-first
returns-in-None-clause-first c =
    let ns : List (ℕ × Reader) = c.args.self.now.readers in
    let same : c.as_slice.result.now ≡ ns = c.as_slice.ensures.value ∙ ap (λ (m : ReaderMap). m.readers) c.self.view_is in
    let is : first_of (next_reads_of ns) ≡ None = ap (λ (rs : List (ℕ × Reader)). first_of (next_reads_of rs)) (sym same) ∙ sym c.first_read.ensures ∙ c.in-None.is in
    says_none ns is

pub returns-then-due-now-clause-first : goal.returns-then-due-now-clause-first
returns-then-due-now-clause-first c =
    let ns : List (ℕ × Reader) = c.args.self.now.readers in
    let same : c.as_slice.result.now ≡ ns = c.as_slice.ensures.value ∙ ap (λ (m : ReaderMap). m.readers) c.self.view_is in
    let is : first_of (next_reads_of ns) ≡ Some (c.in-Some.due, c.in-Some.reg) = ap (λ (rs : List (ℕ × Reader)). first_of (next_reads_of rs)) (sym same) ∙ sym c.first_read.ensures ∙ c.in-Some.is in
    let a : IsAscending ns = subst IsAscending (ap (λ (m : ReaderMap). m.readers) c.self.view_is) c.self.invariant in
    let found : (reader : Reader) × IsFirst c.in-Some.reg reader ns × (reader.due ≡ c.in-Some.due) = says_first ns c.in-Some.due c.in-Some.reg a is in
    (found.0, found.1, subst (λ (n : ℕ). n ≤ c.args.now) (sym found.2) c.if-due-now.true)

pub returns-else-due-now-clause-first : goal.returns-else-due-now-clause-first
returns-else-due-now-clause-first c =
    let ns : List (ℕ × Reader) = c.args.self.now.readers in
    let same : c.as_slice.result.now ≡ ns = c.as_slice.ensures.value ∙ ap (λ (m : ReaderMap). m.readers) c.self.view_is in
    let is : first_of (next_reads_of ns) ≡ Some (c.in-Some.due, c.in-Some.reg) = ap (λ (rs : List (ℕ × Reader)). first_of (next_reads_of rs)) (sym same) ∙ sym c.first_read.ensures ∙ c.in-Some.is in
    let a : IsAscending ns = subst IsAscending (ap (λ (m : ReaderMap). m.readers) c.self.view_is) c.self.invariant in
    let found : (reader : Reader) × IsFirst c.in-Some.reg reader ns × (reader.due ≡ c.in-Some.due) = says_first ns c.in-Some.due c.in-Some.reg a is in
    (c.in-Some.reg, found.0, found.1, found.2, c.if-due-now.false)
