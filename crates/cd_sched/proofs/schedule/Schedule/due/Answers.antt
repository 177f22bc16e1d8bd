-- The first read is that of the first reader at rest.
use Rattle.cd_sched.proofs.Numbers.{above_is, up_to_is}
use Rattle.cd_sched.proofs.Resting.{least_along, says_first, says_none}
use Rattle.cd_sched.proofs.schedule.Schedule.due.Goals as goal
use Rattle.cd_sched.specs.Due.{IsFirst, due_at, first_of, next_reads_of}
use Rattle.cd_sched.specs.Place.{IsAscending}
use Rattle.cd_sched.specs.Schedule.{ReaderMap}
use Rattle.cd_sched.specs.declared.reader.Due.TheVariants.{NotYet, Ready}
use Rattle.cd_sched.specs.declared.reader.Reader.{Reader}
use Rattle.std.proofs.Common.{List, Some, ap, cond, subst, sym, ℕ, ◌∙◌, ◌≡◌, ◌≤◌}

pub returns-in-None-clause-due : goal.returns-in-None-clause-due
returns-in-None-clause-due c =
    let ps : List (ℕ × Reader) = c.self.inside.readers.items in
    let ns : List (ℕ × Reader) = c.args.self.now.readers in
    let same : ps ≡ ns = ap (λ (m : ReaderMap). m.readers) c.self.view_is in
    let first : first_of (next_reads_of ns) ≡ c.first.result =
    ap (λ (rs : List (ℕ × Reader)). first_of (next_reads_of rs)) (sym same) ∙ least_along ps c.self.inside.next_reads.reads c.first.result c.self.invariant.1 c.first.ensures in
    sym (ap (due_at c.args.now) (first ∙ c.in-None.is))

pub returns-in-None-clause-first : goal.returns-in-None-clause-first
returns-in-None-clause-first c =
    let ps : List (ℕ × Reader) = c.self.inside.readers.items in
    let ns : List (ℕ × Reader) = c.args.self.now.readers in
    let same : ps ≡ ns = ap (λ (m : ReaderMap). m.readers) c.self.view_is in
    let first : first_of (next_reads_of ns) ≡ c.first.result =
    ap (λ (rs : List (ℕ × Reader)). first_of (next_reads_of rs)) (sym same) ∙ least_along ps c.self.inside.next_reads.reads c.first.result c.self.invariant.1 c.first.ensures in
    says_none ns (first ∙ c.in-None.is)

pub returns-then-due-now-clause-due : goal.returns-then-due-now-clause-due
returns-then-due-now-clause-due c =
    let ps : List (ℕ × Reader) = c.self.inside.readers.items in
    let ns : List (ℕ × Reader) = c.args.self.now.readers in
    let same : ps ≡ ns = ap (λ (m : ReaderMap). m.readers) c.self.view_is in
    let first : first_of (next_reads_of ns) ≡ c.first.result =
    ap (λ (rs : List (ℕ × Reader)). first_of (next_reads_of rs)) (sym same) ∙ least_along ps c.self.inside.next_reads.reads c.first.result c.self.invariant.1 c.first.ensures in
    let is : first_of (next_reads_of ns) ≡ Some (c.in-Some.due, c.in-Some.reg) = first ∙ c.in-Some.is in
    sym (ap (due_at c.args.now) is ∙ ap (λ b. cond b (Ready c.in-Some.reg) (NotYet c.in-Some.due)) (up_to_is c.in-Some.due c.args.now c.if-due-now.true))

pub returns-then-due-now-clause-first : goal.returns-then-due-now-clause-first
returns-then-due-now-clause-first c =
    let ps : List (ℕ × Reader) = c.self.inside.readers.items in
    let ns : List (ℕ × Reader) = c.args.self.now.readers in
    let same : ps ≡ ns = ap (λ (m : ReaderMap). m.readers) c.self.view_is in
    let first : first_of (next_reads_of ns) ≡ c.first.result =
    ap (λ (rs : List (ℕ × Reader)). first_of (next_reads_of rs)) (sym same) ∙ least_along ps c.self.inside.next_reads.reads c.first.result c.self.invariant.1 c.first.ensures in
    let is : first_of (next_reads_of ns) ≡ Some (c.in-Some.due, c.in-Some.reg) = first ∙ c.in-Some.is in
    let found : (reader : Reader) × IsFirst c.in-Some.reg reader ns × (reader.due ≡ c.in-Some.due) =
    says_first ns c.in-Some.due c.in-Some.reg (subst IsAscending same c.self.invariant.0) is in
    (found.0, found.1, subst (λ (n : ℕ). n ≤ c.args.now) (sym found.2) c.if-due-now.true)

pub returns-else-due-now-clause-due : goal.returns-else-due-now-clause-due
returns-else-due-now-clause-due c =
    let ps : List (ℕ × Reader) = c.self.inside.readers.items in
    let ns : List (ℕ × Reader) = c.args.self.now.readers in
    let same : ps ≡ ns = ap (λ (m : ReaderMap). m.readers) c.self.view_is in
    let first : first_of (next_reads_of ns) ≡ c.first.result =
    ap (λ (rs : List (ℕ × Reader)). first_of (next_reads_of rs)) (sym same) ∙ least_along ps c.self.inside.next_reads.reads c.first.result c.self.invariant.1 c.first.ensures in
    let is : first_of (next_reads_of ns) ≡ Some (c.in-Some.due, c.in-Some.reg) = first ∙ c.in-Some.is in
    sym (ap (due_at c.args.now) is ∙ ap (λ b. cond b (Ready c.in-Some.reg) (NotYet c.in-Some.due)) (above_is c.in-Some.due c.args.now c.if-due-now.false))

pub returns-else-due-now-clause-first : goal.returns-else-due-now-clause-first
returns-else-due-now-clause-first c =
    let ps : List (ℕ × Reader) = c.self.inside.readers.items in
    let ns : List (ℕ × Reader) = c.args.self.now.readers in
    let same : ps ≡ ns = ap (λ (m : ReaderMap). m.readers) c.self.view_is in
    let first : first_of (next_reads_of ns) ≡ c.first.result =
    ap (λ (rs : List (ℕ × Reader)). first_of (next_reads_of rs)) (sym same) ∙ least_along ps c.self.inside.next_reads.reads c.first.result c.self.invariant.1 c.first.ensures in
    let is : first_of (next_reads_of ns) ≡ Some (c.in-Some.due, c.in-Some.reg) = first ∙ c.in-Some.is in
    let found : (reader : Reader) × IsFirst c.in-Some.reg reader ns × (reader.due ≡ c.in-Some.due) =
    says_first ns c.in-Some.due c.in-Some.reg (subst IsAscending same c.self.invariant.0) is in
    (c.in-Some.reg, found.0, found.1, found.2, c.if-due-now.false)
