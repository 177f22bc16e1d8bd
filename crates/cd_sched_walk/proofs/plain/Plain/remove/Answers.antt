-- The reader of the number stands at its place.
use Rattle.cd_sched.proofs.Edits.{anyone, ascending_without, taken_there, within}
use Rattle.cd_sched.proofs.Laws.{without_others, without_same}
use Rattle.cd_sched_walk.proofs.plain.Plain.remove.Goals as goal
use Rattle.cd_sched.specs.Place.{IsAscending}
use Rattle.cd_sched.specs.Schedule.{ReaderMap, reader_at, without}
use Rattle.cd_sched.specs.declared.reader.Reader.{Reader}
use Rattle.std.proofs.Common.{List, ap, arith, length, subst, sym, ℕ, ◌<◌, ◌∙◌, ◌≡◌}

pub remove-requires : goal.remove-requires
remove-requires c =
    let reg : ℕ = c.args.reg in
    let ps : List (ℕ × Reader) = c.self.inside.readers.items in
    let ns : List (ℕ × Reader) = c.args.self.now.readers in
    let is : ps ≡ ns = ap (λ (m : ReaderMap). m.readers) c.self.view_is in
    let here = anyone (reader_at reg ns) c.requires in
    let lt : c.place-place.result < length ps = within reg ps ns here.0 c.place-place.result is c.self.invariant here.1 c.place-place.ensures in
    omega arith

pub invariant_of-self : goal.invariant_of-self
invariant_of-self c =
    let reg : ℕ = c.args.reg in
    let ps : List (ℕ × Reader) = c.self.inside.readers.items in
    let ns : List (ℕ × Reader) = c.args.self.now.readers in
    let is : ps ≡ ns = ap (λ (m : ReaderMap). m.readers) c.self.view_is in
    let here = anyone (reader_at reg ns) c.requires in
    let after : c.remove.new.self.items ≡ without reg ns = c.remove.ensures.items ∙ taken_there reg ps ns here.0 c.place-place.result is c.self.invariant here.1 c.place-place.ensures in
    subst IsAscending (sym after) (ascending_without reg ns (subst IsAscending is c.self.invariant))

pub returns-clause-readers : goal.returns-clause-readers
returns-clause-readers c =
    let reg : ℕ = c.args.reg in
    let ps : List (ℕ × Reader) = c.self.inside.readers.items in
    let ns : List (ℕ × Reader) = c.args.self.now.readers in
    let is : ps ≡ ns = ap (λ (m : ReaderMap). m.readers) c.self.view_is in
    let here = anyone (reader_at reg ns) c.requires in
    let after : c.remove.new.self.items ≡ without reg ns = c.remove.ensures.items ∙ taken_there reg ps ns here.0 c.place-place.result is c.self.invariant here.1 c.place-place.ensures in
    after

pub returns-clause-gone : goal.returns-clause-gone
returns-clause-gone c =
    let reg : ℕ = c.args.reg in
    let ps : List (ℕ × Reader) = c.self.inside.readers.items in
    let ns : List (ℕ × Reader) = c.args.self.now.readers in
    let is : ps ≡ ns = ap (λ (m : ReaderMap). m.readers) c.self.view_is in
    let here = anyone (reader_at reg ns) c.requires in
    let after : c.remove.new.self.items ≡ without reg ns = c.remove.ensures.items ∙ taken_there reg ps ns here.0 c.place-place.result is c.self.invariant here.1 c.place-place.ensures in
    ap (reader_at reg) after ∙ without_same reg ns (subst IsAscending is c.self.invariant)

pub returns-clause-others : goal.returns-clause-others
returns-clause-others c = λ other differ.
    let reg : ℕ = c.args.reg in
    let ps : List (ℕ × Reader) = c.self.inside.readers.items in
    let ns : List (ℕ × Reader) = c.args.self.now.readers in
    let is : ps ≡ ns = ap (λ (m : ReaderMap). m.readers) c.self.view_is in
    let here = anyone (reader_at reg ns) c.requires in
    let after : c.remove.new.self.items ≡ without reg ns = c.remove.ensures.items ∙ taken_there reg ps ns here.0 c.place-place.result is c.self.invariant here.1 c.place-place.ensures in
    ap (reader_at other) after ∙ without_others reg ns other differ
