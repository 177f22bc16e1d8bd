-- The reader of the number stands at its place.
use Rattle.cd_sched.proofs.Edits.{ascending_changed, changed_there, someone, within}
use Rattle.cd_sched.proofs.Laws.{changed_others, changed_same}
use Rattle.cd_sched_walk.proofs.plain.Plain.begin.Goals as goal
use Rattle.cd_sched.specs.Place.{IsAscending}
use Rattle.cd_sched.specs.Schedule.{ReaderMap, begun, changed, reader_at}
use Rattle.cd_sched.specs.declared.reader.Reader.{Reader}
use Rattle.std.proofs.Common.{List, ap, arith, length, subst, sym, ℕ, ◌<◌, ◌∙◌, ◌≡◌}
use Rattle.std.specs.Prelude.{slice_set}

pub index-requires : goal.index-requires
index-requires c =
    let reg : ℕ = c.args.reg in
    let ps : List (ℕ × Reader) = c.self.inside.readers.items in
    let ns : List (ℕ × Reader) = c.args.self.now.readers in
    let is : ps ≡ ns = ap (λ (m : ReaderMap). m.readers) c.self.view_is in
    let here = someone (reader_at reg ns) _ c.requires in
    let lt : c.place-place.result < length ps = within reg ps ns here.0 c.place-place.result is c.self.invariant here.1 c.place-place.ensures in
    omega arith

pub index_mut-requires : goal.index_mut-requires
index_mut-requires c =
    let reg : ℕ = c.args.reg in
    let ps : List (ℕ × Reader) = c.self.inside.readers.items in
    let ns : List (ℕ × Reader) = c.args.self.now.readers in
    let is : ps ≡ ns = ap (λ (m : ReaderMap). m.readers) c.self.view_is in
    let here = someone (reader_at reg ns) _ c.requires in
    let lt : c.place-place.result < length ps = within reg ps ns here.0 c.place-place.result is c.self.invariant here.1 c.place-place.ensures in
    omega arith

pub invariant_of-self : goal.invariant_of-self
invariant_of-self c =
    let reg : ℕ = c.args.reg in
    let ps : List (ℕ × Reader) = c.self.inside.readers.items in
    let ns : List (ℕ × Reader) = c.args.self.now.readers in
    let is : ps ≡ ns = ap (λ (m : ReaderMap). m.readers) c.self.view_is in
    let here = someone (reader_at reg ns) _ c.requires in
    let change : Reader → Reader = begun in
    let after : slice_set ps c.place-place.result (reg, c.reader_begun.result) ≡ changed reg change ns =
    changed_there reg change ps ns here.0 c.place-place.result c.index.result.now c.reader_begun.result is c.self.invariant here.1 c.place-place.ensures c.index.ensures (c.reader_begun.ensures) in
    subst IsAscending (sym after) (ascending_changed reg change ns (subst IsAscending is c.self.invariant))

pub returns-clause-readers : goal.returns-clause-readers
returns-clause-readers c =
    let reg : ℕ = c.args.reg in
    let ps : List (ℕ × Reader) = c.self.inside.readers.items in
    let ns : List (ℕ × Reader) = c.args.self.now.readers in
    let is : ps ≡ ns = ap (λ (m : ReaderMap). m.readers) c.self.view_is in
    let here = someone (reader_at reg ns) _ c.requires in
    let change : Reader → Reader = begun in
    let after : slice_set ps c.place-place.result (reg, c.reader_begun.result) ≡ changed reg change ns =
    changed_there reg change ps ns here.0 c.place-place.result c.index.result.now c.reader_begun.result is c.self.invariant here.1 c.place-place.ensures c.index.ensures (c.reader_begun.ensures) in
    after

pub returns-clause-there : goal.returns-clause-there
returns-clause-there c =
    let reg : ℕ = c.args.reg in
    let ps : List (ℕ × Reader) = c.self.inside.readers.items in
    let ns : List (ℕ × Reader) = c.args.self.now.readers in
    let is : ps ≡ ns = ap (λ (m : ReaderMap). m.readers) c.self.view_is in
    let here = someone (reader_at reg ns) _ c.requires in
    let change : Reader → Reader = begun in
    let after : slice_set ps c.place-place.result (reg, c.reader_begun.result) ≡ changed reg change ns =
    changed_there reg change ps ns here.0 c.place-place.result c.index.result.now c.reader_begun.result is c.self.invariant here.1 c.place-place.ensures c.index.ensures (c.reader_begun.ensures) in
    ap (reader_at reg) after ∙ changed_same reg change ns

pub returns-clause-others : goal.returns-clause-others
returns-clause-others c = λ other differ.
    let reg : ℕ = c.args.reg in
    let ps : List (ℕ × Reader) = c.self.inside.readers.items in
    let ns : List (ℕ × Reader) = c.args.self.now.readers in
    let is : ps ≡ ns = ap (λ (m : ReaderMap). m.readers) c.self.view_is in
    let here = someone (reader_at reg ns) _ c.requires in
    let change : Reader → Reader = begun in
    let after : slice_set ps c.place-place.result (reg, c.reader_begun.result) ≡ changed reg change ns =
    changed_there reg change ps ns here.0 c.place-place.result c.index.result.now c.reader_begun.result is c.self.invariant here.1 c.place-place.ensures c.index.ensures (c.reader_begun.ensures) in
    ap (reader_at other) after ∙ changed_others reg change ns other differ
