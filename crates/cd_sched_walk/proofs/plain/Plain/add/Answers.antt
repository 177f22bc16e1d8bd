-- The reader is put behind those of lower numbers.
use Rattle.cd_sched.proofs.Edits.{ascending_with, put_there}
use Rattle.cd_sched.proofs.Laws.{with_others, with_same}
use Rattle.cd_sched.proofs.Places.{place_within}
use Rattle.cd_sched_walk.proofs.plain.Plain.add.Goals as goal
use Rattle.cd_sched.specs.Place.{IsAscending, place_of}
use Rattle.cd_sched.specs.Schedule.{ReaderMap, new_reader, reader_at, with_reader}
use Rattle.cd_sched.specs.declared.reader.Reader.{Reader}
use Rattle.std.proofs.Common.{List, ap, arith, length, subst, sym, ℕ, ◌∙◌, ◌≡◌, ◌≤◌}

pub insert-requires : goal.insert-requires
insert-requires c =
    let reg : ℕ = c.args.reg in
    let ps : List (ℕ × Reader) = c.self.inside.readers.items in
    let ns : List (ℕ × Reader) = c.args.self.now.readers in
    let is : ps ≡ ns = ap (λ (m : ReaderMap). m.readers) c.self.view_is in
    let at : c.place-place.result ≡ place_of reg ps = c.place-place.ensures ∙ ap (place_of reg) (sym is) in
    let le : place_of reg ps ≤ length ps = place_within reg ps in
    omega arith

pub invariant_of-self-2 : goal.invariant_of-self-2
invariant_of-self-2 c =
    let reg : ℕ = c.args.reg in
    let ps : List (ℕ × Reader) = c.self.inside.readers.items in
    let ns : List (ℕ × Reader) = c.args.self.now.readers in
    let is : ps ≡ ns = ap (λ (m : ReaderMap). m.readers) c.self.view_is in
    let reader : Reader = new_reader c.args.interval c.args.now in
    let after : c.insert.new.self.items ≡ with_reader reg reader ns = c.in_ok-insert.ensures.items ∙ put_there reg reader c.first_reader.result ps ns c.place-place.result is c.place-place.ensures c.first_reader.ensures in
    subst IsAscending (sym after) (ascending_with reg reader ns c.requires (subst IsAscending is c.self.invariant))

pub returns-clause-readers : goal.returns-clause-readers
returns-clause-readers c =
    let reg : ℕ = c.args.reg in
    let ps : List (ℕ × Reader) = c.self.inside.readers.items in
    let ns : List (ℕ × Reader) = c.args.self.now.readers in
    let is : ps ≡ ns = ap (λ (m : ReaderMap). m.readers) c.self.view_is in
    let reader : Reader = new_reader c.args.interval c.args.now in
    let after : c.insert.new.self.items ≡ with_reader reg reader ns = c.in_ok-insert.ensures.items ∙ put_there reg reader c.first_reader.result ps ns c.place-place.result is c.place-place.ensures c.first_reader.ensures in
    after

pub returns-clause-there : goal.returns-clause-there
returns-clause-there c =
    let reg : ℕ = c.args.reg in
    let ps : List (ℕ × Reader) = c.self.inside.readers.items in
    let ns : List (ℕ × Reader) = c.args.self.now.readers in
    let is : ps ≡ ns = ap (λ (m : ReaderMap). m.readers) c.self.view_is in
    let reader : Reader = new_reader c.args.interval c.args.now in
    let after : c.insert.new.self.items ≡ with_reader reg reader ns = c.in_ok-insert.ensures.items ∙ put_there reg reader c.first_reader.result ps ns c.place-place.result is c.place-place.ensures c.first_reader.ensures in
    ap (reader_at reg) after ∙ with_same reg reader ns

pub returns-clause-others : goal.returns-clause-others
returns-clause-others c = λ other differ.
    let reg : ℕ = c.args.reg in
    let ps : List (ℕ × Reader) = c.self.inside.readers.items in
    let ns : List (ℕ × Reader) = c.args.self.now.readers in
    let is : ps ≡ ns = ap (λ (m : ReaderMap). m.readers) c.self.view_is in
    let reader : Reader = new_reader c.args.interval c.args.now in
    let after : c.insert.new.self.items ≡ with_reader reg reader ns = c.in_ok-insert.ensures.items ∙ put_there reg reader c.first_reader.result ps ns c.place-place.result is c.place-place.ensures c.first_reader.ensures in
    ap (reader_at other) after ∙ with_others reg reader ns other differ
