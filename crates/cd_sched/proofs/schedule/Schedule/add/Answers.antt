-- The reader is put behind those of lower numbers, in the room that was made.
use Rattle.cd_sched.proofs.Edits.{ascending_with, put_there}
use Rattle.cd_sched.proofs.Laws.{with_others, with_same}
use Rattle.cd_sched.proofs.Places.{place_within}
use Rattle.cd_sched.proofs.Resting.{added_reads, reads_within}
use Rattle.cd_sched.proofs.schedule.Schedule.add.Goals as goal
use Rattle.cd_sched.specs.Place.{IsAscending, place_of}
use Rattle.cd_sched.specs.Schedule.{ReaderMap, new_reader, reader_at, with_reader}
use Rattle.cd_sched.specs.NextReads.{AreNextReadsOf}
use Rattle.cd_sched.specs.declared.reader.Reader.{Reader}
use Rattle.std.proofs.Common.{List, ap, arith, length, min, refl, subst, sym, vec_capacity, vec_len, ℕ, ◌+◌, ◌-◌, ◌<◌, ◌∙◌, ◌≡◌, ◌≤◌}

pub insert-requires : goal.insert-requires
insert-requires c =
    let reg : ℕ = c.args.reg in
    let ps : List (ℕ × Reader) = c.self.inside.readers.items in
    let ms : List (ℕ × Reader) = c.reserve.new.self.readers in
    let ns : List (ℕ × Reader) = c.args.self.now.readers in
    let is : ps ≡ ms = ap (λ (m : ReaderMap). m.readers) c.self.view_is in
    let back : ms ≡ ns = c.in_ok-reserve.ensures.readers in
    let at : c.place-place.result ≡ place_of reg ps = c.place-place.ensures ∙ ap (place_of reg) (sym is) in
    let le : place_of reg ps ≤ length ps = place_within reg ps in
    omega arith

pub put-requires : goal.put-requires
put-requires c =
    let reg : ℕ = c.args.reg in
    let ps : List (ℕ × Reader) = c.self.inside.readers.items in
    let ms : List (ℕ × Reader) = c.reserve.new.self.readers in
    let ns : List (ℕ × Reader) = c.args.self.now.readers in
    let is : ps ≡ ms = ap (λ (m : ReaderMap). m.readers) c.self.view_is in
    let back : ms ≡ ns = c.in_ok-reserve.ensures.readers in
    let spare : 0 < min (vec_capacity c.self.inside.readers) c.self.inside.next_reads.room - vec_len c.self.inside.readers =
    subst (λ (m : ReaderMap). 0 < m.spare) (sym c.self.view_is) c.in_ok-reserve.ensures.ok in
    let within : length c.self.inside.next_reads.reads ≤ length ps = reads_within ps c.self.inside.next_reads.reads c.self.invariant.1 in
    let counted : vec_len c.self.inside.readers ≡ length ps = c.self.inside.readers.ok.0 in
    omega arith

pub invariant_of-self-2 : goal.invariant_of-self-2
invariant_of-self-2 c =
    let reg : ℕ = c.args.reg in
    let ps : List (ℕ × Reader) = c.self.inside.readers.items in
    let ms : List (ℕ × Reader) = c.reserve.new.self.readers in
    let ns : List (ℕ × Reader) = c.args.self.now.readers in
    let is : ps ≡ ms = ap (λ (m : ReaderMap). m.readers) c.self.view_is in
    let back : ms ≡ ns = c.in_ok-reserve.ensures.readers in
    let reader : Reader = new_reader c.args.interval c.args.now in
    let after : c.insert.new.self.items ≡ with_reader reg reader ns =
    c.in_ok-insert.ensures.items ∙ put_there reg reader c.new.result ps ms c.place-place.result is c.place-place.ensures c.new.ensures ∙ ap (with_reader reg reader) back in
    let spare : 0 < min (vec_capacity c.self.inside.readers) c.self.inside.next_reads.room - vec_len c.self.inside.readers =
    subst (λ (m : ReaderMap). 0 < m.spare) (sym c.self.view_is) c.in_ok-reserve.ensures.ok in
    let old : List (ℕ × ℕ) = c.self.inside.next_reads.reads in
    let new : List (ℕ × ℕ) = c.put.new.self.reads in
    let more : vec_len c.insert.new.self ≡ vec_len c.self.inside.readers + 1 = c.in_ok-insert.ensures.len in
    let grows : c.self.inside.next_reads.room ≤ c.put.new.self.room = c.put.ensures.room in
    let room : vec_len c.insert.new.self ≤ c.put.new.self.room = omega arith in (
      subst IsAscending (sym after) (ascending_with reg reader ns c.requires (subst IsAscending (is ∙ back) c.self.invariant.0)),
      subst (λ (rs : List (ℕ × Reader)). AreNextReadsOf rs new) (sym after) (added_reads reg reader ns old new refl (subst (λ (rs : List (ℕ × Reader)). AreNextReadsOf rs old) (is ∙ back) c.self.invariant.1) c.put.ensures.reads),
      room,
    )

pub returns-clause-readers : goal.returns-clause-readers
returns-clause-readers c =
    let reg : ℕ = c.args.reg in
    let ps : List (ℕ × Reader) = c.self.inside.readers.items in
    let ms : List (ℕ × Reader) = c.reserve.new.self.readers in
    let ns : List (ℕ × Reader) = c.args.self.now.readers in
    let is : ps ≡ ms = ap (λ (m : ReaderMap). m.readers) c.self.view_is in
    let back : ms ≡ ns = c.in_ok-reserve.ensures.readers in
    let reader : Reader = new_reader c.args.interval c.args.now in
    let after : c.insert.new.self.items ≡ with_reader reg reader ns =
    c.in_ok-insert.ensures.items ∙ put_there reg reader c.new.result ps ms c.place-place.result is c.place-place.ensures c.new.ensures ∙ ap (with_reader reg reader) back in
    after

pub returns-clause-there : goal.returns-clause-there
returns-clause-there c =
    let reg : ℕ = c.args.reg in
    let ps : List (ℕ × Reader) = c.self.inside.readers.items in
    let ms : List (ℕ × Reader) = c.reserve.new.self.readers in
    let ns : List (ℕ × Reader) = c.args.self.now.readers in
    let is : ps ≡ ms = ap (λ (m : ReaderMap). m.readers) c.self.view_is in
    let back : ms ≡ ns = c.in_ok-reserve.ensures.readers in
    let reader : Reader = new_reader c.args.interval c.args.now in
    let after : c.insert.new.self.items ≡ with_reader reg reader ns =
    c.in_ok-insert.ensures.items ∙ put_there reg reader c.new.result ps ms c.place-place.result is c.place-place.ensures c.new.ensures ∙ ap (with_reader reg reader) back in
    ap (reader_at reg) after ∙ with_same reg reader ns

pub returns-clause-others : goal.returns-clause-others
returns-clause-others c = λ other differ.
    let reg : ℕ = c.args.reg in
    let ps : List (ℕ × Reader) = c.self.inside.readers.items in
    let ms : List (ℕ × Reader) = c.reserve.new.self.readers in
    let ns : List (ℕ × Reader) = c.args.self.now.readers in
    let is : ps ≡ ms = ap (λ (m : ReaderMap). m.readers) c.self.view_is in
    let back : ms ≡ ns = c.in_ok-reserve.ensures.readers in
    let reader : Reader = new_reader c.args.interval c.args.now in
    let after : c.insert.new.self.items ≡ with_reader reg reader ns =
    c.in_ok-insert.ensures.items ∙ put_there reg reader c.new.result ps ms c.place-place.result is c.place-place.ensures c.new.ensures ∙ ap (with_reader reg reader) back in
    ap (reader_at other) after ∙ with_others reg reader ns other differ
