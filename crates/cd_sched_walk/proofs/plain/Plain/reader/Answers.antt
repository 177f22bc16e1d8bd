-- What stands at the place of the number, where anything does.
use Rattle.cd_sched.proofs.Numbers.{differs}
use Rattle.cd_sched.proofs.Places.{has_is, has_not, present}
use Rattle.cd_sched.specs.Place.{IsAscending, place_of}
use Rattle.cd_sched.specs.Schedule.{ReaderMap, reader_at}
use Rattle.cd_sched.specs.declared.reader.Reader.{Reader}
use Rattle.cd_sched_walk.proofs.Known.{none_from}
use Rattle.cd_sched_walk.proofs.plain.Plain.reader.Goals as goal
use Rattle.std.proofs.Common.{List, Some, ap, get_or, length, subst, sym, ℕ, ◌<◌, ◌∙◌, ◌≡◌, ◌≤◌}

pub returns-then-number-reg : goal.returns-then-number-reg
returns-then-number-reg c =
    let reg : ℕ = c.args.reg in
    let ns : List (ℕ × Reader) = c.args.self.now.readers in
    let is : c.self.inside.readers.items ≡ ns = ap (λ (m : ReaderMap). m.readers) c.self.view_is in
    let xs : List (ℕ × Reader) = c.deref.result.now in
    let same : xs ≡ ns = c.deref.ensures.value ∙ is in
    let d : ℕ × Reader = c.in-Some.field-0.now in
    let lt : c.place.result < length xs = c.in-Some.ensures.lookup.3.0 in
    let at : d ≡ get_or xs c.place.result d = c.in-Some.ensures.lookup.1 in
    let within : place_of reg ns < length ns = subst (λ (n : ℕ). n < length ns) c.place.ensures (subst (λ (ys : List (ℕ × Reader)). c.place.result < length ys) same lt) in
    let stands : d ≡ get_or ns (place_of reg ns) d = at ∙ ap (λ (ys : List (ℕ × Reader)). get_or ys c.place.result d) same ∙ ap (λ (n : ℕ). get_or ns n d) c.place.ensures in
    ap (λ (p : ℕ × Reader). Some p.1) stands ∙ sym (present reg ns d within (ap (λ (p : ℕ × Reader). p.0) (sym stands) ∙ c.if-number-reg.true))

pub returns-else-number-reg : goal.returns-else-number-reg
returns-else-number-reg c =
    let reg : ℕ = c.args.reg in
    let ns : List (ℕ × Reader) = c.args.self.now.readers in
    let is : c.self.inside.readers.items ≡ ns = ap (λ (m : ReaderMap). m.readers) c.self.view_is in
    let xs : List (ℕ × Reader) = c.deref.result.now in
    let same : xs ≡ ns = c.deref.ensures.value ∙ is in
    let d : ℕ × Reader = c.in-Some.field-0.now in
    let lt : c.place.result < length xs = c.in-Some.ensures.lookup.3.0 in
    let at : d ≡ get_or xs c.place.result d = c.in-Some.ensures.lookup.1 in
    let within : place_of reg ns < length ns = subst (λ (n : ℕ). n < length ns) c.place.ensures (subst (λ (ys : List (ℕ × Reader)). c.place.result < length ys) same lt) in
    let stands : d ≡ get_or ns (place_of reg ns) d = at ∙ ap (λ (ys : List (ℕ × Reader)). get_or ys c.place.result d) same ∙ ap (λ (n : ℕ). get_or ns n d) c.place.ensures in
    sym (none_from (reader_at reg ns) (sym (has_is reg ns (subst IsAscending is c.self.invariant) d within stands) ∙ differs d.0 reg c.if-number-reg.false))

pub returns-in-None : goal.returns-in-None
returns-in-None c =
    let reg : ℕ = c.args.reg in
    let ns : List (ℕ × Reader) = c.args.self.now.readers in
    let is : c.self.inside.readers.items ≡ ns = ap (λ (m : ReaderMap). m.readers) c.self.view_is in
    let xs : List (ℕ × Reader) = c.deref.result.now in
    let same : xs ≡ ns = c.deref.ensures.value ∙ is in
    let le : length xs ≤ c.place.result = c.in-None.ensures.lookup.3 in
    sym (none_from (reader_at reg ns) (sym (has_not reg ns (subst IsAscending is c.self.invariant)
    (subst (λ (n : ℕ). length ns ≤ n) c.place.ensures (subst (λ (ys : List (ℕ × Reader)). length ys ≤ c.place.result) same le)))))
