-- What stands at the place of the number, where anything does.
use Rattle.cd_sched.proofs.Places.{has_is, has_not}
use Rattle.cd_sched.proofs.schedule.Schedule.has.Goals as goal
use Rattle.cd_sched.specs.Place.{IsAscending}
use Rattle.cd_sched.specs.Schedule.{ReaderMap}
use Rattle.cd_sched.specs.declared.reader.Reader.{Reader}
use Rattle.std.proofs.Common.{List, ap, get_or, length, subst, ℕ, ◌<◌, ◌∙◌, ◌≡◌, ◌≤◌}

pub returns-in-Some : goal.returns-in-Some
returns-in-Some c =
    let reg : ℕ = c.args.reg in
    let ps : List (ℕ × Reader) = c.self.inside.readers.items in
    let ns : List (ℕ × Reader) = c.args.self.now.readers in
    let is : ps ≡ ns = ap (λ (m : ReaderMap). m.readers) c.self.view_is in
    let xs : List (ℕ × Reader) = c.deref.result.now in
    let same : xs ≡ ns = c.deref.ensures.value ∙ is in
    let d : ℕ × Reader = c.in-Some.reader.now in
    let lt : c.place.result < length xs = c.in-Some.ensures.lookup.3.0 in
    let at : d ≡ get_or xs c.place.result d = c.in-Some.ensures.lookup.1 in
    has_is reg ns (subst IsAscending is c.self.invariant.0) d
    (subst (λ (n : ℕ). n < length ns) c.place.ensures (subst (λ (ys : List (ℕ × Reader)). c.place.result < length ys) same lt))
    (at ∙ ap (λ (ys : List (ℕ × Reader)). get_or ys c.place.result d) same ∙ ap (λ (n : ℕ). get_or ns n d) c.place.ensures)

pub returns-in-None : goal.returns-in-None
returns-in-None c =
    let reg : ℕ = c.args.reg in
    let ps : List (ℕ × Reader) = c.self.inside.readers.items in
    let ns : List (ℕ × Reader) = c.args.self.now.readers in
    let is : ps ≡ ns = ap (λ (m : ReaderMap). m.readers) c.self.view_is in
    let xs : List (ℕ × Reader) = c.deref.result.now in
    let same : xs ≡ ns = c.deref.ensures.value ∙ is in
    let le : length xs ≤ c.place.result = c.in-None.ensures.lookup.3 in
    has_not reg ns (subst IsAscending is c.self.invariant.0)
    (subst (λ (n : ℕ). length ns ≤ n) c.place.ensures (subst (λ (ys : List (ℕ × Reader)). length ys ≤ c.place.result) same le))
