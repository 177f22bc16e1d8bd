-- A search over numbers that rise finds how many are lower.
use Rattle.cd_sched.proofs.Places.{place_is, rising}
use Rattle.cd_sched_walk.proofs.plain.Plain.place.Goals as goal
use Rattle.cd_sched.specs.Place.{IsAscending, place_of}
use Rattle.cd_sched.specs.Schedule.{ReaderMap}
use Rattle.cd_sched.specs.declared.reader.Reader.{Reader}
use Rattle.std.proofs.Common.{ap, nat_lt, of_calls, rules, subst, sym, ℕ, ◌∙◌, ◌≡◌}
use Rattle.std.proofs.lemmas.Fn.{always_returns_same}
use Rattle.std.proofs.lemmas.List.Sorted.{IsPartitionedBy-ltb}

pub returns : goal.returns
returns c =
    let reg : ℕ = c.args.reg in
    let same : c.as_slice.result.now ≡ c.self.inside.readers.items = c.as_slice.ensures.value in
    let ascending : IsAscending c.as_slice.result.now = subst IsAscending (sym same) c.self.invariant in
    let point = c.partition_point.ensures.partitioned (λ (p : ℕ × Reader). nat_lt p.0 reg) (always_returns_same _ _ _ (λ a r f k. search (rules, of_calls)))
    (IsPartitionedBy-ltb (λ (p : ℕ × Reader). p.0) c.as_slice.result.now reg (rising c.as_slice.result.now ascending)) in
    place_is reg c.as_slice.result.now c.partition_point.result c.partition_point.ensures.bound point.0 point.1
    ∙ ap (place_of reg) (same ∙ ap (λ (m : ReaderMap). m.readers) c.self.view_is)
