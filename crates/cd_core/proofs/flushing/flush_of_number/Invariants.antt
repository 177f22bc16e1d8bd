use Rattle.cd_core.proofs.flushing.flush_of_number.Given as goal
use Rattle.cd_core.specs.declared.flush.Flush.{Flush}
use Rattle.std.proofs.Common.{drop, nat_eq, ◌≡◌}
use Rattle.std.specs.List.{find}

abbrev pub invariant-loop-flush : goal.invariant-loop-flush
invariant-loop-flush l =
    find (λ (flush : Flush). nat_eq flush.number l.number) l.flushes ≡ find (λ (flush : Flush). nat_eq flush.number l.number) (drop l.flush-index l.flushes)
