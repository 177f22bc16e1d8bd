-- The two stay the same.
use Rattle.cd_sched_walk.proofs.walk.begins_all.Given as goal
use Rattle.cd_sched_walk.specs.Same.{IsSame}

abbrev pub invariant-loop : goal.invariant-loop
invariant-loop l = IsSame l.schedule l.plain
