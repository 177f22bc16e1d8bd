-- The two stay the same.
use Rattle.cd_sched_walk.proofs.walk.walk.Given as goal
use Rattle.cd_sched_walk.specs.Same.{IsSame}

abbrev pub invariant-loop-number : goal.invariant-loop-number
invariant-loop-number l = IsSame l.schedule l.plain
