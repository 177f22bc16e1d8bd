-- How many readers are left.
use Rattle.cd_sched_walk.proofs.plain.+first_read.Given as goal
use Rattle.std.proofs.Common.{length}

abbrev pub decreases-first_read : goal.decreases-first_read
decreases-first_read l = length l.readers.now
