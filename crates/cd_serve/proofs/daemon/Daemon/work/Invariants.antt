use Rattle.cd_serve.proofs.daemon.Daemon.work.Given as goal
use Rattle.cd_serve.specs.Working.Progress.{CallsAll, seen_of}
use Rattle.cd_serve.specs.Working.Standing.{Keeps}
use Rattle.std.proofs.Common.{length, ◌≤◌}

abbrev pub invariant-loop-alloc : goal.invariant-loop-alloc
invariant-loop-alloc g l = record {
  works : CallsAll (seen_of g.O.Outside.outside_pairs g.O.Outside.outside_core l.fn.self) (seen_of g.O.Outside.outside_pairs g.O.Outside.outside_core l.self);
  keeps : Keeps (g.O.Outside.outside_core l.fn.self.outside) (g.O.Outside.outside_core l.self.outside);
  fewer : length (g.O.Outside.outside_core l.self.outside).queue ≤ length (g.O.Outside.outside_core l.fn.self.outside).queue;
}

abbrev pub decreases-loop-alloc : goal.decreases-loop-alloc
decreases-loop-alloc g l = length (g.O.Outside.outside_core l.self.outside).queue
