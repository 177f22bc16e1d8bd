use Rattle.cd_core.specs.Seen.{calls_waiting}
use Rattle.cd_serve.proofs.daemon.Daemon.drain.Given as goal
use Rattle.cd_serve.specs.Working.Standing.{Keeps}

abbrev pub invariant-loop : goal.invariant-loop
invariant-loop g l = Keeps (g.O.Outside.outside_core l.fn.self.outside) (g.O.Outside.outside_core l.self.outside)

abbrev pub decreases-loop : goal.decreases-loop
decreases-loop g l = calls_waiting (g.O.Outside.outside_core l.self.outside).rows
