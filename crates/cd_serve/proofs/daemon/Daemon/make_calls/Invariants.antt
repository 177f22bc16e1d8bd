use Rattle.cd_core.specs.Seen.{calls_waiting}
use Rattle.cd_core.specs.Stands.{Stands}
use Rattle.cd_daemon.specs.Answers.{ready}
use Rattle.cd_daemon.specs.declared.Opening.{Opening}
use Rattle.cd_history.specs.History.{History}
use Rattle.cd_serve.proofs.daemon.Daemon.make_calls.Given as goal
use Rattle.cd_serve.specs.Working.Progress.{KeepsWorking, seen_of}
use Rattle.cd_serve.specs.Working.Standing.{Keeps}
use Rattle.std.proofs.Common.{None, ◌≡◌}

abbrev pub invariant-loop-answer : goal.invariant-loop-answer
invariant-loop-answer g l = record {
  works : KeepsWorking (seen_of g.O.Outside.outside_pairs g.O.Outside.outside_core l.fn.self) (seen_of g.O.Outside.outside_pairs g.O.Outside.outside_core l.self);
  keeps : Keeps (g.O.Outside.outside_core l.fn.self.outside) (g.O.Outside.outside_core l.self.outside);
  queue : (g.O.Outside.outside_core l.self.outside).queue ≡ (g.O.Outside.outside_core l.fn.self.outside).queue;
  still : (K : Opening) (P : History) → Stands K (g.O.Outside.outside_core l.fn.self.outside) P → ready K P ≡ None
      → g.O.Outside.outside_core l.self.outside ≡ g.O.Outside.outside_core l.fn.self.outside;
}

abbrev pub decreases-loop-answer : goal.decreases-loop-answer
decreases-loop-answer g l = calls_waiting (g.O.Outside.outside_core l.self.outside).rows
