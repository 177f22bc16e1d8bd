use Rattle.cd_serve.proofs.daemon.Daemon.roll.Given as goal
use Rattle.cd_serve.specs.Working.Progress.{Rolled, seen_of}
use Rattle.std.proofs.Common.{◌≡◌}

abbrev pub invariant-loop : goal.invariant-loop
invariant-loop g l = record {
  rolled : Rolled l.self.words.items l.counter
      (seen_of g.O.Outside.outside_pairs g.O.Outside.outside_core l.fn.self)
      (seen_of g.O.Outside.outside_pairs g.O.Outside.outside_core l.self);
  core : g.O.Outside.outside_core l.self.outside ≡ g.O.Outside.outside_core l.fn.self.outside;
}
