use Rattle.cd_core.proofs.posting.post_all.Given as goal
use Rattle.cd_core.specs.Posting.{HasRoom, posted_live}
use Rattle.cd_daemon.specs.Performing.{Post}
use Rattle.cd_registry.specs.Registry.{rows}
use Rattle.std.proofs.Common.{List, ◌++◌, ◌≡◌}

abbrev pub invariant-loop-one : goal.invariant-loop-one
invariant-loop-one g l = record {
  room : HasRoom g.P.TellsCalls.plug_tells g.Q.TellsReadings.probe_tells l.one-iterator.rest.items l.registry;
  rows : posted_live l.one-iterator.rest.items (rows g.P.TellsCalls.plug_tells g.Q.TellsReadings.probe_tells l.registry)
      ≡ posted_live l.initial.one-iterator.rest.items (rows g.P.TellsCalls.plug_tells g.Q.TellsReadings.probe_tells l.fn.registry);
  more : (more : List Post)
      → HasRoom g.P.TellsCalls.plug_tells g.Q.TellsReadings.probe_tells (l.initial.one-iterator.rest.items ++ more) l.fn.registry
      → HasRoom g.P.TellsCalls.plug_tells g.Q.TellsReadings.probe_tells (l.one-iterator.rest.items ++ more) l.registry;
}
