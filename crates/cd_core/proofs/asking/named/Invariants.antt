use Rattle.cd_core.proofs.asking.named.Given as goal
use Rattle.cd_core.specs.Asked.{flusher_in}
use Rattle.cd_registry.specs.Registry.{rows}
use Rattle.std.proofs.Common.{map, take, ◌≡◌}

abbrev pub invariant-loop-name : goal.invariant-loop-name
invariant-loop-name g l =
    l.plugins.items ≡ map (flusher_in (rows g.P.TellsCalls.plug_tells g.Q.TellsReadings.probe_tells l.registry)) (take l.name-index l.names)
