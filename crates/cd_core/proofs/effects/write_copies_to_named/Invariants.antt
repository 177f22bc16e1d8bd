use Rattle.cd_core.proofs.effects.write_copies_to_named.Given as goal
use Rattle.cd_core.specs.Posting.{Finds, with_write}
use Rattle.cd_daemon.specs.Performing.{each_once, write_to, writer_named}
use Rattle.cd_history.specs.Registrations.{Registration}
use Rattle.cd_registry.specs.Registry.{rows}
use Rattle.std.proofs.Common.{List, map, take, ◌≡◌}
use Rattle.std.specs.List.{fold}

abbrev pub invariant-loop-at : goal.invariant-loop-at
invariant-loop-at g l =
    (regs : List Registration) → Finds regs l.writers (rows g.P.TellsCalls.plug_tells g.Q.TellsReadings.probe_tells l.registry)
    → with_write l.list l.last l.effects ≡ fold (write_to l.list) l.fn.effects (map (writer_named regs) (each_once (take l.at l.names)))
