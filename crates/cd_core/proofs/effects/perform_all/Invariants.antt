use Rattle.cd_core.proofs.effects.perform_all.Given as goal
use Rattle.cd_core.specs.Posting.{Finds}
use Rattle.cd_daemon.specs.Performing.{perform_all}
use Rattle.cd_history.specs.Registrations.{Registration}
use Rattle.cd_registry.specs.Registry.{rows}
use Rattle.std.proofs.Common.{List, ◌≡◌}

abbrev pub invariant-loop-action : goal.invariant-loop-action
invariant-loop-action g l =
    (regs : List Registration) → Finds regs l.writers (rows g.P.TellsCalls.plug_tells g.Q.TellsReadings.probe_tells l.registry)
    → perform_all regs l.action-iterator.rest.items l.effects ≡ perform_all regs l.initial.action-iterator.rest.items l.fn.effects
