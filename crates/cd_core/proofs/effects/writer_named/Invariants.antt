use Rattle.cd_core.proofs.effects.writer_named.Given as goal
use Rattle.cd_core.specs.Posting.{is_writer}
use Rattle.cd_registry.specs.Registry.{rows}
use Rattle.std.proofs.Common.{drop, ◌≡◌}
use Rattle.std.specs.List.{find}

abbrev pub invariant-loop-reg : goal.invariant-loop-reg
invariant-loop-reg g l =
    let test = is_writer (rows g.P.TellsCalls.plug_tells g.Q.TellsReadings.probe_tells l.registry) l.name in
    find test l.writers ≡ find test (drop l.reg-index l.writers)
