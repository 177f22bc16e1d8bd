use Rattle.cd_core.proofs.Named.{test_there}
use Rattle.cd_core.proofs.effects.is_writer.Goals as goal
use Rattle.cd_registry.specs.Registry.{rows}
use Rattle.cd_registry.specs.Rows.{Row, has_kinds, is_live_as}
use Rattle.cd_registry.specs.declared.kinds.TheConstants.Kinds.{WRITE}
use Rattle.std.proofs.Common.{slice_get, ◌&&◌}

pub returns : goal.returns
returns g c =
    test_there (slice_get (rows g.P.TellsCalls.plug_tells g.Q.TellsReadings.probe_tells c.args.registry.now) c.args.reg)
    (λ (row : Row). is_live_as c.args.name.now row && has_kinds WRITE.0 row) c.is_named.result c.is_named.ensures
