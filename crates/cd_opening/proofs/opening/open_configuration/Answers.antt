use Rattle.cd_opening.proofs.Ending.{ends_behind, settings_come, settings_leave}
use Rattle.cd_opening.proofs.opening.open_configuration.Goals as goal
use Rattle.std.proofs.Common.{◌∙◌}

pub returns-in-Err-clause-files : goal.returns-in-Err-clause-files
returns-in-Err-clause-files g c =
    let world = g.W.World.world_tells in
    settings_leave c.args.path.now (world c.args.world.now).files (world c.read_types.new.world).files c.in_ok-items.items c.in-Err.fault c.of_settings.result
    (ends_behind c.args.path.now (world c.args.world.now).files (world c.read_items.new.world).files (world c.read_types.new.world).files c.in_ok-items.items c.as_slice.result.now
    c.in_ok-items.ensures.reads c.in_ok-items.ensures.files (c.as_slice.ensures ∙ c.in_ok-paths.ensures) c.in_ok-types.ensures.reads.1)
    c.of_settings.ensures

pub returns-in-Err-clause-comes : goal.returns-in-Err-clause-comes
returns-in-Err-clause-comes g c =
    let world = g.W.World.world_tells in
    settings_come c.args.path.now (world c.args.world.now).files (world c.read_items.new.world).files c.in_ok-items.items c.in_ok-types.types c.as_slice.result.now c.in-Err.fault c.of_settings.result
    c.in_ok-items.ensures.reads c.in_ok-items.ensures.files (c.as_slice.ensures ∙ c.in_ok-paths.ensures) c.in_ok-types.ensures.reads.0
    c.in-Err.ensures c.of_settings.ensures
