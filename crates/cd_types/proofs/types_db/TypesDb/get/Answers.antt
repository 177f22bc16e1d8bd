-- The map has a set under its name.
use Rattle.cd_types.proofs.Named.{value_named}
use Rattle.cd_types.proofs.types_db.TypesDb.get.Goals as goal
use Rattle.cd_types.specs.Types.{set_named}
use Rattle.std.proofs.Common.{ap, ◌∙◌}

pub returns : goal.returns
returns c =
    c.get.ensures.value ∙ value_named c.args.name.now c.self.inside.sets.entries c.self.invariant ∙ ap (set_named c.args.name.now) c.self.view_is
