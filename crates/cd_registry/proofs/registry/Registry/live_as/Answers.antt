use Rattle.cd_registry.proofs.Places.{position-map}
use Rattle.cd_registry.proofs.registry.Registry.live_as.Goals as goal
use Rattle.cd_registry.specs.Rows.{is_live_as}
use Rattle.cd_registry.specs.Slots.{is_slot_live_as, row_of}
use Rattle.std.proofs.Common.{refl, sym, ◌∙◌}

pub returns-clause-number : goal.returns-clause-number
returns-clause-number g c =
    rw c.deref.ensures.value at c.slot_named.ensures.index
    ∙ sym (position-map (row_of g.P.TellsCalls.plug_tells g.Q.TellsReadings.probe_tells) (is_live_as c.args.name.now) (is_slot_live_as c.args.name.now) (λ slot. refl) c.args.self.now.slots.items)
