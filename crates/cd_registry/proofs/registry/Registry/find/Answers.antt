use Rattle.cd_registry.proofs.Ats.{found_live, some_is}
use Rattle.cd_registry.proofs.Places.{position-map}
use Rattle.cd_registry.proofs.registry.Registry.find.Goals as goal
use Rattle.cd_registry.specs.Registry.{rows}
use Rattle.cd_registry.specs.Rows.{At, IsLive, has_kinds, is_live_as}
use Rattle.cd_registry.specs.Slots.{has_slot_kinds, is_slot_live_as, row_of}
use Rattle.std.proofs.Common.{refl, sym, ◌&&◌, ◌∙◌}

pub returns-clause-number : goal.returns-clause-number
returns-clause-number g c =
    let name = c.args.name.now in
    let kinds = c.args.kinds.0 in
    c.as_number.ensures
    ∙ (rw c.deref.ensures.value at c.slot_with.ensures)
    ∙ sym (position-map (row_of g.P.TellsCalls.plug_tells g.Q.TellsReadings.probe_tells) (λ row. is_live_as name row && has_kinds kinds row)
    (λ slot. is_slot_live_as name slot && has_slot_kinds kinds slot) (λ slot. refl) c.args.self.now.slots.items)

pub returns-clause-live : goal.returns-clause-live
returns-clause-live g c =
    let shown = rows g.P.TellsCalls.plug_tells g.Q.TellsReadings.probe_tells c.args.self.now in
    some_is c.as_number.result (λ reg. At shown reg IsLive)
    (λ reg found. found_live c.args.kinds.0 c.args.name.now shown reg (sym (returns-clause-number g c) ∙ found))
