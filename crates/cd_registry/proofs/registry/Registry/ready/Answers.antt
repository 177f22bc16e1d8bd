use Rattle.cd_registry.proofs.Kept.{ready_same}
use Rattle.cd_registry.proofs.Places.{position-map}
use Rattle.cd_registry.proofs.registry.Registry.ready.Goals as goal
use Rattle.cd_registry.specs.Rows.{is_ready}
use Rattle.cd_registry.specs.Slots.{is_slot_ready, row_of}
use Rattle.std.proofs.Common.{ap, refl, sym, ◌∙◌}
use Rattle.std.specs.List.{position}

pub returns : goal.returns
returns g c =
    let plug = g.P.TellsCalls.plug_tells in
    let probe = g.Q.TellsReadings.probe_tells in
    let slots = c.args.self.now.slots.items in
    c.as_number.ensures
    ∙ c.first.ensures
    ∙ ap (λ flags. position (λ up. up) flags) c.args.self.now.marked
    ∙ position-map is_slot_ready (λ up. up) is_slot_ready (λ slot. refl) slots
    ∙ sym (position-map (row_of plug probe) is_ready is_slot_ready (λ slot. ready_same plug probe slot) slots)
