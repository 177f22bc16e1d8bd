use Rattle.cd_registry.proofs.Changed.{changed, within}
use Rattle.cd_registry.proofs.Kept.{ready_set, room_kept}
use Rattle.cd_registry.proofs.registry.Registry.give.Goals as goal
use Rattle.cd_registry.specs.Rows.{IsPlugOut, after_give}
use Rattle.cd_registry.specs.Slots.{is_slot_ready, row_of}
use Rattle.std.proofs.Common.{ap, arith, ◌∙◌}
use Rattle.std.proofs.lemmas.List.{get_or-set_same}

pub invariant_of-self : goal.invariant_of-self
invariant_of-self g c =
    let show = row_of g.P.TellsCalls.plug_tells g.Q.TellsReadings.probe_tells in
    let slots = c.args.self.now.slots.items in
    let reg = c.args.entered.reg in
    let new = c.put.new.self in
    let here = get_or-set_same slots reg new c.index.result.now (within show slots reg IsPlugOut c.requires) in
    record {
      marked = c.set.ensures
          ∙ ready_set c.args.self.now.ready.flags slots reg new c.is_ready-up.result (c.is_ready-up.ensures ∙ ap is_slot_ready (c.index.ensures ∙ here)) c.args.self.now.marked;
    }

pub returns-clause-rows : goal.returns-clause-rows
returns-clause-rows g c = changed _ (after_give (g.P.TellsCalls.plug_tells c.args.entered.object)) _ _ _ _ c.index_mut.ensures.value c.put.ensures.row

pub returns-clause-room : goal.returns-clause-room
returns-clause-room g c =
    let show = row_of g.P.TellsCalls.plug_tells g.Q.TellsReadings.probe_tells in
    let slots = c.args.self.now.slots.items in
    room_kept slots c.args.entered.reg c.index_mut.result.now c.put.new.self c.index_mut.ensures.value (within show slots c.args.entered.reg IsPlugOut c.requires) (omega (arith, c.put.ensures.spare))
