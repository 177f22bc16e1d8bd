use Rattle.cd_registry.proofs.Changed.{at_here, at_within, changed, within}
use Rattle.cd_registry.proofs.Kept.{ready_by, ready_set, room_kept}
use Rattle.cd_registry.proofs.registry.Registry.take.Goals as goal
use Rattle.cd_registry.specs.Rows.{IsHomeFor, IsReady, after_take}
use Rattle.cd_registry.specs.Slots.{row_of}
use Rattle.std.proofs.Common.{false, sym, ◌∙◌}

pub invariant_of-self : goal.invariant_of-self
invariant_of-self g c = record {
  marked = c.set.ensures
      ∙ ready_set c.args.self.now.ready.flags c.args.self.now.slots.items c.args.reg c.take-object.new.self false
      (sym (ready_by g.P.TellsCalls.plug_tells g.Q.TellsReadings.probe_tells c.take-object.new.self _ c.take-object.ensures.row)) c.args.self.now.marked;
}

pub returns-clause-lease : goal.returns-clause-lease
returns-clause-lease g c =
    let show = row_of g.P.TellsCalls.plug_tells g.Q.TellsReadings.probe_tells in
    let slots = c.args.self.now.slots.items in
    at_here show (IsHomeFor (g.P.TellsCalls.plug_tells c.take-object.result.0) c.take-object.result.1) slots c.args.reg c.index_mut.result.now
    (at_within _ c.args.reg IsReady c.requires) c.index_mut.ensures.value c.take-object.ensures.lease

pub returns-clause-rows : goal.returns-clause-rows
returns-clause-rows g c = changed _ (after_take c.args.actor) _ _ _ _ c.index_mut.ensures.value c.take-object.ensures.row

pub returns-clause-room : goal.returns-clause-room
returns-clause-room g c =
    let show = row_of g.P.TellsCalls.plug_tells g.Q.TellsReadings.probe_tells in
    let slots = c.args.self.now.slots.items in
    room_kept slots c.args.reg _ _ c.index_mut.ensures.value (within show slots c.args.reg IsReady c.requires) c.take-object.ensures.spare
