use Rattle.cd_registry.proofs.Changed.{changed, fact_at, within}
use Rattle.cd_registry.proofs.Kept.{ready_kept, room_kept}
use Rattle.cd_registry.proofs.registry.Registry.back.Goals as goal
use Rattle.cd_registry.specs.Rows.{IsProbeOut, after_back}
use Rattle.cd_registry.specs.Slots.{row_of}
use Rattle.std.proofs.Common.{arith, refl}

pub invariant_of-self : goal.invariant_of-self
invariant_of-self g c =
    let show = row_of g.P.TellsCalls.plug_tells g.Q.TellsReadings.probe_tells in
    let slots = c.args.self.now.slots.items in
    let at = fact_at show IsProbeOut slots c.args.reg c.index_mut.result.now c.index_mut.ensures.value c.requires in
    record {
      marked = ready_kept g.P.TellsCalls.plug_tells g.Q.TellsReadings.probe_tells _ _ _ _ _ _ c.index_mut.ensures.value c.put.ensures.row (rw at.out refl) c.args.self.now.marked;
    }

pub returns-clause-rows : goal.returns-clause-rows
returns-clause-rows g c = changed _ (after_back (g.Q.TellsReadings.probe_tells c.args.object)) _ _ _ _ c.index_mut.ensures.value c.put.ensures.row

pub returns-clause-room : goal.returns-clause-room
returns-clause-room g c =
    let show = row_of g.P.TellsCalls.plug_tells g.Q.TellsReadings.probe_tells in
    let slots = c.args.self.now.slots.items in
    room_kept slots c.args.reg c.index_mut.result.now c.put.new.self c.index_mut.ensures.value (within show slots c.args.reg IsProbeOut c.requires) (omega (arith, c.put.ensures.spare))
