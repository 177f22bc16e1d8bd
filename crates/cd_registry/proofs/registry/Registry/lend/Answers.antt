use Rattle.cd_registry.proofs.Changed.{at_here, at_within, changed, fact_at, within}
use Rattle.cd_registry.proofs.Kept.{ready_kept, room_kept}
use Rattle.cd_registry.proofs.registry.Registry.lend.Goals as goal
use Rattle.cd_registry.specs.Rows.{IsProbeHome, after_lend}
use Rattle.cd_registry.specs.Slots.{row_of}
use Rattle.cd_registry.specs.declared.place.Place.TheVariants.{ProbeHome}
use Rattle.std.proofs.Common.{arith, refl, ◌≡◌}

pub invariant_of-self : goal.invariant_of-self
invariant_of-self g c =
    let show = row_of g.P.TellsCalls.plug_tells g.Q.TellsReadings.probe_tells in
    let slots = c.args.self.now.slots.items in
    let at = fact_at show IsProbeHome slots c.args.reg c.index_mut.result.now c.index_mut.ensures.value c.requires.home in
    record {
      marked = ready_kept g.P.TellsCalls.plug_tells g.Q.TellsReadings.probe_tells _ _ _ _ _ _ c.index_mut.ensures.value c.lend.ensures.row (rw at.home refl) c.args.self.now.marked;
    }

pub returns-clause-probe : goal.returns-clause-probe
returns-clause-probe g c =
    let show = row_of g.P.TellsCalls.plug_tells g.Q.TellsReadings.probe_tells in
    let slots = c.args.self.now.slots.items in
    at_here show (λ row. row.place ≡ ProbeHome (g.Q.TellsReadings.probe_tells c.lend.result)) slots c.args.reg c.index_mut.result.now
    (at_within _ c.args.reg IsProbeHome c.requires.home) c.index_mut.ensures.value c.lend.ensures.probe

pub returns-clause-rows : goal.returns-clause-rows
returns-clause-rows g c = changed _ (after_lend c.args.actor) _ _ _ _ c.index_mut.ensures.value c.lend.ensures.row

pub returns-clause-room : goal.returns-clause-room
returns-clause-room g c =
    let show = row_of g.P.TellsCalls.plug_tells g.Q.TellsReadings.probe_tells in
    let slots = c.args.self.now.slots.items in
    room_kept slots c.args.reg c.index_mut.result.now c.lend.new.self c.index_mut.ensures.value (within show slots c.args.reg IsProbeHome c.requires.home) (omega (arith, c.lend.ensures.spare))
