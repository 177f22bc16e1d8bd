use Rattle.cd_registry.proofs.Changed.{on_ok, unchanged, within}
use Rattle.cd_registry.proofs.Kept.{ready_kept, room_kept, room_of}
use Rattle.cd_registry.proofs.registry.Registry.reserve.Goals as goal
use Rattle.cd_registry.specs.Rows.{IsLive}
use Rattle.cd_registry.specs.Slots.{row_of}
use Rattle.std.proofs.Common.{refl}

pub invariant_of-self : goal.invariant_of-self
invariant_of-self g c = record {
  marked = ready_kept g.P.TellsCalls.plug_tells g.Q.TellsReadings.probe_tells _ _ _ _ _ _ c.index_mut.ensures.value c.reserve.ensures.row refl c.args.self.now.marked;
}

pub returns-clause-ok : goal.returns-clause-ok
returns-clause-ok g c =
    let show = row_of g.P.TellsCalls.plug_tells g.Q.TellsReadings.probe_tells in
    let slots = c.args.self.now.slots.items in
    let room = room_of slots c.args.reg c.index_mut.result.now c.reserve.new.self c.index_mut.ensures.value (within show slots c.args.reg IsLive c.requires) in
    on_ok c.reserve.result (λ enough. rw room enough) c.reserve.ensures.ok

pub returns-clause-rows : goal.returns-clause-rows
returns-clause-rows g c = unchanged _ _ _ _ _ c.index_mut.ensures.value c.reserve.ensures.row

pub returns-clause-spare : goal.returns-clause-spare
returns-clause-spare g c =
    let show = row_of g.P.TellsCalls.plug_tells g.Q.TellsReadings.probe_tells in
    let slots = c.args.self.now.slots.items in
    room_kept slots c.args.reg _ _ c.index_mut.ensures.value (within show slots c.args.reg IsLive c.requires) c.reserve.ensures.spare
