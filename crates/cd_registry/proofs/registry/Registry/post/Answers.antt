use Rattle.cd_registry.proofs.Changed.{changed, on_err, on_ok, unchanged, within}
use Rattle.cd_registry.proofs.Kept.{ready_set, room_used}
use Rattle.cd_registry.proofs.registry.Registry.post.Goals as goal
use Rattle.cd_registry.specs.Rows.{IsLive, after_post}
use Rattle.cd_registry.specs.Slots.{is_slot_ready, row_of}
use Rattle.std.proofs.Common.{ap, ◌∙◌}
use Rattle.std.proofs.lemmas.List.{get_or-set_same}

pub invariant_of-self : goal.invariant_of-self
invariant_of-self g c =
    let show = row_of g.P.TellsCalls.plug_tells g.Q.TellsReadings.probe_tells in
    let slots = c.args.self.now.slots.items in
    let new = c.post-posted.new.self in
    let here = get_or-set_same slots c.args.reg new c.index.result.now (within show slots c.args.reg IsLive c.requires) in
    record {
      marked = c.set.ensures
          ∙ ready_set c.args.self.now.ready.flags slots c.args.reg new c.is_ready-up.result (c.is_ready-up.ensures ∙ ap is_slot_ready (c.index.ensures ∙ here)) c.args.self.now.marked;
    }

pub returns-clause-ok : goal.returns-clause-ok
returns-clause-ok g c = on_ok c.post-posted.result (changed _ (after_post c.args.call) _ _ _ _ c.index_mut.ensures.value) c.post-posted.ensures.ok

pub returns-clause-err : goal.returns-clause-err
returns-clause-err g c = on_err c.post-posted.result (unchanged _ _ _ _ _ c.index_mut.ensures.value) c.post-posted.ensures.err

pub returns-clause-spare : goal.returns-clause-spare
returns-clause-spare g c =
    let show = row_of g.P.TellsCalls.plug_tells g.Q.TellsReadings.probe_tells in
    let slots = c.args.self.now.slots.items in
    room_used slots c.args.reg 1 _ _ c.index_mut.ensures.value (within show slots c.args.reg IsLive c.requires) c.post-posted.ensures.spare
