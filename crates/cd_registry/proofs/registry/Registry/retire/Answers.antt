use Rattle.cd_registry.proofs.Changed.{at_here, changed, if_ok, on_ok, shown_at}
use Rattle.cd_registry.proofs.Kept.{marked_kept, room_there}
use Rattle.cd_registry.proofs.registry.Registry.retire.Goals as goal
use Rattle.cd_registry.specs.Faults.{retire_fault}
use Rattle.cd_registry.specs.Rows.{after_retire, home_of}
use Rattle.cd_registry.specs.Slots.{member_tells, row_of}
use Rattle.std.proofs.Common.{ap, arith, sym, ◌∙◌, ◌≡◌}
use Rattle.std.proofs.lemmas.List.{length-map}

pub invariant_of-self : goal.invariant_of-self
invariant_of-self g c = record {
  marked = marked_kept _ _ _ _ _ c.index_mut.ensures.value c.retire.ensures.ready c.args.self.now.marked;
}

pub returns-clause-fault : goal.returns-clause-fault
returns-clause-fault g c =
    let show = row_of g.P.TellsCalls.plug_tells g.Q.TellsReadings.probe_tells in
    let slots = c.args.self.now.slots.items in
    let here = shown_at show slots c.args.reg c.index_mut.result.now (omega (arith, length-map slots show)) c.index_mut.ensures.value in
    c.retire.ensures.fault ∙ sym (ap retire_fault here)

pub returns-clause-member : goal.returns-clause-member
returns-clause-member g c =
    let show = row_of g.P.TellsCalls.plug_tells g.Q.TellsReadings.probe_tells in
    let slots = c.args.self.now.slots.items in
    if_ok c.retire.result (λ member home.
    at_here show (λ row. row.place ≡ home_of (member_tells g.P.TellsCalls.plug_tells g.Q.TellsReadings.probe_tells member)) slots c.args.reg c.index_mut.result.now
    (omega (arith, length-map slots show)) c.index_mut.ensures.value home)
    c.retire.ensures.member

pub returns-clause-ok : goal.returns-clause-ok
returns-clause-ok g c = on_ok c.retire.result (changed _ after_retire _ _ _ _ c.index_mut.ensures.value) c.retire.ensures.ok

pub returns-clause-room : goal.returns-clause-room
returns-clause-room g c n other =
    let there = room_there c.args.self.now.slots.items c.args.reg n c.retire.new.self other in
    omega (arith, there)
