use Rattle.cd_registry.proofs.Ats.{listening_live}
use Rattle.cd_registry.proofs.Changed.{if_ok}
use Rattle.cd_registry.proofs.Places.{numbers-map}
use Rattle.cd_registry.proofs.registry.Registry.listening.Goals as goal
use Rattle.cd_registry.specs.Registry.{rows}
use Rattle.cd_registry.specs.Rows.{has_kinds}
use Rattle.cd_registry.specs.Slots.{row_of}
use Rattle.std.proofs.Common.{sym, ◌&&◌, ◌∙◌}

pub returns-clause-numbers : goal.returns-clause-numbers
returns-clause-numbers g c =
    if_ok c.listening_slots.result (λ regs told.
    told ∙ sym (numbers-map (row_of g.P.TellsCalls.plug_tells g.Q.TellsReadings.probe_tells) (λ row. row.live && has_kinds c.args.kinds.0 row) c.args.self.now.slots.items))
    (rw c.deref.ensures.value at c.listening_slots.ensures)

pub returns-clause-live : goal.returns-clause-live
returns-clause-live g c =
    let shown = rows g.P.TellsCalls.plug_tells g.Q.TellsReadings.probe_tells c.args.self.now in
    if_ok c.listening_slots.result (λ regs told. rw told (listening_live c.args.kinds.0 shown))
    (returns-clause-numbers g c)
