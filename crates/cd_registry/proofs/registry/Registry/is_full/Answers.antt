use Rattle.cd_registry.proofs.Places.{count-map}
use Rattle.cd_registry.proofs.registry.Registry.is_full.Goals as goal
use Rattle.cd_registry.specs.Slots.{row_of}
use Rattle.cd_registry.specs.declared.faults.TheConstants.{LIVE_LIMIT}
use Rattle.std.proofs.Common.{ap, nat_le, sym, ◌∙◌}

pub returns : goal.returns
returns g c =
    let count = count-map (row_of g.P.TellsCalls.plug_tells g.Q.TellsReadings.probe_tells) (λ row. row.live) c.args.self.now.slots.items in
    ap (λ n. nat_le LIVE_LIMIT n) ((rw c.deref.ensures.value at c.live_slots.ensures) ∙ sym count)
