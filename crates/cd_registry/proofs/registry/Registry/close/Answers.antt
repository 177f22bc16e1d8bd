use Rattle.cd_registry.proofs.Changed.{changed}
use Rattle.cd_registry.proofs.Kept.{ready_kept, room_kept}
use Rattle.cd_registry.proofs.registry.Registry.close.Goals as goal
use Rattle.cd_registry.specs.Rows.{after_close}
use Rattle.std.proofs.Common.{arith, refl}

pub invariant_of-self : goal.invariant_of-self
invariant_of-self g c = record {
  marked = ready_kept g.P.TellsCalls.plug_tells g.Q.TellsReadings.probe_tells _ _ _ _ _ _ c.index_mut.ensures.value c.close.ensures.row refl c.args.self.now.marked;
}

pub returns-clause-ok : goal.returns-clause-ok
returns-clause-ok g c = changed _ after_close _ _ _ _ c.index_mut.ensures.value c.close.ensures.row

pub returns-clause-room : goal.returns-clause-room
returns-clause-room g c = room_kept _ _ _ _ c.index_mut.ensures.value c.in-Some.ensures.within (omega arith)
