use Rattle.cd_core.specs.Seen.{seen}
use Rattle.cd_history.specs.Leases.{answered}
use Rattle.cd_registry.specs.Rows.{home_of}
use Rattle.cd_registry.specs.Slots.{member_tells}
use Rattle.cd_registry.specs.Told.{told_after_all}
use Rattle.cd_registry.specs.declared.place.Place.TheVariants.{PlugHome, ProbeHome}
use Rattle.cd_registry.specs.declared.plug.PlugTells.{PlugTells}
use Rattle.cd_serve.proofs.HandingOut.{home_is, is_handed_out, never_unnamed, stands_then}
use Rattle.cd_serve.proofs.loading.hand_out.Goals as goal
use Rattle.cd_serve.specs.Working.Loading.{PlaceSeen}
use Rattle.std.proofs.Common.{Some, ap, length, ◌≡◌}

pub unreachable-requires : goal.unreachable-requires
unreachable-requires g c =
    never_unnamed c.requires.hands c.args.place.now.name c.requires.named (seen g.P.TellsCalls.plug_tells g.Q.TellsReadings.probe_tells c.close.new.self) c.in_default.ensures.step

pub unreachable-requires-in-Ok-Probe : goal.unreachable-requires-in-Ok-Probe
unreachable-requires-in-Ok-Probe g c =
    let e = home_is c.requires.hands c.args.place.now.name c.requires.named (seen g.P.TellsCalls.plug_tells g.Q.TellsReadings.probe_tells c.close.new.self) c.in-Ok.reg
    c.in-Ok.ensures.step _ c.in-Ok-Probe.ensures.told in
    let same : home_of (member_tells g.P.TellsCalls.plug_tells g.Q.TellsReadings.probe_tells c.in-Ok-Probe.field-0) ≡ ProbeHome (g.Q.TellsReadings.probe_tells c.in-Ok-Probe.field-0-0) =
    ap (λ m. home_of (member_tells g.P.TellsCalls.plug_tells g.Q.TellsReadings.probe_tells m)) c.in-Ok-Probe.field-0-is in
    cc

pub unreachable-requires-in-Err : goal.unreachable-requires-in-Err
unreachable-requires-in-Err g c =
    let e = is_handed_out c.requires.hands c.args.place.now.name c.requires.named (seen g.P.TellsCalls.plug_tells g.Q.TellsReadings.probe_tells c.close.new.self) c.in-Ok.reg
    c.in-Ok.ensures.step (seen g.P.TellsCalls.plug_tells g.Q.TellsReadings.probe_tells c.retire.new.self) _ c.in-Err.ensures.step in
    cc

pub returns : goal.returns
returns g c = λ K P done loaded more h named.
    let tells = g.P.TellsCalls.plug_tells in
    let mid = seen g.P.TellsCalls.plug_tells g.Q.TellsReadings.probe_tells c.close.new.self in
    let after = seen g.P.TellsCalls.plug_tells g.Q.TellsReadings.probe_tells c.retire.new.self in
    record {
      stands = stands_then h c.args.place.now.name named mid c.in-Ok.reg c.in-Ok.ensures.step after _ c.in-Ok-Plug.ensures.step;
      is =
          let e = home_is h c.args.place.now.name named mid c.in-Ok.reg c.in-Ok.ensures.step _ c.in-Ok-Plug.ensures.told in
          let same : home_of (member_tells tells g.Q.TellsReadings.probe_tells c.in-Ok-Plug.field-0) ≡ PlugHome (tells c.in-Ok-Plug.object) =
          ap (λ m. home_of (member_tells tells g.Q.TellsReadings.probe_tells m)) c.in-Ok-Plug.field-0-is in
          let told : tells c.in-Ok-Plug.object ≡ told_after_all (answered (length done) P) loaded.plug.tells = cc in
          ap (λ (t : PlugTells). let place : PlaceSeen = record { name = c.args.place.now.name; kinds = c.args.place.now.kinds; tells = Some t } in place) told;
    }
