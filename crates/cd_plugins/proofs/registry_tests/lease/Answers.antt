use Rattle.cd_registry.proofs.Ats.{at_first, taken_out}
use Rattle.cd_plugins.proofs.registry_tests.lease.Goals as goal
use Rattle.cd_registry.specs.Registry.{rows}
use Rattle.cd_registry.specs.Rows.{At, IsPlugOut, Row, is_ready}
use Rattle.std.proofs.Common.{List, subst, sym, ◌∙◌, ◌≡◌}

pub take-lease-requires : goal.take-lease-requires
take-lease-requires g c =
    at_first is_ready (rows g.P.TellsCalls.plug_tells g.Q.TellsReadings.probe_tells c.args.registry.now) c.in_ok-reg.reg (sym c.ready.ensures ∙ c.in_ok-reg.was)

pub close_meanwhile-closed-requires : goal.close_meanwhile-closed-requires
close_meanwhile-closed-requires g c =
    let reg = c.in_ok-reg.reg in
    let old = rows g.P.TellsCalls.plug_tells g.Q.TellsReadings.probe_tells c.args.registry.now in
    let P : List Row → Type 0 = λ rows. At rows reg IsPlugOut in
    (c.type_bounds.send-P, (c.type_bounds.send-Q, subst P (sym c.take-lease.ensures.rows) (taken_out old reg c.args.actor (at_first is_ready old reg (sym c.ready.ensures ∙ c.in_ok-reg.was)))))
