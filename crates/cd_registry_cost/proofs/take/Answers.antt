use Rattle.cd_registry.proofs.Ats.{at_first, taken_out}
use Rattle.cd_registry.specs.Registry.{rows}
use Rattle.cd_registry.specs.Rows.{At, IsPlugOut, Row, is_ready}
use Rattle.cd_registry_cost.proofs.take.Goals as goal
use Rattle.std.proofs.Common.{List, subst, sym, ℕ, ◌∙◌, ◌≡◌}

pub take-lease-requires : goal.take-lease-requires
take-lease-requires g c =
    at_first is_ready (rows g.P.TellsCalls.plug_tells g.Q.TellsReadings.probe_tells c.args.registry.now) c.in-Some.reg (sym c.ready.ensures ∙ c.in-Some.is)

pub give-requires : goal.give-requires
give-requires g c =
    let old = rows g.P.TellsCalls.plug_tells g.Q.TellsReadings.probe_tells c.args.registry.now in
    let P : List Row → Type 0 = λ rows. At rows c.in-Some.reg IsPlugOut in
    let out : P (rows g.P.TellsCalls.plug_tells g.Q.TellsReadings.probe_tells c.take-lease.new.self) =
    subst P (sym c.take-lease.ensures.rows) (taken_out old c.in-Some.reg 1 (at_first is_ready old c.in-Some.reg (sym c.ready.ensures ∙ c.in-Some.is))) in
    let Q : ℕ → Type 0 = λ reg. At (rows g.P.TellsCalls.plug_tells g.Q.TellsReadings.probe_tells c.take-lease.new.self) reg IsPlugOut in
    subst Q (sym (c.enter.ensures.reg ∙ c.take-lease.ensures.reg)) out
