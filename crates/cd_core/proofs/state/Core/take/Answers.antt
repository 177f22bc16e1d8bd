use Rattle.cd_core.proofs.Standing.{is_lent, none_ready, taken}
use Rattle.cd_core.proofs.Waiting.{waiting_fewer}
use Rattle.cd_core.specs.Seen.{calls_waiting}
use Rattle.cd_core.proofs.state.Core.take.Goals as goal
use Rattle.cd_registry.proofs.Ats.{at_first, taken_out}
use Rattle.cd_registry.specs.Registry.{rows}
use Rattle.cd_registry.specs.Rows.{At, IsPlugOut, Row, is_ready}
use Rattle.std.proofs.Common.{List, ap, subst, sym, ℕ, ◌+◌, ◌∙◌}

pub returns-in-Some-clause-step : goal.returns-in-Some-clause-step
returns-in-Some-clause-step g c = taken _ _ c.args.actor c.in-Some.reg _ _ _ (sym c.in-Some.ensures) c.take.ensures.reg c.take.ensures.lease c.take.ensures.rows

pub returns-in-Some-clause-lent : goal.returns-in-Some-clause-lent
returns-in-Some-clause-lent g c = is_lent _ c.args.actor c.in-Some.reg _ _ _ c.take.ensures.reg c.take.ensures.lease

pub take-requires : goal.take-requires
take-requires g c = at_first is_ready (rows g.P.TellsCalls.plug_tells g.Q.TellsReadings.probe_tells c.args.self.now.registry) c.in-Some.reg (sym c.in-Some.ensures)

pub returns-in-None-clause-none : goal.returns-in-None-clause-none
returns-in-None-clause-none g c = λ none. none_ready _ (sym c.in-None.ensures)

pub returns-in-Some-clause-out : goal.returns-in-Some-clause-out
returns-in-Some-clause-out g c =
    let before = rows g.P.TellsCalls.plug_tells g.Q.TellsReadings.probe_tells c.args.self.now.registry in
    let after = rows g.P.TellsCalls.plug_tells g.Q.TellsReadings.probe_tells c.take.new.self in
    let A : List Row → Type 0 = λ rows. At rows c.in-Some.reg IsPlugOut in
    let N : ℕ → Type 0 = λ n. At after n IsPlugOut in
    subst N (sym c.take.ensures.reg)
    (subst A (sym c.take.ensures.rows) (taken_out before c.in-Some.reg c.args.actor (at_first is_ready before c.in-Some.reg (sym c.in-Some.ensures))))

pub returns-in-Some-clause-fewer : goal.returns-in-Some-clause-fewer
returns-in-Some-clause-fewer g c =
    let before = rows g.P.TellsCalls.plug_tells g.Q.TellsReadings.probe_tells c.args.self.now.registry in
    waiting_fewer before c.in-Some.reg c.args.actor (at_first is_ready before c.in-Some.reg (sym c.in-Some.ensures))
    ∙ ap (λ (rows : List Row). calls_waiting rows + 1) (sym c.take.ensures.rows)
