use Rattle.cd_serve.proofs.Promises.{has_ended, has_given_up, has_lacked}
use Rattle.cd_serve.proofs.lines.end_run.Goals as goal
use Rattle.cd_serve.proofs.lines.end_run.Goals.{in-Memory, in_default}
use Rattle.cd_serve.specs.Working.Ended.{HasCome, around_seen}
use Rattle.cd_serve.specs.declared.end.End.TheVariants as ends
use Rattle.cd_serve.specs.declared.end.End.{End}
use Rattle.std.proofs.Common.{refl, subst, ◌≡◌}

pub returns-then-matches : goal.returns-then-matches
returns-then-matches g c = λ K begun opened before after come.
    let is : c.args.served ≡ ends.Memory = elim c.match-matches.branch [
      | in-Memory w ↦ w.in-Memory.is
      | in_default w ↦ (let no_so = w.matches-is in let yes_so = c.if-matches.true in cc)
    ] in
    let view = around_seen g.C.Clock.clock_pair g.D.Dice.dice_pair g.P.TellsCalls.plug_tells g.Q.TellsReadings.probe_tells in
    let H : End → Type 0 = λ e. HasCome K begun opened (view c.args.daemon.now) before after e in
    has_given_up K begun opened (view c.args.daemon.now) (view c.drain.new.self) before after (subst H is come) c.drain.ensures.none

pub returns-in-Ok : goal.returns-in-Ok
returns-in-Ok g c = λ K begun opened before after come.
    let some : c.args.served ≡ ends.Memory → ⊥ = elim c.match-matches.branch [
      | in-Memory w ↦ (let is = w.matches-is in let no_so = c.if-matches.false in λ e. absurd (cc))
      | in_default w ↦ w.in_default.not-Memory
    ] in
    has_ended K begun opened _ _ _ _ (c.stop.ensures.step 0) refl before after c.args.served some c.in-Ok.ensures.ok come

pub returns-in-Err : goal.returns-in-Err
returns-in-Err g c = λ K begun opened before after come.
    let some : c.args.served ≡ ends.Memory → ⊥ = elim c.match-matches.branch [
      | in-Memory w ↦ (let is = w.matches-is in let no_so = c.if-matches.false in λ e. absurd (cc))
      | in_default w ↦ w.in_default.not-Memory
    ] in
    let view = around_seen g.C.Clock.clock_pair g.D.Dice.dice_pair g.P.TellsCalls.plug_tells g.Q.TellsReadings.probe_tells in
    has_lacked K begun opened _ _ (view c.work.new.self) (view c.drain-in-Err.new.self) _ (c.stop.ensures.step 0) refl before after c.args.served some come
    c.in-Err.ensures.keeps c.in-Err.ensures.lacked c.drain-in-Err.ensures.none
