use Rattle.cd_core.proofs.FlushEnds.{no_flush, not_yet, told_counts}
use Rattle.cd_core.proofs.state.Core.flush_end.Goals as goal
use Rattle.cd_core.specs.declared.flush.Flush.{Flush}
use Rattle.std.proofs.Common.{ap, nat_eq, sym, ◌∙◌}
use Rattle.std.specs.List.{find}

pub returns-clause-step : goal.returns-clause-step
returns-clause-step g c = λ actor.
    told_counts _ _ actor c.args.number c.in-Some.flush
    (c.in-Some.ensures ∙ ap (find (λ (flush : Flush). nat_eq flush.number c.args.number)) c.deref.ensures.value)
    c.if-flush-ne0.false c.forget.ensures

pub returns-then-flush-ne0-clause-step : goal.returns-then-flush-ne0-clause-step
returns-then-flush-ne0-clause-step g c = λ actor.
    not_yet _ actor c.args.number c.in-Some.flush
    (c.in-Some.ensures ∙ ap (find (λ (flush : Flush). nat_eq flush.number c.args.number)) c.deref.ensures.value)
    c.if-flush-ne0.true

pub returns-in_default-clause-step : goal.returns-in_default-clause-step
returns-in_default-clause-step g c = λ actor.
    no_flush _ actor c.args.number
    (sym c.in_default.is ∙ c.flush_of_number.ensures ∙ ap (find (λ (flush : Flush). nat_eq flush.number c.args.number)) c.deref.ensures.value)
