use Rattle.cd_serve.proofs.Keeping.{called_unready, keeps_called, keeps_then}
use Rattle.cd_serve.proofs.Unasked.{on_err}
use Rattle.cd_serve.proofs.Steps.{called_all, keeps_working_called, keeps_working_then}
use Rattle.cd_serve.proofs.daemon.Daemon.make_calls.Goals as goal
use Rattle.std.proofs.Common.{refl, ◌∙◌}

pub loop-answer-preserved : goal.loop-answer-preserved
loop-answer-preserved g c = record {
  works = keeps_working_then _ _ _ c.loop-answer.invariant.works
      (keeps_working_called _ _ c.in-Some.answer c.in-Some.ensures.called c.call.ensures.pairs c.in_ok-push.ensures.ok);
  keeps = keeps_then _ _ _ c.loop-answer.invariant.keeps (keeps_called _ _ c.in-Some.answer c.in-Some.ensures.called);
  queue = c.call.ensures.queue ∙ c.loop-answer.invariant.queue;
  still = λ K P stands none.
      absurd (called_unready _ _ _ c.in-Some.answer c.in-Some.ensures.called K P (c.loop-answer.invariant.still K P stands none) stands none);
}

pub returns-in_err-push-clause-keeps : goal.returns-in_err-push-clause-keeps
returns-in_err-push-clause-keeps g c = keeps_then _ _ _ c.loop-answer.invariant.keeps (keeps_called _ _ c.in-Some.answer c.in-Some.ensures.called)

pub returns-in_err-push-clause-lacked : goal.returns-in_err-push-clause-lacked
returns-in_err-push-clause-lacked g c = on_err c.from_residual.result (λ K P stands none.
    called_unready _ _ _ c.in-Some.answer c.in-Some.ensures.called K P (c.loop-answer.invariant.still K P stands none) stands none)

pub returns-clause-ok : goal.returns-clause-ok
returns-clause-ok g c = called_all _ _ _ c.loop-answer.invariant.works (c.in_default.ensures.same refl) c.call.ensures.pairs refl (c.in_default.ensures.none refl)
