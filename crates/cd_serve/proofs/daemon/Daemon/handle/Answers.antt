use Rattle.cd_history.specs.declared.entry.Entry.TheVariants as entry
use Rattle.cd_serve.proofs.Keeping.{handle_quiet, keeps_same, keeps_step, keeps_then}
use Rattle.cd_serve.proofs.Steps.{handled_one, on_ok}
use Rattle.cd_serve.proofs.daemon.Daemon.handle.Goals as goal
use Rattle.std.proofs.Common.{refl}

pub returns-in-Ok-clause-ok : goal.returns-in-Ok-clause-ok
returns-in-Ok-clause-ok g c =
    on_ok c.make_calls.result
    (handled_one _ _ _ _ c.in_ok-now.now c.in-Ok.field-0 c.in_ok-now.ensures.ok.0 c.in_ok-now.ensures.ok.1 (c.in-Ok.ensures.step 0) c.handle.ensures.pairs refl)
    c.make_calls.ensures.ok

pub returns-in-Ok-clause-keeps : goal.returns-in-Ok-clause-keeps
returns-in-Ok-clause-keeps g c =
    keeps_then _ _ _ (keeps_same _ _ c.moment.ensures.core)
    (keeps_then _ _ _
    (keeps_step _ _ (entry.Handle 0 c.in_ok-now.now c.in-Ok.field-0) (handle_quiet 0 c.in_ok-now.now c.in-Ok.field-0) (c.in-Ok.ensures.step 0))
    c.make_calls.ensures.keeps)
