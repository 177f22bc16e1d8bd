use Rattle.cd_serve.proofs.Keeping.{drains, keeps_called, keeps_then}
use Rattle.cd_serve.proofs.daemon.Daemon.drain.Goals as goal
use Rattle.std.proofs.Common.{refl}

pub loop-preserved : goal.loop-preserved
loop-preserved g c = keeps_then _ _ _ c.loop.invariant (keeps_called _ _ c.in-Some.field-0 c.in-Some.ensures.called)

pub returns-clause-none : goal.returns-clause-none
returns-clause-none g c = drains _ _ _ c.loop.invariant (c.in_default.ensures.same refl) (c.in_default.ensures.none refl)
