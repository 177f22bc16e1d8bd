use Rattle.cd_history.specs.declared.entry.Entry.TheVariants as entry
use Rattle.cd_serve.proofs.Keeping.{accept_quiet, keeps_step}
use Rattle.cd_serve.proofs.Offering.{accepts_all, accepts_none}
use Rattle.cd_serve.proofs.daemon.Daemon.accept.Goals as goal
use Rattle.std.proofs.Common.{Ok, refl}

pub returns-in-Ok-clause-ok : goal.returns-in-Ok-clause-ok
returns-in-Ok-clause-ok g c =
    accepts_all c.args.lists c.as_slice.result.now c.args.self.now.words.items c.args.now _ _ c.as_slice.ensures.value c.accept.ensures.pairs refl c.in-Ok.field-0 c.in-Ok.ensures.step

pub returns-in-Ok-clause-keeps : goal.returns-in-Ok-clause-keeps
returns-in-Ok-clause-keeps g c =
    keeps_step _ _ (entry.Accept 0 c.args.lists c.as_slice.result.now c.args.now (Ok c.in-Ok.field-0))
    (accept_quiet 0 c.args.lists c.as_slice.result.now c.args.now (Ok c.in-Ok.field-0)) (c.in-Ok.ensures.step 0)

pub returns-in-Stopping-clause-ok : goal.returns-in-Stopping-clause-ok
returns-in-Stopping-clause-ok g c =
    accepts_none c.args.lists c.as_slice.result.now c.args.self.now.words.items c.args.now _ _ c.as_slice.ensures.value c.accept.ensures.pairs refl c.in-Err.refused.why c.in-Stopping.is
    c.in-Err.ensures.step
