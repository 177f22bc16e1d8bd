use Rattle.cd_history.specs.declared.entry.Entry.TheVariants as entry
use Rattle.cd_serve.proofs.Keeping.{begin_quiet, keeps_step, keeps_then}
use Rattle.cd_serve.proofs.Replying.{flushes, flushes_none}
use Rattle.cd_serve.proofs.daemon.Daemon.flush.Goals as goal
use Rattle.std.proofs.Common.{Ok, refl}

pub returns-in-Ok-clause-ok : goal.returns-in-Ok-clause-ok
returns-in-Ok-clause-ok g c =
    flushes c.finish.result c.args.request.now c.in-Ok.number _ _ _ c.in-Ok.ensures.step c.flush_begin.ensures.pairs refl c.finish.ensures.ok

pub returns-in-Ok-clause-keeps : goal.returns-in-Ok-clause-keeps
returns-in-Ok-clause-keeps g c =
    keeps_then _ _ _
    (keeps_step _ _ (entry.FlushOpen 0 c.args.request.now (Ok c.in-Ok.number)) (begin_quiet 0 c.args.request.now (Ok c.in-Ok.number)) (c.in-Ok.ensures.step 0))
    c.finish.ensures.keeps

pub returns-in-Err-Stopping-clause-ok : goal.returns-in-Err-Stopping-clause-ok
returns-in-Err-Stopping-clause-ok g c =
    flushes_none c.print_reply.result c.args.request.now c.in-Err-Stopping.field-0 _ _ c.in-Err-Stopping.field-0-is c.in-Err-Stopping.ensures.step c.flush_begin.ensures.pairs refl c.print_reply.ensures.text
