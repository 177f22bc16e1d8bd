use Rattle.cd_core.specs.Replies.{end_reply}
use Rattle.cd_serve.proofs.Keeping.{keeps_ended, keeps_then}
use Rattle.cd_serve.proofs.Replying.{finishes}
use Rattle.cd_serve.proofs.daemon.Daemon.finish.Goals as goal
use Rattle.std.proofs.Common.{refl}

pub returns-clause-ok : goal.returns-clause-ok
returns-clause-ok g c =
    finishes c.print_reply.result c.args.number c.in-Ok.successful c.in-Ok.errors _ _ _ c.in_ok-work.ensures.ok c.in-Ok.ensures.step c.flush_end.ensures.pairs refl c.print_reply.ensures.text

pub returns-clause-keeps : goal.returns-clause-keeps
returns-clause-keeps g c = keeps_then _ _ _ c.work.ensures.keeps (keeps_ended _ _ c.args.number (end_reply c.flush_end.result) c.flush_end.ensures.step)
