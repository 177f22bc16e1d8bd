use Rattle.cd_serve.proofs.Replying.{refuses}
use Rattle.cd_serve.proofs.daemon.Daemon.refuse.Goals as goal

pub returns-clause-ok : goal.returns-clause-ok
returns-clause-ok g c =
    refuses c.print_reply.result c.args.fault c.in_ok-reply.reply _ _ c.in_ok-reply.ensures.0 c.in_ok-reply.ensures.1 c.in_ok-work.ensures.ok c.print_reply.ensures.text
