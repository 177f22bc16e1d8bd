use Rattle.cd_serve.proofs.Keeping.{keeps_same, keeps_then}
use Rattle.cd_serve.proofs.Replying.{puts}
use Rattle.cd_serve.proofs.Rolling.{rolled_for}
use Rattle.cd_serve.proofs.daemon.Daemon.put.Goals as goal

pub returns-clause-ok : goal.returns-clause-ok
returns-clause-ok g c =
    puts c.print_reply.result c.args.lists c.roll.new.self.words.items c.args.now c.in_ok-reply.reply _ _ _ _
    (rolled_for _ _ _ _ _ c.len.ensures c.in_ok-roll.ensures.ok) c.in_ok-reply.ensures.ok c.in_ok-work.ensures.ok c.print_reply.ensures.text

pub returns-in_err-work-clause-keeps : goal.returns-in_err-work-clause-keeps
returns-in_err-work-clause-keeps g c = keeps_then _ _ _ (keeps_same _ _ c.roll.ensures.core) (keeps_then _ _ _ c.accept.ensures.keeps c.work.ensures.keeps)

pub returns-clause-keeps : goal.returns-clause-keeps
returns-clause-keeps g c = keeps_then _ _ _ (keeps_same _ _ c.roll.ensures.core) (keeps_then _ _ _ c.accept.ensures.keeps c.work.ensures.keeps)
