use Rattle.cd_serve.proofs.Keeping.{keeps_same, keeps_then}
use Rattle.cd_serve.proofs.Obeying.{serves_command, serves_fault}
use Rattle.cd_serve.proofs.Replying.{on_each}
use Rattle.cd_serve.proofs.daemon.Daemon.serve_words.Goals as goal

pub returns-in-Ok-clause-ok : goal.returns-in-Ok-clause-ok
returns-in-Ok-clause-ok g c =
    on_each c.obey.result
    (λ answer obeys. serves_command _ _ c.in_ok-now.now c.in_ok-now.ensures.ok.0 c.in_ok-now.ensures.ok.1 c.args.line.now c.in-Ok.command answer _ c.requires c.in-Ok.ensures.meaning c.in-Ok.ensures.same_command obeys)
    c.obey.ensures.ok

pub returns-in-Ok-clause-keeps : goal.returns-in-Ok-clause-keeps
returns-in-Ok-clause-keeps g c = keeps_then _ _ _ (keeps_same _ _ c.moment.ensures.core) c.obey.ensures.keeps

pub returns-in-Err-clause-ok : goal.returns-in-Err-clause-ok
returns-in-Err-clause-ok g c =
    on_each c.refuse.result
    (λ answer refused. serves_fault _ _ c.in_ok-now.now c.in_ok-now.ensures.ok.0 c.in_ok-now.ensures.ok.1 c.args.line.now c.in-Err.fault answer _ c.in-Err.ensures.same_fault refused)
    c.refuse.ensures.ok

pub returns-in-Err-clause-keeps : goal.returns-in-Err-clause-keeps
returns-in-Err-clause-keeps g c = keeps_then _ _ _ (keeps_same _ _ c.moment.ensures.core) c.refuse.ensures.keeps
