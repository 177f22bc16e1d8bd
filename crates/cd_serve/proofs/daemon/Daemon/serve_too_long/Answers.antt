use Rattle.cd_serve.proofs.Keeping.{keeps_same, keeps_then}
use Rattle.cd_serve.proofs.Obeying.{serves_too_long}
use Rattle.cd_serve.proofs.Replying.{on_each}
use Rattle.cd_serve.proofs.daemon.Daemon.serve_too_long.Goals as goal

pub returns-clause-ok : goal.returns-clause-ok
returns-clause-ok g c =
    on_each c.refuse.result (λ answer refused. serves_too_long _ _ c.in_ok-moment.field-0 c.in_ok-moment.ensures.ok.0 c.in_ok-moment.ensures.ok.1 answer _ refused) c.refuse.ensures.ok

pub returns-clause-keeps : goal.returns-clause-keeps
returns-clause-keeps g c = keeps_then _ _ _ (keeps_same _ _ c.moment.ensures.core) c.refuse.ensures.keeps
