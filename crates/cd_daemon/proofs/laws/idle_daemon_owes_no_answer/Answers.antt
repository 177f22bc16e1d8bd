use Rattle.cd_daemon.proofs.Owed.{none_owed}
use Rattle.cd_daemon.proofs.laws.idle_daemon_owes_no_answer.Goals as goal

pub returns : goal.returns
returns c = λ K P f l idle home. none_owed f K P l idle home
