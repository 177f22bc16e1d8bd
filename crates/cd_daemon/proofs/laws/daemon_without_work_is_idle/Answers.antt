use Rattle.cd_daemon.proofs.Leaving.{idle_by}
use Rattle.cd_daemon.proofs.laws.daemon_without_work_is_idle.Goals as goal

pub returns : goal.returns
returns c = idle_by
