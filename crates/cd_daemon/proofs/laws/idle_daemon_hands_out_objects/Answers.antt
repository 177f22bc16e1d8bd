use Rattle.cd_daemon.proofs.Leaving.{idle_hands_out}
use Rattle.cd_daemon.proofs.laws.idle_daemon_hands_out_objects.Goals as goal

pub returns : goal.returns
returns c = idle_hands_out
