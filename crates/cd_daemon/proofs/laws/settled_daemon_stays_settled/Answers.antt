use Rattle.cd_daemon.proofs.Settled.{stays_settled}
use Rattle.cd_daemon.proofs.laws.settled_daemon_stays_settled.Goals as goal

pub returns : goal.returns
returns c = stays_settled
