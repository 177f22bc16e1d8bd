use Rattle.cd_daemon.proofs.Settled.{makes_no_call}
use Rattle.cd_daemon.proofs.laws.settled_daemon_makes_no_call.Goals as goal

pub returns : goal.returns
returns c = makes_no_call
