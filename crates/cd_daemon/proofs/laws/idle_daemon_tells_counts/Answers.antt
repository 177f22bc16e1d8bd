use Rattle.cd_daemon.proofs.UnderWay.{counts_told}
use Rattle.cd_daemon.proofs.laws.idle_daemon_tells_counts.Goals as goal

pub returns : goal.returns
returns c = counts_told
