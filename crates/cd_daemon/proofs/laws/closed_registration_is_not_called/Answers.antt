use Rattle.cd_daemon.proofs.Leaving.{closed_uncalled}
use Rattle.cd_daemon.proofs.laws.closed_registration_is_not_called.Goals as goal

pub returns : goal.returns
returns c = closed_uncalled
