use Rattle.cd_daemon.proofs.Leaving.{retired_answered}
use Rattle.cd_daemon.proofs.laws.object_handed_out_answered_all_calls.Goals as goal

pub returns : goal.returns
returns c = retired_answered
