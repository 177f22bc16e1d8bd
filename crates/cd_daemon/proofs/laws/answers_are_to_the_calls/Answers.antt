use Rattle.cd_daemon.proofs.Answered.{answers_follow}
use Rattle.cd_daemon.proofs.laws.answers_are_to_the_calls.Goals as goal

pub returns : goal.returns
returns c = answers_follow
