use Rattle.cd_daemon.proofs.Leaving.{beginner_stays, closer_closed, closer_stays}
use Rattle.cd_daemon.proofs.laws.closer_and_beginner_stay_known.Goals as goal

pub returns-clause-closed : goal.returns-clause-closed
returns-clause-closed c = closer_closed

pub returns-clause-closer : goal.returns-clause-closer
returns-clause-closer c = closer_stays

pub returns-clause-beginner : goal.returns-clause-beginner
returns-clause-beginner c = beginner_stays
