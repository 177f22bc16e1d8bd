use Rattle.cd_daemon.proofs.UnderWay.{begun_is_under_way, stays_under_way}
use Rattle.cd_daemon.proofs.laws.flush_is_under_way_until_its_counts.Goals as goal

pub returns-clause-begun : goal.returns-clause-begun
returns-clause-begun c = λ P actor f request. begun_is_under_way P f

pub returns-clause-stays : goal.returns-clause-stays
returns-clause-stays c = stays_under_way
