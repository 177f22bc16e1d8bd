use Rattle.cd_core.proofs.Lasting.{without_work}
use Rattle.cd_core.proofs.laws.core_without_work_is_idle.Goals as goal

pub returns : goal.returns
returns c = without_work
