use Rattle.cd_core_walk.proofs.Lent.{retired}
use Rattle.cd_core_walk.proofs.real.Real.retire.Goals as goal

pub returns : goal.returns
returns g c = retired _ _ _ _ _ _ c.retire.ensures.step c.requires
