use Rattle.cd_core_walk.proofs.Lent.{registered}
use Rattle.cd_core_walk.proofs.real.Real.register.Goals as goal

pub returns : goal.returns
returns g c = registered _ _ _ _ _ _ c.register.result c.register.ensures.step c.register.ensures.err c.requires
