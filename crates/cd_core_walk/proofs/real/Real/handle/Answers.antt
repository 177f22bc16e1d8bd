use Rattle.cd_core_walk.proofs.Lent.{handled}
use Rattle.cd_core_walk.proofs.real.Real.handle.Goals as goal

pub returns : goal.returns
returns g c = handled _ _ _ _ _ c.handle.result c.handle.ensures.step c.handle.ensures.err c.requires
