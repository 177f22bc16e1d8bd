use Rattle.cd_core_walk.proofs.Lent.{accepted}
use Rattle.cd_core_walk.proofs.real.Real.accept.Goals as goal

pub returns : goal.returns
returns g c = accepted _ _ _ _ _ _ _ c.accept.result c.accept.ensures.step c.accept.ensures.err c.requires
