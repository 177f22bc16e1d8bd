use Rattle.cd_core_walk.proofs.Lent.{flushed}
use Rattle.cd_core_walk.proofs.real.Real.flush_end.Goals as goal

pub returns : goal.returns
returns g c = flushed _ _ _ _ _ _ c.flush_end.ensures.step c.requires
