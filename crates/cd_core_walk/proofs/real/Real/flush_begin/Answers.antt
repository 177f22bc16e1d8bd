use Rattle.cd_core_walk.proofs.Lent.{flush_begun}
use Rattle.cd_core_walk.proofs.real.Real.flush_begin.Goals as goal

pub returns : goal.returns
returns g c = flush_begun _ _ _ _ _ c.flush_begin.result c.flush_begin.ensures.step c.flush_begin.ensures.err c.requires
