use Rattle.cd_core_walk.proofs.Lent.{made}
use Rattle.cd_core_walk.proofs.real.Real.stop.Goals as goal
use Rattle.std.proofs.Common.{refl}

pub returns : goal.returns
returns g c = made _ _ _ _ _ (λ r. refl) (c.stop.ensures.step 0) c.requires
