use Rattle.cd_core_walk.proofs.Lent.{kept_as, taken}
use Rattle.cd_core_walk.proofs.real.Real.take.Goals as goal
use Rattle.std.proofs.Common.{List, [], ap, refl, ◌++◌, ◌∙◌, ◌∷◌}

pub returns-in-Some : goal.returns-in-Some
returns-in-Some g c =
    taken _ _ _ _ _ c.args.actor c.in-Some.lease (c.push_reserved.ensures.items ∙ ap (λ leases. leases ++ c.in-Some.lease ∷ []) c.reserve.ensures.items)
    c.in-Some.ensures.step c.in-Some.ensures.lent c.requires

pub returns-in-None : goal.returns-in-None
returns-in-None g c = kept_as _ _ _ _ _ c.reserve.ensures.items (c.in-None.ensures.same refl) c.requires
