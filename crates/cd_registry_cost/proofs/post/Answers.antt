use Rattle.cd_registry.proofs.Ats.{found_live}
use Rattle.cd_registry_cost.proofs.post.Goals as goal
use Rattle.std.proofs.Common.{sym, ◌∙◌, ◌≡◌}

pub post-requires : goal.post-requires
post-requires g c = found_live 1 c.args.name.now _ c.in-Some.reg (sym c.find.ensures.number ∙ c.in-Some.is)
