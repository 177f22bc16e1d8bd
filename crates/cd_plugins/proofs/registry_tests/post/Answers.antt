use Rattle.cd_registry.proofs.Ats.{found_live}
use Rattle.cd_plugins.proofs.registry_tests.post.Goals as goal
use Rattle.cd_registry.specs.Registry.{rows}
use Rattle.cd_registry.specs.Rows.{At, IsLive, Row}
use Rattle.std.proofs.Common.{List, subst, sym, ◌∙◌, ◌≡◌}

pub reserve-requires : goal.reserve-requires
reserve-requires g c = found_live 1 c.args.name.now _ c.in_ok-reg.reg (sym c.find.ensures.number ∙ c.in_ok-reg.was)

pub post-requires : goal.post-requires
post-requires g c =
    let P : List Row → Type 0 = λ rows. At rows c.in_ok-reg.reg IsLive in
    subst P (sym c.reserve.ensures.rows) (found_live 1 c.args.name.now _ c.in_ok-reg.reg (sym c.find.ensures.number ∙ c.in_ok-reg.was))
