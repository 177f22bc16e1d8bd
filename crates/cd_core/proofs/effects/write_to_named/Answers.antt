use Rattle.cd_core.proofs.effects.write_to_named.Goals as goal
use Rattle.cd_registry.proofs.Changed.{on_ok}
use Rattle.std.proofs.Common.{◌∙◌}

pub returns : goal.returns
returns g c = on_ok c.write.result (λ says regs finds. says ∙ c.in_ok-last.ensures regs finds) c.write.ensures
