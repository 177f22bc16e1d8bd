use Rattle.cd_core.proofs.Named.{performed_named, written}
use Rattle.cd_core.proofs.effects.perform.Goals as goal
use Rattle.cd_daemon.specs.Performing.{perform}
use Rattle.cd_registry.proofs.Changed.{on_ok}
use Rattle.std.proofs.Common.{ap, sym, ◌∙◌}

pub returns-in-Write : goal.returns-in-Write
returns-in-Write g c =
    on_ok c.write_to_named.result
    (λ says regs finds.
    says regs finds
    ∙ ap (written regs c.in-Write.list c.args.effects.now) c.as_slice.ensures
    ∙ sym (performed_named regs c.args.effects.now c.in-Write.list c.in-Write.names (sym c.is_empty.ensures ∙ c.if-is_empty.false))
    ∙ ap (perform regs c.args.effects.now) (sym c.in-Write.is))
    c.write_to_named.ensures
