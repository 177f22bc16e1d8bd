use Rattle.std.proofs.Common.{ap, arith, sym, ◌∙◌}
use Rattle.std.specs.List.{find}
use Rattle.std.specs.Prelude.{option_copied}
use Rattle.cd_settings.proofs.ChainFaults.{no_rule_left, not_rule, rule_with, rule_without}
use Rattle.cd_settings.proofs.chain_lines.jump_in_rules.Goals as goal
use Rattle.cd_settings.specs.ChainLines.{jumps_to, targets_in_rules}

pub loop-item-preserved-then-not-section : goal.loop-item-preserved-then-not-section
loop-item-preserved-then-not-section c =
    not_rule (jumps_to c.args.name.now) c.args.items.now c.loop-item.item-index c.item-item.result (find (jumps_to c.args.name.now) (targets_in_rules c.args.items.now)) (omega arith) c.item-item.is
    (sym c.section.ensures ∙ c.if-not-section.true) c.loop-item.invariant

pub loop-item-preserved : goal.loop-item-preserved
loop-item-preserved c =
    rule_without (jumps_to c.args.name.now) c.args.items.now c.loop-item.item-index c.item-item.result (find (jumps_to c.args.name.now) (targets_in_rules c.args.items.now)) (omega arith) c.item-item.is
    (sym c.section.ensures ∙ c.if-not-section.false)
    (ap (find (jumps_to c.args.name.now)) (sym c.as_slice.ensures) ∙ sym c.first_jump.ensures ∙ ap option_copied c.in_default.is) c.loop-item.invariant

pub returns-in-Some : goal.returns-in-Some
returns-in-Some c =
    rule_with (jumps_to c.args.name.now) c.args.items.now c.loop-item.item-index c.item-item.result c.in-Some.jump.now (find (jumps_to c.args.name.now) (targets_in_rules c.args.items.now)) (omega arith) c.item-item.is
    (sym c.section.ensures ∙ c.if-not-section.false)
    (ap (find (jumps_to c.args.name.now)) (sym c.as_slice.ensures) ∙ sym c.in-Some.ensures) c.loop-item.invariant

pub returns : goal.returns
returns c = no_rule_left (jumps_to c.args.name.now) c.args.items.now c.loop-item.item-index (find (jumps_to c.args.name.now) (targets_in_rules c.args.items.now)) (omega arith) c.loop-item.invariant
