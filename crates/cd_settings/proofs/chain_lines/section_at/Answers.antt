use Rattle.std.proofs.Common.{arith, drop, subst, suc, sym, ℕ, ◌-◌, ◌∙◌, ◌≡◌}
use Rattle.std.specs.List.{filter}
use Rattle.std.specs.Prelude.{slice_get}
use Rattle.cd_settings.proofs.ChainFaults.{counted, none_left, passed, reached}
use Rattle.cd_settings.proofs.chain_lines.section_at.Goals as goal
use Rattle.cd_settings.specs.Tables.{is_section_named}

pub loop-item-preserved-then-not-section : goal.loop-item-preserved-then-not-section
loop-item-preserved-then-not-section c =
    passed (is_section_named c.args.name.now) c.args.items.now c.loop-item.item-index c.args.number c.loop-item.left c.item-item.result (omega arith) c.item-item.is
    (sym c.section.ensures ∙ c.if-not-section.true) c.loop-item.invariant

pub loop-item-preserved : goal.loop-item-preserved
loop-item-preserved c =
    let one_more : c.loop-item.left ≡ suc (c.loop-item.left - 1) = omega arith in
    let found = λ (k : ℕ). slice_get (filter (is_section_named c.args.name.now) (drop c.loop-item.item-index c.args.items.now)) k in
    counted (is_section_named c.args.name.now) c.args.items.now c.loop-item.item-index c.args.number (c.loop-item.left - 1) c.item-item.result (omega arith) c.item-item.is
    (sym c.section.ensures ∙ c.if-not-section.false)
    (subst (λ (k : ℕ). found k ≡ slice_get (filter (is_section_named c.args.name.now) c.args.items.now) c.args.number) one_more c.loop-item.invariant)

pub returns-then-left-eq0 : goal.returns-then-left-eq0
returns-then-left-eq0 c =
    let found = λ (k : ℕ). slice_get (filter (is_section_named c.args.name.now) (drop c.loop-item.item-index c.args.items.now)) k in
    reached (is_section_named c.args.name.now) c.args.items.now c.loop-item.item-index c.args.number c.item-item.result (omega arith) c.item-item.is
    (sym c.section.ensures ∙ c.if-not-section.false)
    (subst (λ (k : ℕ). found k ≡ slice_get (filter (is_section_named c.args.name.now) c.args.items.now) c.args.number) c.if-left-eq0.true c.loop-item.invariant)

pub returns : goal.returns
returns c = none_left (is_section_named c.args.name.now) c.args.items.now c.loop-item.item-index c.args.number c.loop-item.left (omega arith) c.loop-item.invariant
