use Rattle.cd_conf.proofs.Texts.{on_ok, whole}
use Rattle.cd_conf.proofs.canonical.+push_item.Goals as goal
use Rattle.cd_conf.specs.Canonical.{deeper, item_text}
use Rattle.cd_conf.specs.Parts.{children_of}
use Rattle.cd_conf.specs.declared.item.Item.{Item}
use Rattle.std.proofs.Common.{List, ap, arith, length, take, ◌++◌, ◌∙◌, ◌≡◌, ◌≤◌}
use Rattle.std.specs.List.{flat_map}

pub returns : goal.returns
returns t c =
    let inside : c.loop-child.out ≡ c.push_start.new.out ++ flat_map (λ child. item_text child (deeper c.args.indent.now)) (take c.loop-child.child-index (children_of c.args.item.now))
    = c.loop-child.invariant ∙ ap (λ (xs : List Item). c.push_start.new.out ++ flat_map (λ child. item_text child (deeper c.args.indent.now)) (take c.loop-child.child-index xs)) c.as_slice-child-items.ensures in
    let len : length (children_of c.args.item.now) ≤ c.loop-child.child-index = omega (arith, ap length c.as_slice-child-items.ensures) in
    on_ok c.push_end.result (whole c.args.item.now c.loop-child.child-index c.args.indent.now c.args.out.now c.push_start.new.out c.loop-child.out c.push_end.new.out c.if-not-item.false c.in_ok-push_start.ensures inside len) c.push_end.ensures
