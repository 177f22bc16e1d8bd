use Rattle.cd_conf.proofs.canonical.+push_item.Given as goal
use Rattle.cd_conf.specs.Canonical.{deeper, item_text}
use Rattle.std.proofs.Common.{take, ◌++◌, ◌≡◌}
use Rattle.std.specs.List.{flat_map}

abbrev pub invariant-loop-child : goal.invariant-loop-child
invariant-loop-child l = l.out ≡ l.initial.out ++ flat_map (λ child. item_text child (deeper l.indent)) (take l.child-index l.child-items)
