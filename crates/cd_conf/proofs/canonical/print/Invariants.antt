use Rattle.cd_conf.proofs.canonical.print.Given as goal
use Rattle.cd_conf.specs.Canonical.{items_text}
use Rattle.std.proofs.Common.{take, ◌≡◌}

abbrev pub invariant-loop-item : goal.invariant-loop-item
invariant-loop-item l = l.out ≡ items_text (take l.item-index l.item-items)
