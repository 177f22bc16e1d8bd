use Rattle.std.proofs.Common.{drop, ◌≡◌}
use Rattle.std.specs.List.{find}
use Rattle.cd_settings.specs.ChainLines.{jumps_to, targets_in_rules}
use Rattle.cd_settings.proofs.chain_lines.jump_in_rules.Given as goal

abbrev pub invariant-loop-item : goal.invariant-loop-item
invariant-loop-item l = find (jumps_to l.name) (targets_in_rules (drop l.item-index l.items)) ≡ find (jumps_to l.name) (targets_in_rules l.items)
