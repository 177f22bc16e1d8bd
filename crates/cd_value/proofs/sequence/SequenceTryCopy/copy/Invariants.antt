use Rattle.cd_value.proofs.sequence.SequenceTryCopy.copy.Given as goal
use Rattle.std.proofs.Common.{take, ◌≡◌}

-- the copies so far are the values so far
abbrev pub invariant-loop-item : goal.invariant-loop-item
invariant-loop-item g l = l.items.items ≡ take l.item-index l.item-items
