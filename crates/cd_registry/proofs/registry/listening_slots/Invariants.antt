-- the numbers so far and those of the rest are all
use Rattle.cd_registry.proofs.Places.{numbers_from}
use Rattle.cd_registry.proofs.registry.listening_slots.Given as goal
use Rattle.cd_registry.specs.Rows.{numbers_of}
use Rattle.cd_registry.specs.Slots.{has_slot_kinds}
use Rattle.std.proofs.Common.{drop, ◌&&◌, ◌++◌, ◌≡◌}

abbrev pub invariant-loop-at : goal.invariant-loop-at
invariant-loop-at g l =
    l.regs ++ numbers_from l.at (λ slot. slot.live && has_slot_kinds l.kinds.0 slot) (drop l.at l.slots)
    ≡ numbers_of (λ slot. slot.live && has_slot_kinds l.kinds.0 slot) l.slots
