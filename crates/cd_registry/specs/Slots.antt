-- What contracts see of the registry's own data. `plug` and `probe` are what an object of either kind tells.
use Rattle.cd_registry.specs.Rows.{Row, is_plug_home}
use Rattle.cd_registry.specs.declared.member.MemberOf.TheVariants as member
use Rattle.cd_registry.specs.declared.member.MemberOf.{MemberOf}
use Rattle.cd_registry.specs.declared.place.Place.TheVariants.{PlugHome, PlugOut, ProbeHome, ProbeOut, Retired}
use Rattle.cd_registry.specs.declared.place.Place.{Place}
use Rattle.cd_registry.specs.declared.plug.PlugTells.{PlugTells}
use Rattle.cd_registry.specs.declared.probe.ProbeTells.{ProbeTells}
use Rattle.cd_registry.specs.declared.slot.Slot.{Slot}
use Rattle.std.specs.Prelude.{Bool, List, bit_and, false, length, nat_eq, not, true, ℕ, ◌&&◌, ◌-◌, ◌==◌}
use Rattle.std.specs.Str.{bytes_eq}
use Rattle.std.specs.VecDeque.{deque_capacity, deque_len}

module _ {P Q : Type 0} (plug : P → PlugTells) (probe : Q → ProbeTells) where
  -- what a member tells
  abbrev pub member_tells : MemberOf P Q → MemberOf PlugTells ProbeTells
  member_tells (member.Plug object) = member.Plug (plug object)
  member_tells (member.Probe object) = member.Probe (probe object)

  -- where an object is, with what it tells in place of the object
  abbrev pub place_tells : Place P Q → Place PlugTells ProbeTells
  place_tells (PlugHome object) = PlugHome (plug object)
  place_tells (ProbeHome object) = ProbeHome (probe object)
  place_tells (PlugOut actor) = PlugOut actor
  place_tells (ProbeOut actor) = ProbeOut actor
  place_tells Retired = Retired

  -- the row of a slot
  abbrev pub row_of : Slot P Q → Row
  row_of slot = record {
    name = slot.name;
    kinds = slot.kinds.0;
    live = slot.live;
    place = place_tells slot.place;
    waiting = slot.waiting.items;
  }

-- a slot is live and has this name, by its own data
abbrev pub is_slot_live_as : {P Q : Type 0} → List ℕ → Slot P Q → Bool
is_slot_live_as name slot = slot.live && bytes_eq slot.name name

-- it has all of these kinds
abbrev pub has_slot_kinds : {P Q : Type 0} → ℕ → Slot P Q → Bool
has_slot_kinds kinds slot = bit_and slot.kinds.0 kinds == kinds

-- what is at home is read
abbrev pub is_probe_home : {P Q : Type 0} → Place P Q → Bool
is_probe_home (PlugHome object) = false
is_probe_home (ProbeHome object) = true
is_probe_home (PlugOut actor) = false
is_probe_home (ProbeOut actor) = false
is_probe_home Retired = false

-- it is ready
abbrev pub is_slot_ready : {P Q : Type 0} → Slot P Q → Bool
is_slot_ready slot = is_plug_home slot.place && not (nat_eq (length slot.waiting.items) 0)

-- for how many more calls a slot has room
abbrev pub slot_spare : {P Q : Type 0} → Slot P Q → ℕ
slot_spare slot = deque_capacity slot.waiting - deque_len slot.waiting
