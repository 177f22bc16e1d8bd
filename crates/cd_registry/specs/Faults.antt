-- What the registry refuses, by its rows.
use Rattle.cd_registry.specs.Rows.{Row, live_count, live_number}
use Rattle.cd_registry.specs.declared.faults.AddFault.TheVariants as add
use Rattle.cd_registry.specs.declared.faults.AddFault.{AddFault}
use Rattle.cd_registry.specs.declared.faults.RetireFault.TheVariants as retire
use Rattle.cd_registry.specs.declared.faults.RetireFault.{RetireFault}
use Rattle.cd_registry.specs.declared.faults.TheConstants.{LIVE_LIMIT}
use Rattle.cd_registry.specs.declared.place.Place.TheVariants.{PlugHome, PlugOut, ProbeHome, ProbeOut, Retired}
use Rattle.cd_registry.specs.declared.place.Place.{Place}
use Rattle.cd_value.specs.declared.memory.Refused.{Refused}
use Rattle.std.specs.List.{list_any}
use Rattle.std.specs.Prelude.{Bool, Err, List, None, Ok, Option, Result, Some, [], codes, if◌then◌else◌, length, nat_eq, nat_le, ℕ, ◌∷◌}
use Rattle.std.specs.Str.{bytes_eq}

-- the names of the daemon's own writers and listeners
abbrev pub is_reserved : List ℕ → Bool
is_reserved name = list_any (bytes_eq name) (codes "threshold" ∷ codes "unixsock" ∷ codes "network" ∷ [])

-- why no registration of that name may be added
abbrev pub add_fault : List ℕ → List Row → Option AddFault
add_fault name rows =
    if is_reserved name then Some add.Reserved
    else elim (live_number name rows) [
      | Some reg ↦ Some (add.NameTaken reg)
      | None ↦ if nat_le LIVE_LIMIT (live_count rows) then Some add.TableFull else None
    ]

-- the fault that an answer names; want of memory is none
abbrev pub named_fault : AddFault → Option AddFault
named_fault add.Reserved = Some add.Reserved
named_fault (add.NameTaken reg) = Some (add.NameTaken reg)
named_fault add.TableFull = Some add.TableFull
named_fault add.Memory = None

abbrev pub fault_of : {A B : Type 0} → Result A (Refused B AddFault) → Option AddFault
fault_of (Ok value) = None
fault_of (Err refused) = named_fault refused.why

-- why an object at home isn't handed out: so many calls wait
abbrev pub pending_fault : ℕ → Option RetireFault
pending_fault waiting = if nat_eq waiting 0 then None else Some (retire.Pending waiting)

-- why the object of a closed registration isn't handed out, by where it is and how many calls wait
abbrev pub closed_fault : {P Q : Type 0} → Place P Q → ℕ → Option RetireFault
closed_fault (PlugHome object) waiting = pending_fault waiting
closed_fault (ProbeHome object) waiting = pending_fault waiting
closed_fault (PlugOut actor) waiting = Some (retire.Out actor)
closed_fault (ProbeOut actor) waiting = Some (retire.Out actor)
closed_fault Retired waiting = Some retire.NotRegistered

abbrev pub row_fault : Row → Option RetireFault
row_fault row = if row.live then Some retire.NotRegistered else closed_fault row.place (length row.waiting)

-- why no object is handed out for the registration of a number
abbrev pub retire_fault : Option Row → Option RetireFault
retire_fault None = Some retire.NotRegistered
retire_fault (Some row) = row_fault row
