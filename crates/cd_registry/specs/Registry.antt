-- What contracts see of a registry: its rows, and for how many more calls of each registration there is room.
use Rattle.cd_registry.specs.Rows.{Row}
use Rattle.cd_registry.specs.Slots.{row_of, slot_spare}
use Rattle.cd_registry.specs.declared.plug.PlugTells.{PlugTells}
use Rattle.cd_registry.specs.declared.probe.ProbeTells.{ProbeTells}
use Rattle.cd_registry.specs.declared.registry.Registry.{Registry}
use Rattle.std.specs.Prelude.{List, if◌then◌else◌, map, nat_eq, slice_index, ℕ, ◌+◌, ◌≢◌, ◌≤◌}

-- its rows, by what the objects tell
abbrev pub rows : {P Q : Type 0} → (P → PlugTells) → (Q → ProbeTells) → Registry P Q → List Row
rows plug probe registry = map (row_of plug probe) registry.slots.items

-- for how many more calls of a registration there is room
abbrev pub spare_of : {P Q : Type 0} → Registry P Q → ℕ → ℕ
spare_of registry reg = slice_index (map slot_spare registry.slots.items) reg

-- room is used for so many calls of one registration at most, and for none of another
abbrev pub UsesRoom : {P Q : Type 0} → ℕ → ℕ → Registry P Q → Registry P Q → Type 0
UsesRoom reg used old new = (n : ℕ) → spare_of old n ≤ spare_of new n + (if nat_eq n reg then used else 0)

-- no room is used
abbrev pub KeepsRoom : {P Q : Type 0} → Registry P Q → Registry P Q → Type 0
KeepsRoom old new = (n : ℕ) → spare_of old n ≤ spare_of new n

-- no room of other registrations is used
abbrev pub KeepsOtherRoom : {P Q : Type 0} → ℕ → Registry P Q → Registry P Q → Type 0
KeepsOtherRoom reg old new = (n : ℕ) → n ≢ reg → spare_of old n ≤ spare_of new n
