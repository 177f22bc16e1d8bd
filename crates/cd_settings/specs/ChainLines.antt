-- The faults of the chains of a configuration, and their lines.
use Rattle.cd_chain.specs.Tables.{fault_of}
use Rattle.cd_chain.specs.declared.data.Chain.{Chain}
use Rattle.cd_chain.specs.declared.data.ChainFault.TheVariants as faults
use Rattle.cd_chain.specs.declared.data.ChainFault.{ChainFault}
use Rattle.cd_conf.specs.Parts.{args_of, children_of, line_of}
use Rattle.cd_conf.specs.declared.item.Arg.TheVariants.{Words}
use Rattle.cd_conf.specs.declared.item.Arg.{Arg}
use Rattle.cd_conf.specs.declared.item.Item.{Item}
use Rattle.cd_settings.specs.Tables.{has_key, is_option_named, is_section_named}
use Rattle.cd_settings.specs.declared.fault.SettingsFault.{SettingsFault}
use Rattle.cd_settings.specs.declared.fault.SettingsKind.TheVariants as kinds
use Rattle.cd_settings.specs.declared.fault.SettingsKind.{SettingsKind}
use Rattle.std.specs.List.{filter, find, flat_map, list_any}
use Rattle.std.specs.Option.{option_map_or}
use Rattle.std.specs.Prelude.{Bool, Err, List, None, Ok, Option, Result, Some, [], codes, false, slice_get, ℕ, ◌&&◌, ◌++◌, ◌∷◌}
use Rattle.std.specs.Str.{bytes_eq}

-- ---- the items that make chains, rules and jumps

-- the section of a number among those of a name
abbrev pub section_at : List ℕ → List Item → ℕ → Option Item
section_at name items n = slice_get (filter (is_section_named name) items) n

abbrev pub inside : Option Item → List Item
inside item = option_map_or children_of item []

abbrev pub line_in : Option Item → ℕ
line_in item = option_map_or line_of item 0

-- the only value is that text
abbrev pub is_text_of : List ℕ → List Arg → Bool
is_text_of t (Words x ∷ []) = bytes_eq x t
is_text_of t _ = false

-- the section of a chain of that name
abbrev pub is_chain_named : List ℕ → Item → Bool
is_chain_named name item = is_section_named (codes "Chain") item && is_text_of name (args_of item)

-- an option that names the chain
abbrev pub names_chain : List ℕ → Item → Bool
names_chain name item = is_option_named (codes "Chain") item && is_text_of name (args_of item)

-- a target that jumps to the chain
abbrev pub jumps_to : List ℕ → Item → Bool
jumps_to name item =
    has_key (codes "Target") item && is_text_of (codes "jump") (args_of item)
    && list_any (names_chain name) (children_of item)

-- what stands in rules, and in a chain: what stands in its rules, and then what stands in itself
abbrev pub targets_in_rules : List Item → List Item
targets_in_rules items = flat_map children_of (filter (is_section_named (codes "Rule")) items)

abbrev pub targets_in : List Item → List Item
targets_in items = targets_in_rules items ++ items

-- the first jump from one chain to another
abbrev pub jump_in : List Item → List ℕ → Option Item
jump_in items name = find (jumps_to name) (targets_in items)

-- ---- the line of each fault

abbrev pub chain_at : List Item → ℕ → Option Item
chain_at items n = section_at (codes "Chain") items n

-- the jump from the first to the second of a walk
abbrev pub walk_line : List Item → List (List ℕ) → ℕ
walk_line items (first ∷ second ∷ more) =
    line_in (jump_in (inside (find (is_chain_named first) items)) second)
walk_line items _ = 0

-- the second chain of a name, the rule, the jump, the chain, the jump that begins the walk
abbrev pub line_of_fault : List Item → ChainFault → ℕ
line_of_fault items (faults.Duplicate n) = line_in (chain_at items n)
line_of_fault items (faults.EmptyRule n r) = line_in (section_at (codes "Rule") (inside (chain_at items n)) r)
line_of_fault items (faults.UnknownChain n name) = line_in (jump_in (inside (chain_at items n)) name)
line_of_fault items (faults.TooHeavy n) = line_in (chain_at items n)
line_of_fault items (faults.JumpCycle names) = walk_line items names
line_of_fault items faults.Memory = 0

-- the fault of a table is told as it is, and want of memory as everywhere
abbrev pub kind_of_fault : ChainFault → SettingsKind
kind_of_fault faults.Memory = kinds.Memory
kind_of_fault why = kinds.Chain why

abbrev pub chain_fault : List Item → ChainFault → SettingsFault
chain_fault items why = record { kind = kind_of_fault why; line = line_of_fault items why }

abbrev pub refused_for : List Item → List Chain → Option ChainFault → Result (List Chain) SettingsFault
refused_for items chains None = Ok chains
refused_for items chains (Some why) = Err (chain_fault items why)

-- chains without a fault
abbrev pub accepted : List Item → List Chain → Result (List Chain) SettingsFault
accepted items chains = refused_for items chains (fault_of chains)
