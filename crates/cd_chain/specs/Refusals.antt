-- When a table is refused.
use Rattle.cd_chain.specs.Tables.{fault_of, jump_table, name_at}
use Rattle.cd_chain.specs.declared.data.Chain.{Chain}
use Rattle.cd_chain.specs.declared.data.ChainFault.TheVariants as faults
use Rattle.cd_chain.specs.declared.data.ChainFault.{ChainFault}
use Rattle.cd_walks.specs.Walks.{IsLeastCycle}
use Rattle.std.specs.Prelude.{List, Some, map, ℕ, ◌≡◌}

-- it is the table's fault, unless memory was lacking
abbrev pub IsFaultOf : List Chain → ChainFault → Type 0
IsFaultOf table faults.Memory = Unit {0}
IsFaultOf table why = fault_of table ≡ Some why

-- a cycle is told by the names of the chains on the least walk from a chain to itself
abbrev pub TellsLeastWalk : List Chain → ChainFault → Type 0
TellsLeastWalk table (faults.JumpCycle names) =
    (walk : List ℕ) × (names ≡ map (name_at table) walk)
    × (chain : ℕ) × (n : ℕ) × IsLeastCycle (jump_table table) chain n walk
TellsLeastWalk table _ = Unit {0}
