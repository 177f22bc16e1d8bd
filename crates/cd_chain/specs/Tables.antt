-- Which tables of chains are accepted, and why another is refused.
use Rattle.std.specs.Prelude.{ℕ, ◌+◌, Bool, ◌==◌, not, nat_lt, is_some, if◌then◌else◌, List, [], ◌∷◌, map, length, take, slice_get, position, Option, None, Some}
use Rattle.std.specs.List.{find, filter_map}
use Rattle.std.specs.Option.{option_map, option_or}
use Rattle.cd_chain.specs.declared.data.Chain.{Chain}
use Rattle.cd_chain.specs.declared.data.ChainFault.{ChainFault}
use Rattle.cd_chain.specs.declared.data.ChainFault.TheVariants as faults
use Rattle.cd_chain.specs.declared.weigh.TheConstants.{GREATEST_WEIGHT}
use Rattle.cd_target.specs.declared.target.Target.{Target}
use Rattle.cd_target.specs.declared.target.Target.TheVariants as targets
use Rattle.cd_chain.specs.Chains.{number_of, targets_of, weight}
use Rattle.cd_walks.specs.Walks.{cycle}

-- the chain to which a target jumps
abbrev pub jump_of : Target → Option (List ℕ)
jump_of (targets.Jump name) = Some name
jump_of _ = None

-- the names to which a chain jumps, rule by rule and then through its default targets
abbrev pub jumps_of : Chain → List (List ℕ)
jumps_of chain = filter_map jump_of (targets_of chain)

-- for each chain the numbers of the chains to which it jumps
abbrev pub jump_numbers : List Chain → Chain → List ℕ
jump_numbers table chain = filter_map (λ name. number_of name table) (jumps_of chain)

unfoldable pub jump_table : List Chain → List (List ℕ)
jump_table table = map (jump_numbers table) table

-- ---- faults

-- the first fault of numbered things
abbrev pub first_fault : {A : Type 0} → (ℕ → A → Option ChainFault) → ℕ → List A → Option ChainFault
first_fault fault n [] = None
first_fault fault n (x ∷ xs) = option_or (fault n x) (first_fault fault (n + 1) xs)

-- an earlier chain has the name
abbrev pub repeated : List Chain → ℕ → Chain → Option ChainFault
repeated table n chain = if is_some (number_of chain.name (take n table)) then Some (faults.Duplicate n) else None

-- a rule has no target
abbrev pub empty_rule : ℕ → Chain → Option ChainFault
empty_rule n chain = option_map (λ r. faults.EmptyRule n r) (position (λ rule. length rule.targets == 0) chain.rules)

-- a jump goes to no chain
abbrev pub unknown : List Chain → ℕ → Chain → Option ChainFault
unknown table n chain =
    option_map (λ name. faults.UnknownChain n name)
    (find (λ name. not (is_some (number_of name table))) (jumps_of chain))

abbrev pub name_at : List Chain → ℕ → List ℕ
name_at table n = elim (slice_get table n) [ None ↦ [] | Some chain ↦ chain.name ]

-- a chain reaches itself by jumps
unfoldable pub looped : List Chain → Option ChainFault
looped table = option_map (λ walk. faults.JumpCycle (map (name_at table) walk)) (cycle (jump_table table))

-- a chain weighs more than it may
abbrev pub heavy : List Chain → ℕ → Chain → Option ChainFault
heavy table n chain = if nat_lt GREATEST_WEIGHT (weight table chain.name) then Some (faults.TooHeavy n) else None

-- why a table is refused
abbrev pub fault_of : List Chain → Option ChainFault
fault_of table =
    option_or (first_fault (repeated table) 0 table)
    (option_or (first_fault empty_rule 0 table)
    (option_or (first_fault (unknown table) 0 table)
    (option_or (looped table)
    (first_fault (heavy table) 0 table))))

abbrev pub is_accepted : List Chain → Bool
is_accepted table = not (is_some (fault_of table))
