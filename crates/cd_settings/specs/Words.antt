-- What is said of each fault of items.
use Rattle.cd_chain.specs.declared.data.ChainFault.TheVariants as faults
use Rattle.cd_chain.specs.declared.data.ChainFault.{ChainFault}
use Rattle.cd_settings.specs.declared.fault.SettingsKind.TheVariants.{BadPattern, Chain, LimitsCrossed, Memory, TooMany, UnknownOption, WrongArgs}
use Rattle.cd_settings.specs.declared.fault.SettingsKind.{SettingsKind}
use Rattle.std.specs.List.{flat_map}
use Rattle.std.specs.Prelude.{List, [], codes, ℕ, ◌++◌, ◌∷◌}

-- names with commas between
abbrev pub joined : List (List ℕ) → List ℕ
joined [] = []
joined (first ∷ more) = first ++ flat_map (λ name. codes ", " ++ name) more

-- what is said of the fault of a table of chains
abbrev pub chain_words : ChainFault → List ℕ
chain_words (faults.Duplicate n) = codes "duplicate chain"
chain_words (faults.EmptyRule n r) = codes "empty rule"
chain_words (faults.UnknownChain n name) = codes "unknown chain"
chain_words (faults.JumpCycle names) = codes "jump cycle " ++ joined names
chain_words (faults.TooHeavy n) = codes "chain too heavy"
chain_words faults.Memory = codes "out of memory"

abbrev pub settings_words : SettingsKind → List ℕ
settings_words UnknownOption = codes "unknown option"
settings_words WrongArgs = codes "wrong arguments"
settings_words BadPattern = codes "bad pattern"
settings_words (Chain why) = chain_words why
settings_words LimitsCrossed = codes "limits crossed"
settings_words TooMany = codes "too many"
settings_words Memory = codes "out of memory"
