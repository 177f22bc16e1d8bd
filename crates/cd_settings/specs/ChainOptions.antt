-- The sections of filter chains, as in collectd.conf(5), "Filter configuration".
use Rattle.cd_chain.specs.declared.data.Chain.{Chain}
use Rattle.cd_chain.specs.declared.data.Rule.{Rule}
use Rattle.cd_conf.specs.Parts.{children_of}
use Rattle.cd_conf.specs.declared.item.Item.{Item}
use Rattle.cd_reading.specs.First.{◌>>=◌}
use Rattle.cd_settings.specs.Forms.{perhaps_text, text}
use Rattle.cd_settings.specs.MatchOptions.{match_of}
use Rattle.cd_settings.specs.Tables.{Row, after_all, by_table, either, section}
use Rattle.cd_settings.specs.TargetOptions.{target_of}
use Rattle.cd_settings.specs.declared.fault.SettingsFault.{SettingsFault}
use Rattle.std.specs.Prelude.{List, Ok, Result, [], ℕ, ◌++◌, ◌∷◌}

-- ---- a rule: matches and targets in any order, each a section or an option with the text of its kind

abbrev pub with_match : Rule → List ℕ → Item → Result Rule SettingsFault
with_match rule kind item =
    match_of kind item >>= λ test. Ok (record rule { matches = rule.matches ++ test ∷ [] })

abbrev pub with_target : Rule → List ℕ → Item → Result Rule SettingsFault
with_target rule kind item =
    target_of kind item >>= λ target. Ok (record rule { targets = rule.targets ++ target ∷ [] })

abbrev pub rule_options : List (Row Rule)
rule_options =
    either "Match" text with_match
    ∷ either "Target" text with_target
    ∷ []

abbrev pub no_parts : Rule
no_parts = record { matches = []; targets = [] }

abbrev pub rule_of : Item → Result Rule SettingsFault
rule_of item = after_all (by_table rule_options) no_parts (children_of item)

-- ---- a chain: rules, which may have a name, and default targets, in any order

abbrev pub with_rule : Chain → Unit {0} → Item → Result Chain SettingsFault
with_rule chain named item =
    rule_of item >>= λ rule. Ok (record chain { rules = chain.rules ++ rule ∷ [] })

abbrev pub with_default : Chain → List ℕ → Item → Result Chain SettingsFault
with_default chain kind item =
    target_of kind item >>= λ target. Ok (record chain { defaults = chain.defaults ++ target ∷ [] })

abbrev pub chain_options : List (Row Chain)
chain_options =
    section "Rule" perhaps_text with_rule
    ∷ either "Target" text with_default
    ∷ []

abbrev pub named : List ℕ → Chain
named name = record { name = name; rules = []; defaults = [] }

abbrev pub chain_of : List ℕ → Item → Result Chain SettingsFault
chain_of name item = after_all (by_table chain_options) (named name) (children_of item)
