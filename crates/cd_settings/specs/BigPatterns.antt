-- Where the reading of a configuration comes to a pattern of the grammar. One that is too big when it is compiled is a
-- bad pattern too, and its text doesn't tell that.
use Rattle.cd_chain.specs.declared.data.Chain.{Chain}
use Rattle.cd_chain.specs.declared.data.Rule.{Rule}
use Rattle.cd_conf.specs.Parts.{args_of, children_of, line_of}
use Rattle.cd_conf.specs.declared.item.Arg.TheVariants.{Words}
use Rattle.cd_conf.specs.declared.item.Arg.{Arg}
use Rattle.cd_conf.specs.declared.item.Item.{Item}
use Rattle.cd_pattern.specs.Patterns.{is_pattern}
use Rattle.cd_settings.specs.ChainOptions.{chain_options, named, no_parts, rule_options}
use Rattle.cd_settings.specs.Faults.{settings_fault}
use Rattle.cd_settings.specs.Forms.{perhaps_text, text}
use Rattle.cd_settings.specs.MatchOptions.{no_patterns, regex_options}
use Rattle.cd_settings.specs.Tables.{Row, by_table, by_table_or, has_key, is_section_named}
use Rattle.cd_settings.specs.TargetOptions.{no_replaces, replace_options}
use Rattle.cd_settings.specs.TopLevel.{beginning, chain_sections, within_top}
use Rattle.cd_settings.specs.declared.configuration.Configuration.{Configuration}
use Rattle.cd_settings.specs.declared.fault.ItemFault.TheVariants.{Fault, NotCompiled}
use Rattle.cd_settings.specs.declared.fault.ItemFault.{ItemFault}
use Rattle.cd_settings.specs.declared.fault.SettingsFault.{SettingsFault}
use Rattle.cd_settings.specs.declared.fault.SettingsKind.TheVariants.{BadPattern}
use Rattle.cd_settings.specs.declared.fault.SettingsKind.{SettingsKind}
use Rattle.std.specs.List.{list_any}
use Rattle.std.specs.Prelude.{Bool, Err, IsTrue, List, None, Ok, Option, Result, Some, [], codes, false, if◌then◌else◌, is_ok, ℕ, ◌&&◌, ◌++◌, ◌==◌, ◌∷◌, ◌≡◌}
use Rattle.std.specs.Str.{bytes_eq}

-- ---- items one after the other

-- what there is behind an item, unless it is a fault
abbrev pub behind : {S : Type 0} → Result S SettingsFault → (S → List ℕ) → List ℕ
behind (Ok s) lines = lines s
behind (Err fault) lines = []

-- The lines of the patterns that the reading of items comes to, by those of an item: it comes to none behind the first
-- fault.
unfoldable pub lines_of_all : {S : Type 0} →
    (S → Item → Result S SettingsFault) → (S → Item → List ℕ) → S → List Item → List ℕ
lines_of_all change lines s [] = []
lines_of_all change lines s (item ∷ items) =
    lines s item ++ behind (change s item) (λ changed. lines_of_all change lines changed items)

-- ---- the options of a match "regex" and of a target "replace"

-- the first value is a text that is a pattern
abbrev pub begins_with_pattern : List Arg → Bool
begins_with_pattern (Words t ∷ args) = is_pattern t
begins_with_pattern _ = false

-- the line of an option that is in order and begins with a pattern
abbrev pub option_line : {S : Type 0} → Item → Result S SettingsFault → List ℕ
option_line item changed =
    if begins_with_pattern (args_of item) && is_ok changed then line_of item ∷ [] else []

abbrev pub option_lines : {S : Type 0} → List (Row S) → S → Item → List ℕ
option_lines rows s item = option_line item (by_table rows s item)

abbrev pub regex_lines : Item → List ℕ
regex_lines item = lines_of_all (by_table regex_options) (option_lines regex_options) no_patterns (children_of item)

abbrev pub replace_lines : Item → List ℕ
replace_lines item =
    lines_of_all (by_table replace_options) (option_lines replace_options) no_replaces (children_of item)

-- ---- the sections in which they stand; in others there is no pattern

abbrev pub match_lines : List ℕ → Item → List ℕ
match_lines kind item = if bytes_eq kind (codes "regex") then regex_lines item else []

abbrev pub target_lines : List ℕ → Item → List ℕ
target_lines kind item = if bytes_eq kind (codes "replace") then replace_lines item else []

-- what there is in an item whose values are of a form
abbrev pub lines_given : {A : Type 0} → Option A → (A → Item → List ℕ) → Item → List ℕ
lines_given None lines item = []
lines_given (Some x) lines item = lines x item

abbrev pub rule_item_lines : Rule → Item → List ℕ
rule_item_lines rule item =
    if has_key (codes "Match") item then lines_given (text (args_of item)) match_lines item
    else (if has_key (codes "Target") item then lines_given (text (args_of item)) target_lines item
    else [])

abbrev pub rule_lines : Item → List ℕ
rule_lines item = lines_of_all (by_table rule_options) rule_item_lines no_parts (children_of item)

abbrev pub chain_item_lines : Chain → Item → List ℕ
chain_item_lines chain item =
    if is_section_named (codes "Rule") item
    then lines_given (perhaps_text (args_of item)) (λ _ item. rule_lines item) item
    else (if has_key (codes "Target") item then lines_given (text (args_of item)) target_lines item
    else [])

abbrev pub chain_lines : List ℕ → Item → List ℕ
chain_lines name item = lines_of_all (by_table chain_options) chain_item_lines (named name) (children_of item)

abbrev pub top_item_lines : Configuration → Item → List ℕ
top_item_lines c item =
    if is_section_named (codes "Chain") item then lines_given (text (args_of item)) chain_lines item else []

-- ---- the whole

-- The lines of the patterns that the reading of a configuration comes to: all items before such an option are in order,
-- the option is, and its text is a pattern.
abbrev pub pattern_lines : List Item → List ℕ
pattern_lines items = lines_of_all (by_table_or within_top chain_sections) top_item_lines beginning items

abbrev pub has_line : List ℕ → ℕ → Bool
has_line lines line = list_any (λ other. other == line) lines

abbrev pub has_pattern_at : List Item → ℕ → Bool
has_pattern_at items = has_line (pattern_lines items)

-- ---- the answer that is free

abbrev pub bad_pattern : ℕ → SettingsFault
bad_pattern line = record { kind = BadPattern; line = line }

-- the fault of an item: none for want of memory, nor for a pattern that wasn't compiled at one of these lines
abbrev pub item_fault : List ℕ → ItemFault → Option SettingsFault
item_fault free (Fault fault) = settings_fault fault
item_fault free (NotCompiled line) = if has_line free line then None else Some (bad_pattern line)

-- the fault of the items: a pattern that wasn't compiled is a bad one
abbrev pub as_settings_fault : ItemFault → SettingsFault
as_settings_fault (Fault fault) = fault
as_settings_fault (NotCompiled line) = bad_pattern line

abbrev pub unless_free : List ℕ → SettingsKind → SettingsFault → Option SettingsFault
unless_free free BadPattern fault = if has_line free fault.line then None else Some fault
unless_free free _ fault = settings_fault fault

-- the fault of items: none for want of memory, nor for a bad pattern where their reading comes to a pattern
abbrev pub told_of : List Item → SettingsFault → Option SettingsFault
told_of items fault = unless_free (pattern_lines items) fault.kind fault

-- a bad pattern at the line of a pattern to which the reading comes: it may be too big when it is compiled
abbrev pub MayBeTooBig : List Item → SettingsFault → Type 0
MayBeTooBig items fault = (fault.kind ≡ BadPattern) × IsTrue (has_pattern_at items fault.line)
