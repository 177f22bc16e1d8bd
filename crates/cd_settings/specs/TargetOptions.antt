-- The options of the targets of filter chains, and what a target needs of them.
use Rattle.cd_conf.specs.Parts.{children_of}
use Rattle.cd_conf.specs.declared.item.Item.{Item}
use Rattle.cd_pattern.specs.declared.field.Field.TheVariants.{Host, Plugin, PluginInstance, TypeInstance}
use Rattle.cd_pattern.specs.declared.field.Field.{Field}
use Rattle.cd_reading.specs.First.{◌>>=◌}
use Rattle.cd_settings.specs.Faults.{at}
use Rattle.cd_settings.specs.Forms.{filled, severity, text, two_texts}
use Rattle.cd_settings.specs.MatchOptions.{pattern_of}
use Rattle.cd_settings.specs.PluginOptions.{childless}
use Rattle.cd_settings.specs.Tables.{Row, after_all, by_table, needs, option, option_of}
use Rattle.cd_settings.specs.declared.fault.SettingsFault.{SettingsFault}
use Rattle.cd_settings.specs.declared.fault.SettingsKind.TheVariants.{UnknownOption, WrongArgs}
use Rattle.cd_settings.specs.declared.targets.JumpOptions.{JumpOptions}
use Rattle.cd_settings.specs.declared.targets.NoticeOptions.{NoticeOptions}
use Rattle.cd_settings.specs.declared.targets.ReplaceOptions.{ReplaceOptions}
use Rattle.cd_settings.specs.declared.targets.SetOptions.{SetOptions}
use Rattle.cd_settings.specs.declared.targets.WriteOptions.{WriteOptions}
use Rattle.cd_target.specs.declared.target.Target.TheVariants as targets
use Rattle.cd_target.specs.declared.target.Target.{Target}
use Rattle.cd_value.specs.declared.data.Severity.TheVariants.{Warning}
use Rattle.std.specs.Prelude.{Bool, Err, List, None, Ok, Option, Result, Some, [], codes, false, if◌then◌else◌, is_some, length, not, ℕ, ◌++◌, ◌==◌, ◌∷◌}
use Rattle.std.specs.Str.{bytes_eq}

-- ---- return and stop: nothing

abbrev pub bare : Target → Item → Result Target SettingsFault
bare target item = childless (children_of item) >>= λ _. Ok target

-- ---- write: any number of plug-ins

abbrev pub write_options : List (Row WriteOptions)
write_options = option "Plugin" text (λ w x. record w { names = w.names ++ x ∷ [] }) ∷ []

abbrev pub write_of : Item → Result Target SettingsFault
write_of item =
    after_all (by_table write_options) (record { names = [] }) (children_of item)
    >>= λ w. Ok (targets.Write w.names)

-- ---- jump: one chain, once

abbrev pub jump_options : List (Row JumpOptions)
jump_options = option "Chain" text (λ j x. record { chain = Some x; repeated = is_some j.chain }) ∷ []

abbrev pub jump_once : Option (List ℕ) → Bool → Item → Result Target SettingsFault
jump_once (Some chain) false item = Ok (targets.Jump chain)
jump_once _ _ item = Err (at WrongArgs item)

abbrev pub jump_of : Item → Result Target SettingsFault
jump_of item =
    after_all (by_table jump_options) (record { chain = None; repeated = false }) (children_of item)
    >>= λ j. jump_once j.chain j.repeated item

-- ---- set: one field or more

abbrev pub with_set : Field → SetOptions → List ℕ → SetOptions
with_set field s x = record s { sets = s.sets ++ (field, x) ∷ [] }

abbrev pub set_options : List (Row SetOptions)
set_options =
    option "Host" filled (with_set Host)
    ∷ option "Plugin" filled (with_set Plugin)
    ∷ option "PluginInstance" text (with_set PluginInstance)
    ∷ option "TypeInstance" text (with_set TypeInstance)
    ∷ []

abbrev pub set_from : SetOptions → Item → Result Target SettingsFault
set_from s item = needs (not (length s.sets == 0)) item (targets.Set s.sets)

abbrev pub set_of : Item → Result Target SettingsFault
set_of item =
    after_all (by_table set_options) (record { sets = [] }) (children_of item)
    >>= λ s. set_from s item

-- ---- replace: one field or more, each with a pattern and what stands for what it finds

abbrev pub with_replacing : Field → ReplaceOptions → List ℕ × List ℕ → Item → Result ReplaceOptions SettingsFault
with_replacing field r x item =
    pattern_of item x.0 >>= λ pattern.
    Ok (record r { replaces = r.replaces ++ record { field = field; pattern = pattern; with = x.1 } ∷ [] })

abbrev pub replace_options : List (Row ReplaceOptions)
replace_options =
    option_of "Host" two_texts (with_replacing Host)
    ∷ option_of "Plugin" two_texts (with_replacing Plugin)
    ∷ option_of "PluginInstance" two_texts (with_replacing PluginInstance)
    ∷ option_of "TypeInstance" two_texts (with_replacing TypeInstance)
    ∷ []

abbrev pub replace_from : ReplaceOptions → Item → Result Target SettingsFault
replace_from r item = needs (not (length r.replaces == 0)) item (targets.Replace r.replaces)

abbrev pub no_replaces : ReplaceOptions
no_replaces = record { replaces = [] }

abbrev pub replace_of : Item → Result Target SettingsFault
replace_of item =
    after_all (by_table replace_options) no_replaces (children_of item)
    >>= λ r. replace_from r item

-- ---- notification: a message that isn't empty

abbrev pub notice_options : List (Row NoticeOptions)
notice_options =
    option "Message" filled (λ n x. record n { message = x })
    ∷ option "Severity" severity (λ n x. record n { severity = x })
    ∷ []

abbrev pub notice_from : NoticeOptions → Item → Result Target SettingsFault
notice_from n item = needs (not (length n.message == 0)) item (targets.Notification n.message n.severity)

abbrev pub notice_of : Item → Result Target SettingsFault
notice_of item =
    after_all (by_table notice_options) (record { message = []; severity = Warning }) (children_of item)
    >>= λ n. notice_from n item

-- ---- a target of a kind

abbrev pub target_of : List ℕ → Item → Result Target SettingsFault
target_of kind item =
    if bytes_eq kind (codes "return") then bare targets.Return item
    else (if bytes_eq kind (codes "stop") then bare targets.Stop item
    else (if bytes_eq kind (codes "write") then write_of item
    else (if bytes_eq kind (codes "jump") then jump_of item
    else (if bytes_eq kind (codes "set") then set_of item
    else (if bytes_eq kind (codes "replace") then replace_of item
    else (if bytes_eq kind (codes "notification") then notice_of item
    else Err (at UnknownOption item)))))))
