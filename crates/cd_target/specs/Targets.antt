-- What the targets "set" and "replace" make of a value list.
use Rattle.cd_pattern.specs.Fields.{field_of}
use Rattle.cd_pattern.specs.Patterns.{first_found}
use Rattle.cd_pattern.specs.declared.field.Field.TheVariants.{Host, Plugin, PluginInstance, TypeInstance, TypeName}
use Rattle.cd_pattern.specs.declared.field.Field.{Field}
use Rattle.cd_target.specs.Placeholders.{substituted}
use Rattle.cd_target.specs.declared.target.Replacing.{Replacing}
use Rattle.cd_target.specs.declared.target.Target.TheVariants.{Replace, Set}
use Rattle.cd_target.specs.declared.target.Target.{Target}
use Rattle.cd_value.specs.Clean.{clean_field, field_or_old}
use Rattle.cd_value.specs.Identifier.{Fields}
use Rattle.cd_value.specs.declared.data.ValueList.{ValueList}
use Rattle.std.specs.List.{find, fold, list_any}
use Rattle.std.specs.Option.{option_map_or}
use Rattle.std.specs.Prelude.{Bool, List, None, Option, Some, drop, false, if◌then◌else◌, option_map, reverse, take, true, ℕ, ◌++◌, ◌≡◌}

abbrev pub is_same : Field → Field → Bool
is_same Host Host = true
is_same Plugin Plugin = true
is_same PluginInstance PluginInstance = true
is_same TypeName TypeName = true
is_same TypeInstance TypeInstance = true
is_same _ _ = false

-- "set": the text of the last option on the field, with its placeholders filled
abbrev pub set_text : List (Field × List ℕ) → Field → Fields → Option (List ℕ)
set_text options field id =
    option_map (λ option. substituted id option.1)
    (find (λ option. is_same option.0 field) (reverse options))

-- a text with the first match of the option's pattern replaced
abbrev pub replaced_once : List ℕ → Replacing → List ℕ
replaced_once text option =
    option_map_or (λ place. take place.0 text ++ option.with ++ drop place.1 text)
    (first_found option.pattern text) text

-- the same where the option is on the field
abbrev pub replaced_on : Field → List ℕ → Replacing → List ℕ
replaced_on field text option =
    if is_same option.field field then replaced_once text option else text

-- "replace": the field after the options on it, one after the other
abbrev pub replaced_text : List Replacing → Field → Fields → Option (List ℕ)
replaced_text options field id =
    if list_any (λ option. is_same option.field field) options
    then Some (fold (replaced_on field) (field_of field id) options)
    else None

-- the text that a target gives a field, or none
abbrev pub text_of : Target → Field → Fields → Option (List ℕ)
text_of (Set options) field id = set_text options field id
text_of (Replace options) field id = replaced_text options field id
text_of _ field id = None

-- what a text makes of a field: host and plugin may not be empty, only the type instance may have a
-- slash, and the type never changes
abbrev pub cleaned : Field → Fields → List ℕ → List ℕ
cleaned Host id text = field_or_old true id.host (clean_field true text)
cleaned Plugin id text = field_or_old true id.plugin (clean_field true text)
cleaned PluginInstance id text = clean_field true text
cleaned TypeName id text = id.type_name
cleaned TypeInstance id text = clean_field false text

-- a field after a target
abbrev pub rewritten_field : Target → Field → Fields → List ℕ
rewritten_field target field id =
    option_map_or (cleaned field id) (text_of target field id) (field_of field id)

-- the identifier after a target
abbrev pub rewritten_fields : Target → Fields → Fields
rewritten_fields target id = record {
  host = rewritten_field target Host id;
  plugin = rewritten_field target Plugin id;
  plugin_instance = rewritten_field target PluginInstance id;
  type_name = id.type_name;
  type_instance = rewritten_field target TypeInstance id;
}

-- the list after a target
abbrev pub rewritten : Target → ValueList → ValueList
rewritten target list = record list { id = rewritten_fields target list.id }

-- another list has the type, the time, the interval and the values of the first
pub record Keeps (old new : ValueList) : Type 0 where
  pub type_name : new.id.type_name ≡ old.id.type_name
  pub time : new.time ≡ old.time
  pub interval : new.interval ≡ old.interval
  pub values : new.values ≡ old.values
