-- The fields in force as they are carried forward.
use Rattle.cd_net.specs.InForce.{InForce, is_interval, is_time, units_of}
use Rattle.cd_net.specs.Payload.{payload_number, payload_text}
use Rattle.cd_net.specs.Refusals.{set_in_force}
use Rattle.cd_net.specs.declared.carried.Carried.{Carried}
use Rattle.cd_net.specs.declared.carried.CleanTexts.{CleanTexts}
use Rattle.cd_net.specs.declared.field.Field.{Field}
use Rattle.cd_net.specs.declared.numbers.TheConstants.{HOST, INTERVAL, PLUGIN, PLUGIN_INSTANCE, SEVERITY, TIME, TYPE, TYPE_INSTANCE}
use Rattle.cd_value.specs.Identifier.{Fields}
use Rattle.cd_value.specs.declared.data.DataSet.{DataSet}
use Rattle.std.specs.Prelude.{List, Option, if◌then◌else◌, option_map, ℕ, ◌==◌}

-- the text of a field, if it is one
abbrev pub text_in : Option Field → Option (List ℕ)
text_in field = option_map (λ f. f.text.now) field

-- what carried fields say
abbrev pub shown : Carried → InForce
shown fields = record {
  host = text_in fields.host;
  plugin = text_in fields.plugin;
  plugin_instance = text_in fields.plugin_instance;
  type_name = text_in fields.type_name;
  type_instance = text_in fields.type_instance;
  time = fields.time;
  interval = fields.interval;
  severity = fields.severity;
}

-- copied texts, as the fields of an identifier
abbrev pub as_fields : CleanTexts → Fields
as_fields texts = record {
  host = texts.host;
  plugin = texts.plugin;
  plugin_instance = texts.plugin_instance;
  type_name = texts.type_name;
  type_instance = texts.type_instance;
}

-- the text of a payload, if the part is of the field's kind, and else the text before
abbrev pub text_or : ℕ → ℕ → List ℕ → Option (List ℕ) → Option (List ℕ)
text_or own kind payload text = if kind == own then payload_text payload else text

-- the fields in force behind a part
unfoldable pub with_field : ℕ → List ℕ → InForce → InForce
with_field kind payload fields = record {
  host = text_or HOST kind payload fields.host;
  plugin = text_or PLUGIN kind payload fields.plugin;
  plugin_instance = text_or PLUGIN_INSTANCE kind payload fields.plugin_instance;
  type_name = text_or TYPE kind payload fields.type_name;
  type_instance = text_or TYPE_INSTANCE kind payload fields.type_instance;
  time = if is_time kind then units_of TIME kind payload else fields.time;
  interval = if is_interval kind then units_of INTERVAL kind payload else fields.interval;
  severity = if kind == SEVERITY then payload_number payload else fields.severity;
}

-- the data set of the type in force behind a part, from the one before it
abbrev pub set_behind : List DataSet → ℕ → InForce → Option DataSet → Option DataSet
set_behind types kind fields set = if kind == TYPE then set_in_force types fields else set
