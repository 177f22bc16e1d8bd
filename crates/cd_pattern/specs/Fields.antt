-- The fields of an identifier by their names.
use Rattle.cd_pattern.specs.declared.field.Field.TheVariants.{Host, Plugin, PluginInstance, TypeInstance, TypeName}
use Rattle.cd_pattern.specs.declared.field.Field.{Field}
use Rattle.cd_value.specs.Identifier.{Fields}
use Rattle.std.specs.Prelude.{List, ℕ}

abbrev pub field_of : Field → Fields → List ℕ
field_of Host id = id.host
field_of Plugin id = id.plugin
field_of PluginInstance id = id.plugin_instance
field_of TypeName id = id.type_name
field_of TypeInstance id = id.type_instance
