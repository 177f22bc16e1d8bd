-- An identifier as contracts see it, of its fields in the program.
use Rattle.cd_value.specs.Identifier.{Fields}
use Rattle.cd_value.specs.declared.identifier.Identifier.TheInside.{Inside}

abbrev pub fields : Inside → Fields
fields id = record {
  host = id.host;
  plugin = id.plugin;
  plugin_instance = id.plugin_instance;
  type_name = id.type_name;
  type_instance = id.type_instance;
}
