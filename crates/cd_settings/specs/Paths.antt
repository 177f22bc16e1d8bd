-- The files of types that a configuration names.
use Rattle.cd_conf.specs.Parts.{args_of}
use Rattle.cd_conf.specs.declared.item.Item.{Item}
use Rattle.cd_settings.specs.Forms.{texts_among}
use Rattle.cd_settings.specs.Tables.{is_option_named}
use Rattle.std.specs.List.{flat_map}
use Rattle.std.specs.Prelude.{List, [], codes, if◌then◌else◌, ℕ}

abbrev pub paths_in : Item → List (List ℕ)
paths_in item = if is_option_named (codes "TypesDB") item then texts_among (args_of item) else []

-- the texts of the options `TypesDB`, in order
abbrev pub paths_of : List Item → List (List ℕ)
paths_of items = flat_map paths_in items
