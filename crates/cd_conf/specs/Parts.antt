-- The parts of an item.
use Rattle.cd_conf.specs.declared.item.Arg.{Arg}
use Rattle.cd_conf.specs.declared.item.Item.{Item, out-Item}
use Rattle.std.specs.Prelude.{Bool, List, ℕ}

abbrev pub key_of : Item → List ℕ
key_of item = (out-Item item).key

abbrev pub is_section : Item → Bool
is_section item = (out-Item item).section

abbrev pub args_of : Item → List Arg
args_of item = (out-Item item).args

abbrev pub children_of : Item → List Item
children_of item = (out-Item item).children

abbrev pub line_of : Item → ℕ
line_of item = (out-Item item).line
