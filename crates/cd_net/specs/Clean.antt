-- How the texts of a packet are made fit to be fields.
use Rattle.cd_value.specs.Clean.{clean_byte}
use Rattle.cd_value.specs.Identifier.{is_control, is_slash}
use Rattle.std.specs.Prelude.{Bool, List, map, ℕ, ◌&&◌, ◌||◌}

-- control characters become `_`, and slashes too where there may be none
abbrev pub cleaned : Bool → List ℕ → List ℕ
cleaned slash text = map (clean_byte slash) text

-- a byte for which `_` stands then
abbrev pub is_replaced : Bool → ℕ → Bool
is_replaced slash byte = is_control byte || (slash && is_slash byte)
