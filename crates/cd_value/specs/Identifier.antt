-- Which fields make an identifier, and which identifier a text is.
use Rattle.cd_value.specs.declared.identifier.IdFault.TheVariants.{BadIdentifier, FieldTooLong}
use Rattle.cd_value.specs.declared.identifier.IdFault.{IdFault}
use Rattle.cd_value.specs.declared.numbers.TheConstants.{FIELD_LIMIT}
use Rattle.std.specs.List.{after_first, before_first, list_all, list_any}
use Rattle.std.specs.Prelude.{Bool, Err, List, Ok, Result, [], count_by, false, if◌then◌else◌, length, nat_le, nat_lt, not, true, ℕ, ◌&&◌, ◌++◌, ◌==◌, ◌||◌, ◌∷◌}

-- an identifier as contracts see it: its five fields
pub record Fields : Type 0 where
  pub host : List ℕ
  pub plugin : List ℕ
  pub plugin_instance : List ℕ
  pub type_name : List ℕ
  pub type_instance : List ℕ

-- a control character: U+0000 to U+001F, or U+007F
abbrev pub is_control : ℕ → Bool
is_control byte = nat_lt byte 32 || byte == 127

abbrev pub has_control : List ℕ → Bool
has_control text = list_any is_control text

abbrev pub is_slash : ℕ → Bool
is_slash byte = byte == 47

abbrev pub has_slash : List ℕ → Bool
has_slash text = list_any is_slash text

abbrev pub is_dash : ℕ → Bool
is_dash byte = byte == 45

abbrev pub has_dash : List ℕ → Bool
has_dash text = list_any is_dash text

-- a letter, a digit or an underscore
abbrev pub is_type_byte : ℕ → Bool
is_type_byte byte =
    (nat_le 48 byte && nat_le byte 57) || (nat_le 65 byte && nat_le byte 90)
    || (nat_le 97 byte && nat_le byte 122) || byte == 95

abbrev pub is_empty : List ℕ → Bool
is_empty [] = true
is_empty (byte ∷ bytes) = false

-- a text has more bytes than a field may have
abbrev pub is_long : List ℕ → Bool
is_long text = nat_lt FIELD_LIMIT (length text)

-- a field has no control character, and isn't too long
abbrev pub is_field : List ℕ → Bool
is_field text = not (has_control text) && nat_le (length text) FIELD_LIMIT

-- the five fields make an identifier
abbrev pub is_identifier : Fields → Bool
is_identifier id =
    is_field id.host && is_field id.plugin && is_field id.plugin_instance
    && is_field id.type_name && is_field id.type_instance
    && not (is_empty id.host) && not (is_empty id.plugin) && not (is_empty id.type_name)
    && not (has_slash id.host) && not (has_slash id.plugin) && not (has_slash id.plugin_instance)
    && list_all is_type_byte id.type_name

-- what stands between the first and the second slash of a text
abbrev pub plugin_part : List ℕ → List ℕ
plugin_part text = before_first is_slash (after_first is_slash text)

-- what stands after the second slash
abbrev pub type_part : List ℕ → List ℕ
type_part text = after_first is_slash (after_first is_slash text)

-- the fields of a text: the host ends at the first slash, and an instance begins after the first
-- dash of its part
abbrev pub fields_of : List ℕ → Fields
fields_of text = record {
  host = before_first is_slash text;
  plugin = before_first is_dash (plugin_part text);
  plugin_instance = after_first is_dash (plugin_part text);
  type_name = before_first is_dash (type_part text);
  type_instance = after_first is_dash (type_part text);
}

-- the host, the plugin or the type is empty, or the type has a character that it may not have
abbrev pub has_bad_field : Fields → Bool
has_bad_field id =
    is_empty id.host || is_empty id.plugin || is_empty id.type_name
    || not (list_all is_type_byte id.type_name)

-- a text is no identifier, whatever the lengths of its fields
abbrev pub is_bad_text : List ℕ → Bool
is_bad_text text =
    nat_lt (count_by is_slash text) 2 || has_control text || has_bad_field (fields_of text)

abbrev pub has_long_field : Fields → Bool
has_long_field id =
    is_long id.host || is_long id.plugin || is_long id.plugin_instance
    || is_long id.type_name || is_long id.type_instance

-- a text would be an identifier, but for a field that is too long
abbrev pub is_long_text : List ℕ → Bool
is_long_text text = not (is_bad_text text) && has_long_field (fields_of text)

-- the identifier that a text is, or why it is none
abbrev pub read_identifier : List ℕ → Result Fields IdFault
read_identifier text =
    if is_bad_text text then Err BadIdentifier
    else (if has_long_field (fields_of text) then Err FieldTooLong else Ok (fields_of text))

-- a dash and the instance, and nothing for an empty instance
abbrev pub dashed : List ℕ → List ℕ
dashed [] = []
dashed (byte ∷ bytes) = 45 ∷ byte ∷ bytes

-- the printed identifier, `host/plugin[-instance]/type[-instance]`
abbrev pub name_of : Fields → List ℕ
name_of id =
    id.host ++ 47 ∷ [] ++ id.plugin ++ dashed id.plugin_instance
    ++ 47 ∷ [] ++ id.type_name ++ dashed id.type_instance

-- an identifier as its name shows it: what stands behind a first dash in the plugin moves to the
-- plugin instance
abbrev pub as_named : Fields → Fields
as_named id = record {
  host = id.host;
  plugin = before_first is_dash id.plugin;
  plugin_instance = after_first is_dash (id.plugin ++ dashed id.plugin_instance);
  type_name = id.type_name;
  type_instance = id.type_instance;
}

-- what the name of an identifier reads as: the identifier as its name shows it, where the moved
-- fields make one
abbrev pub read_of_name : Fields → Result Fields IdFault
read_of_name id =
    if is_empty (as_named id).plugin then Err BadIdentifier
    else (if is_long (as_named id).plugin_instance then Err FieldTooLong else Ok (as_named id))
