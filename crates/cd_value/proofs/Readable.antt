-- The fields of a text without a fault make an identifier.
use Rattle.cd_value.proofs.Cuts.{list_any_before_first, list_any_drop, list_any_take}
use Rattle.cd_value.specs.Identifier.{Fields, fields_of, has_bad_field, has_long_field, is_control, is_empty, is_field, is_identifier, is_slash, is_type_byte, plugin_part, type_part}
use Rattle.std.proofs.Common.{Bool, List, false, length, not, refl, true, ℕ, ◌&&◌, ◌||◌, ◌≡◌, ◌≤◌}
use Rattle.std.proofs.lemmas.Bool.{and_parts, le-leb, leb-true, ltb-false, not-false, not-true, or_parts}
use Rattle.std.specs.List.{after_first, list_all, list_any}
use Rattle.std.specs.Prelude.{nat_le, nat_lt}

short : (bytes : List ℕ) → nat_lt 127 (length bytes) ≡ false → nat_le (length bytes) 127 ≡ true
short bytes e = le-leb (length bytes) 127 (ltb-false 127 (length bytes) e)

-- no field has a control character, and none of the first three has a slash
pub record IsPlain (id : Fields) : Type 0 where
  pub host_control : list_any is_control id.host ≡ false
  pub plugin_control : list_any is_control id.plugin ≡ false
  pub plugin_instance_control : list_any is_control id.plugin_instance ≡ false
  pub type_control : list_any is_control id.type_name ≡ false
  pub type_instance_control : list_any is_control id.type_instance ≡ false
  pub host_slash : list_any is_slash id.host ≡ false
  pub plugin_slash : list_any is_slash id.plugin ≡ false
  pub plugin_instance_slash : list_any is_slash id.plugin_instance ≡ false

fields_make : (id : Fields) → IsPlain id → has_bad_field id ≡ false → has_long_field id ≡ false → is_identifier id ≡ true
fields_make id plain bad long =
    let type_bad = or_parts (is_empty id.host || is_empty id.plugin || is_empty id.type_name) (not (list_all is_type_byte id.type_name)) bad in
    let type_empty = or_parts (is_empty id.host || is_empty id.plugin) (is_empty id.type_name) type_bad.0 in
    let empty = or_parts (is_empty id.host) (is_empty id.plugin) type_empty.0 in
    let first = nat_lt 127 (length id.host) in
    let second = nat_lt 127 (length id.plugin) in
    let third = nat_lt 127 (length id.plugin_instance) in
    let fourth = nat_lt 127 (length id.type_name) in
    let to_fourth = or_parts (first || second || third || fourth) (nat_lt 127 (length id.type_instance)) long in
    let to_third = or_parts (first || second || third) fourth to_fourth.0 in
    let to_second = or_parts (first || second) third to_third.0 in
    let to_first = or_parts first second to_second.0 in
    rw (
      plain.host_control,
      plain.plugin_control,
      plain.plugin_instance_control,
      plain.type_control,
      plain.type_instance_control,
      plain.host_slash,
      plain.plugin_slash,
      plain.plugin_instance_slash,
      empty.0,
      empty.1,
      type_empty.1,
      not-false (list_all is_type_byte id.type_name) type_bad.1,
      short id.host to_first.0,
      short id.plugin to_first.1,
      short id.plugin_instance to_second.1,
      short id.type_name to_third.1,
      short id.type_instance to_fourth.1,
    ) refl

fields_plain : (text : List ℕ) → list_any is_control text ≡ false → IsPlain (fields_of text)
fields_plain text e =
    let rest = after_first is_slash text in
    let rest_plain : list_any is_control rest ≡ false = list_any_drop is_control _ text e in
    let plugin_plain : list_any is_control (plugin_part text) ≡ false = list_any_take is_control _ rest rest_plain in
    let type_plain : list_any is_control (type_part text) ≡ false = list_any_drop is_control _ rest rest_plain in
    let plugin_slash : list_any is_slash (plugin_part text) ≡ false = list_any_before_first is_slash rest in
    record {
      host_control = list_any_take is_control _ text e;
      plugin_control = list_any_take is_control _ (plugin_part text) plugin_plain;
      plugin_instance_control = list_any_drop is_control _ (plugin_part text) plugin_plain;
      type_control = list_any_take is_control _ (type_part text) type_plain;
      type_instance_control = list_any_drop is_control _ (type_part text) type_plain;
      host_slash = list_any_before_first is_slash text;
      plugin_slash = list_any_take is_slash _ (plugin_part text) plugin_slash;
      plugin_instance_slash = list_any_drop is_slash _ (plugin_part text) plugin_slash;
    }

-- the fields of a text without a fault make an identifier
pub readable : (text : List ℕ) → list_any is_control text ≡ false → has_bad_field (fields_of text) ≡ false → has_long_field (fields_of text) ≡ false → is_identifier (fields_of text) ≡ true
readable text plain bad long = fields_make (fields_of text) (fields_plain text plain) bad long

field_length : (bytes : List ℕ) → is_field bytes ≡ true → length bytes ≤ 127
field_length bytes h = leb-true (length bytes) 127 (and_parts (not (list_any is_control bytes)) (nat_le (length bytes) 127) h).1

abbrev first_five : Fields → Bool
first_five id = is_field id.host && is_field id.plugin && is_field id.plugin_instance && is_field id.type_name && is_field id.type_instance

-- no field of an identifier has more than 127 bytes
pub field_lengths : (id : Fields) → is_identifier id ≡ true
    → (length id.host ≤ 127) × (length id.plugin ≤ 127) × (length id.plugin_instance ≤ 127) × (length id.type_name ≤ 127) × (length id.type_instance ≤ 127)
field_lengths id h =
    let fields = and_parts (first_five id) _ (and_parts _ _ (and_parts _ _ (and_parts _ _ (and_parts _ _ (and_parts _ _ (and_parts _ _ h).0).0).0).0).0).0 in
    let fifth = and_parts _ (is_field id.type_instance) fields.0 in
    let fourth = and_parts _ (is_field id.type_name) fifth.0 in
    let third = and_parts _ (is_field id.plugin_instance) fourth.0 in
    let second = and_parts (is_field id.host) (is_field id.plugin) third.0 in
    (field_length id.host second.0, field_length id.plugin second.1, field_length id.plugin_instance third.1, field_length id.type_name fourth.1, field_length id.type_instance fifth.1)

field_plain : (bytes : List ℕ) → is_field bytes ≡ true → list_any is_control bytes ≡ false
field_plain bytes h = not-true (list_any is_control bytes) (and_parts (not (list_any is_control bytes)) (nat_le (length bytes) 127) h).0

-- what the fields of an identifier are
pub record IsWhole (id : Fields) : Type 0 where
  pub plain : IsPlain id
  pub host : is_empty id.host ≡ false
  pub plugin : is_empty id.plugin ≡ false
  pub type_name : is_empty id.type_name ≡ false
  pub type_bytes : list_all is_type_byte id.type_name ≡ true

pub whole : (id : Fields) → is_identifier id ≡ true → IsWhole id
whole id h =
    let eleventh = and_parts _ (list_all is_type_byte id.type_name) h in
    let tenth = and_parts _ (not (list_any is_slash id.plugin_instance)) eleventh.0 in
    let ninth = and_parts _ (not (list_any is_slash id.plugin)) tenth.0 in
    let eighth = and_parts _ (not (list_any is_slash id.host)) ninth.0 in
    let seventh = and_parts _ (not (is_empty id.type_name)) eighth.0 in
    let sixth = and_parts _ (not (is_empty id.plugin)) seventh.0 in
    let fields = and_parts (first_five id) (not (is_empty id.host)) sixth.0 in
    let fifth = and_parts _ (is_field id.type_instance) fields.0 in
    let fourth = and_parts _ (is_field id.type_name) fifth.0 in
    let third = and_parts _ (is_field id.plugin_instance) fourth.0 in
    let second = and_parts (is_field id.host) (is_field id.plugin) third.0 in
    record {
      plain = record {
        host_control = field_plain id.host second.0;
        plugin_control = field_plain id.plugin second.1;
        plugin_instance_control = field_plain id.plugin_instance third.1;
        type_control = field_plain id.type_name fourth.1;
        type_instance_control = field_plain id.type_instance fifth.1;
        host_slash = not-true (list_any is_slash id.host) eighth.1;
        plugin_slash = not-true (list_any is_slash id.plugin) ninth.1;
        plugin_instance_slash = not-true (list_any is_slash id.plugin_instance) tenth.1;
      };
      host = not-true (is_empty id.host) fields.1;
      plugin = not-true (is_empty id.plugin) sixth.1;
      type_name = not-true (is_empty id.type_name) seventh.1;
      type_bytes = eleventh.1;
    }
