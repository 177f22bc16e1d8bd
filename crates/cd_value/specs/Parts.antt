-- The parts of an identifier's text, and its faults.
use Rattle.cd_value.specs.Identifier.{Fields, is_slash, read_identifier}
use Rattle.cd_value.specs.declared.identifier.IdFault.TheVariants.{BadIdentifier, FieldTooLong, Memory}
use Rattle.cd_value.specs.declared.identifier.IdFault.{IdFault}
use Rattle.cd_value.specs.declared.identifier.Parts.{Parts}
use Rattle.std.specs.List.{after_first, before_first}
use Rattle.std.specs.Prelude.{Err, List, count_by, ℕ, ◌+◌, ◌≡◌}

-- the fields that stand in parts of a text
abbrev pub shown : Parts → Fields
shown parts = record {
  host = parts.host.now;
  plugin = parts.plugin.now;
  plugin_instance = parts.plugin_instance.now;
  type_name = parts.type_name.now;
  type_instance = parts.type_instance.now;
}

-- a fault comes exactly where the text has it; want of memory may always come
abbrev pub IsFaultOf : List ℕ → IdFault → Type 0
IsFaultOf text Memory = Unit {0}
IsFaultOf text BadIdentifier = read_identifier text ≡ Err BadIdentifier
IsFaultOf text FieldTooLong = read_identifier text ≡ Err FieldTooLong

-- a text with a slash is cut at the first: what stands before it, and what stands behind it
abbrev pub IsCutAtSlash : List ℕ → List ℕ → List ℕ → Type 0
IsCutAtSlash text before behind =
    (before ≡ before_first is_slash text) × (behind ≡ after_first is_slash text)
    × (count_by is_slash text ≡ 1 + count_by is_slash behind)
