-- Placeholders: what a text becomes for the identifier of a value list.
use Rattle.cd_pattern.specs.Fields.{field_of}
use Rattle.cd_pattern.specs.declared.field.Field.TheVariants.{Host, Plugin, PluginInstance, TypeInstance, TypeName}
use Rattle.cd_pattern.specs.declared.field.Field.{Field}
use Rattle.cd_value.specs.Clean.{longest_front}
use Rattle.cd_value.specs.Identifier.{Fields}
use Rattle.cd_value.specs.declared.numbers.TheConstants.{MESSAGE_LIMIT}
use Rattle.std.specs.List.{find, flat_map, slice_split, starts_with}
use Rattle.std.specs.Option.{option_map_or}
use Rattle.std.specs.Prelude.{Bool, List, Option, [], codes, drop, length, nat_eq, ℕ, ◌++◌, ◌==◌, ◌∷◌}

-- the fields that have a placeholder
abbrev pub fields : List Field
fields = Host ∷ Plugin ∷ PluginInstance ∷ TypeName ∷ TypeInstance ∷ []

-- a field's placeholder, without its percent sign
abbrev pub placeholder : Field → List ℕ
placeholder Host = codes "{host}"
placeholder Plugin = codes "{plugin}"
placeholder PluginInstance = codes "{plugin_instance}"
placeholder TypeName = codes "{type}"
placeholder TypeInstance = codes "{type_instance}"

-- a text begins with a field's placeholder
unfoldable pub begins_with : List ℕ → Field → Bool
begins_with text field = starts_with nat_eq text (placeholder field)

-- the field whose placeholder a text begins with
unfoldable pub field_at : List ℕ → Option Field
field_at text = find (begins_with text) fields

-- what stands behind a percent sign: a placeholder there becomes its field, and what follows it
-- stays; without one all stays, the percent sign too
abbrev pub filled : Fields → List ℕ → List ℕ
filled id text =
    option_map_or (λ field. field_of field id ++ drop (length (placeholder field)) text)
    (field_at text) (37 ∷ text)

abbrev pub is_percent : ℕ → Bool
is_percent byte = byte == 37

-- the parts of a text between its percent signs, joined again
abbrev pub joined : Fields → List (List ℕ) → List ℕ
joined id [] = []
joined id (first ∷ parts) = first ++ flat_map (filled id) parts

-- the text with the fields in the place of their placeholders
unfoldable pub substituted : Fields → List ℕ → List ℕ
substituted id text = joined id (slice_split is_percent text)

-- the same, cut to the length of a message
abbrev pub message_of : Fields → List ℕ → List ℕ
message_of id text = longest_front MESSAGE_LIMIT (substituted id text)
