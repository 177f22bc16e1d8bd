-- Texts made fit to be fields of an identifier.
use Rattle.cd_value.specs.Identifier.{has_slash, is_control, is_empty, is_field, is_slash}
use Rattle.cd_value.specs.declared.numbers.TheConstants.{FIELD_LIMIT}
use Rattle.std.specs.Fmt.Cut.{floor_char_boundary}
use Rattle.std.specs.Prelude.{Bool, List, if◌then◌else◌, length, map, nat_le, not, take, ℕ, ◌&&◌, ◌||◌}

-- the longest front of a text that has at most so many bytes and ends where a character does
abbrev pub longest_front : ℕ → List ℕ → List ℕ
longest_front limit text =
    if nat_le (length text) limit then text else take (floor_char_boundary text limit) text

-- a control character, and a slash where there may be none, becomes an underscore
abbrev pub clean_byte : Bool → ℕ → ℕ
clean_byte slash byte = if is_control byte || (slash && is_slash byte) then 95 else byte

-- a text with such characters replaced, cut to the length of a field
abbrev pub clean_field : Bool → List ℕ → List ℕ
clean_field slash text = longest_front FIELD_LIMIT (map (clean_byte slash) text)

-- a text may stand as it is
abbrev pub is_clean : Bool → Bool → List ℕ → Bool
is_clean slash needed text =
    is_field text && not (slash && has_slash text) && not (needed && is_empty text)

-- the old field stands where the new one would be empty and may not be
abbrev pub field_or_old : Bool → List ℕ → List ℕ → List ℕ
field_or_old needed old field = if needed && is_empty field then old else field
