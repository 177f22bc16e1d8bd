-- The value words of PUTVAL: `time:value[:value] ..`.
use Rattle.cd_sock.specs.Arguments.{is_keyword}
use Rattle.cd_text.specs.Digits.{are_digits}
use Rattle.cd_text.specs.Number.{number_of}
use Rattle.cd_text.specs.Time.{time_of}
use Rattle.cd_text.specs.declared.word.Word.{Word}
use Rattle.cd_value.specs.declared.data.DataSource.{DataSource}
use Rattle.cd_value.specs.declared.data.DsType.TheVariants as kinds
use Rattle.cd_value.specs.declared.data.DsType.{DsType}
use Rattle.cd_value.specs.declared.data.Value.TheVariants.{Absolute, Counter, Derive, Gauge}
use Rattle.cd_value.specs.declared.data.Value.{Value}
use Rattle.std.specs.List.{before_first, filter_map, list_all, slice_split, zip}
use Rattle.std.specs.Prelude.{Bool, List, None, Option, Some, [], codes, drop, if◌then◌else◌, is_ok, is_some, length, nat_le, nat_lt, option_map, ℕ, ℤ, ◌&&◌, ◌==◌, ◌^◌, ◌||◌}
use Rattle.std.specs.Result.{result_ok}
use Rattle.std.specs.Str.Parse.{digits_value, signed_digits_value, starts_with_minus, without_leading_sign}
use Rattle.std.specs.Str.{bytes_eq}

-- ---- one value

-- one digit or more, and nothing else
abbrev pub is_numeral : List ℕ → Bool
is_numeral text = nat_lt 0 (length text) && are_digits text

-- digits of a number below 2^64
abbrev pub count_of : List ℕ → Option ℕ
count_of text =
    if is_numeral text && nat_lt (digits_value 10 text) (2 ^ 64) then Some (digits_value 10 text)
    else None

-- of 64 bits with a sign: a magnitude of at most 2^63 below zero, and of less above
abbrev pub fits_64_bits : Bool → ℕ → Bool
fits_64_bits is_negative magnitude =
    if is_negative then nat_le magnitude (2 ^ 63) else nat_lt magnitude (2 ^ 63)

-- an optional sign and digits
abbrev pub change_of : List ℕ → Option ℤ
change_of text =
    let digits = without_leading_sign text in
    if is_numeral digits && fits_64_bits (starts_with_minus text) (digits_value 10 digits)
    then Some (signed_digits_value 10 text) else None

-- `U`, or `nan` in any case, is an unknown level
abbrev pub is_unknown : List ℕ → Bool
is_unknown text = bytes_eq text (codes "U") || is_keyword (codes "nan") text

-- an unknown level, or a number in millionths
abbrev pub level_of : List ℕ → Option (Option ℤ)
level_of text = if is_unknown text then Some None else option_map Some (result_ok (number_of text))

-- the value of a kind that a text is
abbrev pub value_of : DsType → List ℕ → Option Value
value_of kinds.Counter text = option_map Counter (count_of text)
value_of kinds.Gauge text = option_map Gauge (level_of text)
value_of kinds.Derive text = option_map Derive (change_of text)
value_of kinds.Absolute text = option_map Absolute (count_of text)

-- ---- one word

abbrev pub is_colon : ℕ → Bool
is_colon byte = byte == 58

-- what stands before the first colon
abbrev pub time_text : List ℕ → List ℕ
time_text text = before_first is_colon text

-- what stands between the colons and after the last
abbrev pub value_texts : List ℕ → List (List ℕ)
value_texts text = drop 1 (slice_split is_colon text)

-- the moment at which the line is read
abbrev pub is_now : List ℕ → Bool
is_now text = bytes_eq text (codes "N")

abbrev pub has_time : Word → Bool
has_time word = is_now (time_text word.text) || is_ok (time_of (time_text word.text))

-- as many values as the type has sources
abbrev pub has_count : List DataSource → Word → Bool
has_count sources word = length (value_texts word.text) == length sources

abbrev pub value_at : DataSource × List ℕ → Option Value
value_at pair = value_of pair.0.kind pair.1

-- each value is of its source's kind
abbrev pub has_values : List DataSource → Word → Bool
has_values sources word =
    list_all (λ pair. is_some (value_at pair)) (zip sources (value_texts word.text))

-- what a value word says: its time, which is none for the moment at which the line is read, and its
-- values
pub record Reading : Type 0 where
  pub time : Option ℕ
  pub values : List Value

abbrev pub reading : List DataSource → Word → Reading
reading sources word = record {
  time = if is_now (time_text word.text) then None else result_ok (time_of (time_text word.text));
  values = filter_map value_at (zip sources (value_texts word.text));
}

-- ---- as they are read, one after the other

-- a word has no fault
abbrev pub is_whole : List DataSource → Word → Bool
is_whole sources word = has_time word && has_count sources word && has_values sources word

abbrev pub time_at : ℕ → List ℕ → Option ℕ
time_at now text = if is_now text then Some now else result_ok (time_of text)

-- the texts between the colons of what follows a colon
abbrev pub texts_in : Option (List ℕ) → List (List ℕ)
texts_in None = []
texts_in (Some rest) = slice_split is_colon rest

-- the values of as many texts as there are sources, each of its source's kind
unfoldable pub values_in : List DataSource → List (List ℕ) → Option (List Value)
values_in sources texts =
    if length texts == length sources
    && list_all (λ pair. is_some (value_at pair)) (zip sources texts)
    then Some (filter_map value_at (zip sources texts)) else None
