-- The words of a command.
use Rattle.cd_text.specs.Time.{time_of}
use Rattle.cd_text.specs.declared.word.Word.{Word}
use Rattle.std.specs.List.{after_first, before_first, filter_map, list_any, position_or_len}
use Rattle.std.specs.Prelude.{Bool, List, None, Option, Some, drop, if◌then◌else◌, length, not, option_and_then, slice_get, ℕ, ◌&&◌, ◌-◌, ◌==◌}
use Rattle.std.specs.Result.{result_ok}
use Rattle.std.specs.Str.{str_eq_ignore_ascii_case}

-- the text is the name, whatever the case of its letters
abbrev pub is_keyword : List ℕ → List ℕ → Bool
is_keyword name text = str_eq_ignore_ascii_case text name

abbrev pub is_equals : ℕ → Bool
is_equals byte = byte == 61

-- a word with `=`: before the first it has a key, and after it an argument
abbrev pub has_key : Word → Bool
has_key word = list_any is_equals word.text

abbrev pub key : Word → List ℕ
key word = before_first is_equals word.text

abbrev pub argument : Word → List ℕ
argument word = after_first is_equals word.text

abbrev pub is_plain : Word → Bool
is_plain word = not (has_key word)

-- the argument of a word that is an option of a name: a word with a key, which is the name
abbrev pub argument_of : List ℕ → Word → Option (List ℕ)
argument_of name word =
    if has_key word && is_keyword name (key word) then Some (argument word) else None

-- the arguments of the options of a name, in order
abbrev pub arguments_of : List ℕ → List Word → List (List ℕ)
arguments_of name words = filter_map (argument_of name) words

-- the words with a key before the first other one
abbrev pub leading_options : List Word → List Word
leading_options words = before_first is_plain words

-- the first word without a key, and all after it
abbrev pub from_first_plain : List Word → List Word
from_first_plain words = drop (position_or_len is_plain words) words

-- an interval is a time above 0
abbrev pub above_zero : ℕ → Option ℕ
above_zero time = if time == 0 then None else Some time

abbrev pub interval_of : List ℕ → Option ℕ
interval_of text = option_and_then above_zero (result_ok (time_of text))

-- the last of a list
abbrev pub last : {A : Type 0} → List A → Option A
last xs = slice_get xs (length xs - 1)

-- the interval of the last of some options
abbrev pub last_interval : List Word → Option ℕ
last_interval options = option_and_then (λ option. interval_of (argument option)) (last options)
