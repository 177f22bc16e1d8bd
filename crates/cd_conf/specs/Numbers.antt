-- Words that are numbers or flags.
use Rattle.cd_conf.specs.Faults.{fault_at}
use Rattle.cd_conf.specs.declared.fault.ConfFault.{ConfFault}
use Rattle.cd_conf.specs.declared.fault.ConfKind.TheVariants.{BadValue}
use Rattle.cd_conf.specs.declared.item.Arg.TheVariants.{Flag, Number, Words}
use Rattle.cd_conf.specs.declared.item.Arg.{Arg}
use Rattle.cd_conf.specs.declared.limits.TheConstants.{DECIMALS_LIMIT, NUMBER_LIMIT}
use Rattle.cd_text.specs.Digits.{after_place, is_dot}
use Rattle.cd_value.specs.declared.numbers.TheConstants.{MILLIONTHS}
use Rattle.std.specs.Char.{is_digit}
use Rattle.std.specs.List.{before_first, list_all, position}
use Rattle.std.specs.Prelude.{Bool, Err, List, None, Ok, Option, Result, Some, [], codes, drop, false, if◌then◌else◌, length, nat_le, nat_lt, neg_ℤ, pos, slice_index, true, unwrap_or, ℕ, ℤ, ◌&&◌, ◌*◌, ◌-◌, ◌==◌, ◌^◌, ◌||◌}
use Rattle.std.specs.Str.Parse.{digits_value, digits_value_after, starts_with_minus, without_leading_sign}
use Rattle.std.specs.Str.{str_eq_ignore_ascii_case}

abbrev pub all_digits : ℕ → List ℕ → Bool
all_digits base ds = list_all (λ c. is_digit c base) ds

-- one digit of a base or more
abbrev pub are_digits : ℕ → List ℕ → Bool
are_digits base ds = nat_lt 0 (length ds) && all_digits base ds

-- digits of which the first is 0 only where it is alone
abbrev pub is_whole : List ℕ → Bool
is_whole ds = are_digits 10 ds && (length ds == 1 || nat_lt 48 (slice_index ds 0))

-- none, or digits
abbrev pub is_fraction : Option (List ℕ) → Bool
is_fraction None = true
is_fraction (Some ds) = are_digits 10 ds

-- 0x and hexadecimal digits
abbrev pub is_hexadecimal : List ℕ → Bool
is_hexadecimal t = slice_index t 0 == 48 && (slice_index t 1 == 120 && are_digits 16 (drop 2 t))

-- 0 and octal digits
abbrev pub is_octal : List ℕ → Bool
is_octal t = slice_index t 0 == 48 && are_digits 8 (drop 1 t)

-- decimal digits, and further ones behind a dot where there is one
abbrev pub fraction : List ℕ → Option (List ℕ)
fraction t = after_place t (position is_dot t)

abbrev pub is_decimal : List ℕ → Bool
is_decimal t = is_whole (before_first is_dot t) && is_fraction (fraction t)

-- a number's base, its digits, and those behind its dot
pub record Digits : Type 0 where
  pub base : ℕ
  pub whole : List ℕ
  pub decimals : List ℕ

abbrev pub digits : ℕ → List ℕ → List ℕ → Digits
digits base whole decimals = record { base = base; whole = whole; decimals = decimals }

abbrev pub decimal_digits : List ℕ → Option Digits
decimal_digits t =
    if is_decimal t then Some (digits 10 (before_first is_dot t) (unwrap_or (fraction t) []))
    else None

-- the digits of a number without its sign; none for any other word
abbrev pub digits_of : List ℕ → Option Digits
digits_of t =
    if is_hexadecimal t then Some (digits 16 (drop 2 t) [])
    else (if is_octal t then Some (digits 8 (drop 1 t) []) else decimal_digits t)

-- the value of digits in millionths
abbrev pub millionths : Digits → ℕ
millionths ds =
    digits_value_after 10 (digits_value ds.base ds.whole) ds.decimals
    * 10 ^ (DECIMALS_LIMIT - length ds.decimals)

-- the greatest magnitude in millionths
abbrev pub millionths_limit : ℕ
millionths_limit = NUMBER_LIMIT * MILLIONTHS

abbrev pub at_most : ℕ → ℕ → Option ℕ
at_most limit n = if nat_le n limit then Some n else None

-- the millionths of digits; none where there are too many decimals or the value is too great
unfoldable pub magnitude : Digits → Option ℕ
magnitude ds =
    if nat_le (length ds.decimals) DECIMALS_LIMIT then at_most millionths_limit (millionths ds)
    else None

abbrev pub with_sign : Bool → ℕ → ℤ
with_sign is_negative n = if is_negative then neg_ℤ (pos n) else pos n

abbrev pub number_arg : ℕ → Bool → Option ℕ → Result Arg ConfFault
number_arg line is_negative None = Err (fault_at BadValue line)
number_arg line is_negative (Some n) = Ok (Number (with_sign is_negative n))

-- a word that is no flag: a number where it has digits, or else a text
abbrev pub plain_arg : ℕ → List ℕ → Option Digits → Result Arg ConfFault
plain_arg line word None = Ok (Words word)
plain_arg line word (Some ds) = number_arg line (starts_with_minus word) (magnitude ds)

abbrev pub is_word : List ℕ → List ℕ → Bool
is_word word name = str_eq_ignore_ascii_case word name

-- true, yes or on, whatever the case of the letters
abbrev pub is_true_word : List ℕ → Bool
is_true_word word = is_word word (codes "true") || (is_word word (codes "yes") || is_word word (codes "on"))

-- false, no or off
abbrev pub is_false_word : List ℕ → Bool
is_false_word word = is_word word (codes "false") || (is_word word (codes "no") || is_word word (codes "off"))

-- the value of a word without quotes in a line
unfoldable pub word_arg : ℕ → List ℕ → Result Arg ConfFault
word_arg line word =
    if is_true_word word then Ok (Flag true)
    else (if is_false_word word then Ok (Flag false)
    else plain_arg line word (digits_of (without_leading_sign word)))
