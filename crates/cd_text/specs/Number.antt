-- A decimal number as text, and its value as one exact fraction.
use Rattle.cd_text.specs.Digits.{after_place, are_digits, is_dot}
use Rattle.cd_text.specs.Millionths.{bounded_millionths}
use Rattle.cd_text.specs.declared.fault.NumFault.TheVariants.{BadNumber, OutOfRange}
use Rattle.cd_text.specs.declared.fault.NumFault.{NumFault}
use Rattle.cd_text.specs.declared.number.Decimal.{Decimal}
use Rattle.cd_text.specs.declared.numbers.TheConstants.{DIGITS_LIMIT, EXPONENT_LIMIT}
use Rattle.std.specs.List.{after_first, before_first, position}
use Rattle.std.specs.Option.{option_copied}
use Rattle.std.specs.Prelude.{Bool, Err, List, None, Ok, Option, Result, Some, if◌then◌else◌, length, nat_le, nat_lt, neg_ℤ, pos, true, ℕ, ℤ, ◌&&◌, ◌*◌, ◌++◌, ◌+◌, ◌==◌, ◌^◌, ◌||◌}
use Rattle.std.specs.Str.Parse.{digits_value, starts_with_minus, without_leading_sign}

-- the parts of a number's text: a sign, whole digits, a dot, further digits, and an exponent behind
-- an e
pub record Parts : Type 0 where
  pub is_negative : Bool
  pub whole : List ℕ
  pub fraction : List ℕ
  pub exponent : Option (List ℕ)

abbrev pub is_e : ℕ → Bool
is_e b = b == 101 || b == 69

abbrev pub parts_of : List ℕ → Parts
parts_of t =
    let unsigned = without_leading_sign t in
    let mantissa = before_first is_e unsigned in
    record {
      is_negative = starts_with_minus t;
      whole = before_first is_dot mantissa;
      fraction = after_first is_dot mantissa;
      exponent = after_place unsigned (position is_e unsigned);
    }

-- none, or an optional sign and digits, of which there is at least one
abbrev pub is_exponent : Option (List ℕ) → Bool
is_exponent None = true
is_exponent (Some e) =
    let digits = without_leading_sign e in
    are_digits digits && (nat_lt 0 (length digits) && nat_le (length digits) EXPONENT_LIMIT)

-- digits, of which there is at least one, and an exponent
abbrev pub is_number : Parts → Bool
is_number p =
    are_digits (p.whole ++ p.fraction)
    && (nat_lt 0 (length p.whole + length p.fraction) && is_exponent p.exponent)

-- the power of ten that an exponent multiplies by
abbrev pub raised_by : Option (List ℕ) → ℕ
raised_by None = 0
raised_by (Some e) = if starts_with_minus e then 0 else digits_value 10 (without_leading_sign e)

-- the power of ten that an exponent divides by
abbrev pub lowered_by : Option (List ℕ) → ℕ
lowered_by None = 0
lowered_by (Some e) = if starts_with_minus e then digits_value 10 (without_leading_sign e) else 0

-- the magnitude is the fraction of these two
abbrev pub numerator : Parts → ℕ
numerator p = digits_value 10 (p.whole ++ p.fraction) * 10 ^ raised_by p.exponent

abbrev pub denominator : Parts → ℕ
denominator p = 10 ^ (length p.fraction + lowered_by p.exponent)

-- a magnitude with its sign
abbrev pub with_sign : Bool → Option ℕ → Result ℤ NumFault
with_sign is_negative None = Err OutOfRange
with_sign is_negative (Some n) = Ok (if is_negative then neg_ℤ (pos n) else pos n)

-- the value of a number in millionths, cut toward zero; too many digits are out of range
abbrev pub value : Parts → Result ℤ NumFault
value p =
    if nat_lt DIGITS_LIMIT (length p.whole + length p.fraction) then Err OutOfRange
    else with_sign p.is_negative (bounded_millionths (numerator p) (denominator p))

-- what a text reads as
unfoldable pub number_of : List ℕ → Result ℤ NumFault
number_of t = if is_number (parts_of t) then value (parts_of t) else Err BadNumber

-- the parts that the code holds
abbrev pub parts : Decimal → Parts
parts d = record {
  is_negative = d.is_negative;
  whole = d.whole.now;
  fraction = d.fraction.now;
  exponent = option_copied d.exponent;
}
