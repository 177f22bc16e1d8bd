-- A time as text, in seconds, and its value in 2^-30 s.
use Rattle.cd_text.specs.Digits.{after_place, are_digits, is_dot}
use Rattle.cd_text.specs.declared.fault.NumFault.TheVariants.{BadNumber, OutOfRange}
use Rattle.cd_text.specs.declared.fault.NumFault.{NumFault}
use Rattle.cd_text.specs.declared.numbers.TheConstants.{FRACTION_LIMIT, SECONDS_END}
use Rattle.cd_text.specs.declared.time.Seconds.{Seconds}
use Rattle.cd_value.specs.declared.numbers.TheConstants.{MILLIONTHS, SECOND}
use Rattle.std.specs.List.{before_first, position}
use Rattle.std.specs.Option.{option_copied}
use Rattle.std.specs.Prelude.{Bool, Err, List, None, Ok, Option, Result, Some, [], if◌then◌else◌, length, nat_le, nat_lt, negsuc, pos, true, unwrap_or, ℕ, ℤ, ◌&&◌, ◌*◌, ◌++◌, ◌/◌, ◌^◌}
use Rattle.std.specs.Str.Parse.{digits_value}

-- the parts of a time's text: whole seconds and, behind a dot, digits of a second
pub record Parts : Type 0 where
  pub whole : List ℕ
  pub fraction : Option (List ℕ)

abbrev pub parts_of : List ℕ → Parts
parts_of t = record { whole = before_first is_dot t; fraction = after_place t (position is_dot t) }

-- none, or digits, of which there is at least one
abbrev pub is_fraction : Option (List ℕ) → Bool
is_fraction None = true
is_fraction (Some ds) = are_digits ds && (nat_lt 0 (length ds) && nat_le (length ds) FRACTION_LIMIT)

abbrev pub is_time : Parts → Bool
is_time p = are_digits p.whole && (nat_lt 0 (length p.whole) && is_fraction p.fraction)

abbrev pub further : Parts → List ℕ
further p = unwrap_or p.fraction []

-- numerator / denominator seconds as a time, cut to the unit of 2^-30 s below
unfoldable pub units : ℕ → ℕ → Result ℕ NumFault
units numerator denominator =
    if nat_lt numerator (SECONDS_END * denominator) then Ok (numerator * SECOND / denominator)
    else Err OutOfRange

-- what a text reads as
unfoldable pub time_of : List ℕ → Result ℕ NumFault
time_of t =
    let p = parts_of t in
    if is_time p then units (digits_value 10 (p.whole ++ further p)) (10 ^ length (further p))
    else Err BadNumber

-- millionths of a second as a time, cut to the unit of 2^-30 s below
abbrev pub units_of_millionths : ℤ → ℕ
units_of_millionths (pos n) = n * SECOND / MILLIONTHS
units_of_millionths (negsuc n) = 0

-- the parts that the code holds
abbrev pub parts : Seconds → Parts
parts s = record { whole = s.whole.now; fraction = option_copied s.fraction }
