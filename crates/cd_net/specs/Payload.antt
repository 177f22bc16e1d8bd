-- What a payload says.
use Rattle.byteorder.specs.Endian.{big_number}
use Rattle.cd_net.specs.declared.numbers.TheConstants.{ABSOLUTE_CODE, COUNTER_CODE, DERIVE_CODE, GAUGE_CODE, SECONDS_LIMIT}
use Rattle.cd_value.specs.declared.data.DsType.TheVariants as kinds
use Rattle.cd_value.specs.declared.data.DsType.{DsType}
use Rattle.cd_value.specs.declared.data.Value.TheVariants.{Absolute, Counter, Derive}
use Rattle.cd_value.specs.declared.data.Value.{Value}
use Rattle.cd_value.specs.declared.numbers.TheConstants.{SECOND}
use Rattle.std.specs.Int.{cast_signed, w64}
use Rattle.std.specs.List.{before_first, enumerate_from, filter_map}
use Rattle.std.specs.Prelude.{Bool, List, None, Option, Some, drop, if◌then◌else◌, length, nat_lt, take, ℕ, ◌&&◌, ◌*◌, ◌+◌, ◌==◌}
use Rattle.std.specs.Str.{is_utf8}

abbrev pub is_zero : ℕ → Bool
is_zero byte = byte == 0

-- a text of UTF-8 and one zero byte behind it, the only one
abbrev pub payload_text : List ℕ → Option (List ℕ)
payload_text payload =
    let text = before_first is_zero payload in
    if length text + 1 == length payload && is_utf8 text then Some text else None

abbrev pub payload_number : List ℕ → ℕ
payload_number payload = big_number 8 payload

-- a number of seconds in 2^-30 s; none for 2^34 seconds or more
abbrev pub units_of_seconds : ℕ → Option ℕ
units_of_seconds seconds = if nat_lt seconds SECONDS_LIMIT then Some (seconds * SECOND) else None

-- ---- values: their count, a code byte for each, and eight bytes for each

abbrev pub value_count : List ℕ → ℕ
value_count payload = big_number 2 payload

abbrev pub codes_of : List ℕ → List ℕ
codes_of payload = take (value_count payload) (drop 2 payload)

abbrev pub numbers_of : List ℕ → List ℕ
numbers_of payload = drop (2 + value_count payload) payload

-- the code of a kind of data source
abbrev pub code_of : DsType → ℕ
code_of kinds.Counter = COUNTER_CODE
code_of kinds.Gauge = GAUGE_CODE
code_of kinds.Derive = DERIVE_CODE
code_of kinds.Absolute = ABSOLUTE_CODE

-- the value of a code and the first eight of some bytes; a gauge, a floating-point number, has none
abbrev pub coded_value : ℕ → List ℕ → Option Value
coded_value code bytes =
    if code == COUNTER_CODE then Some (Counter (big_number 8 bytes))
    else (if code == DERIVE_CODE then Some (Derive (cast_signed w64 (big_number 8 bytes)))
    else (if code == ABSOLUTE_CODE then Some (Absolute (big_number 8 bytes)) else None))

-- the value of each code, from the eight bytes at eight times the code's place
abbrev pub payload_values : List ℕ → List Value
payload_values payload =
    filter_map (λ coded. coded_value coded.1 (drop (8 * coded.0) (numbers_of payload)))
    (enumerate_from 0 (codes_of payload))
