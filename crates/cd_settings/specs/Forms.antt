-- The forms that the values of an option have. A number is in millionths.
use Rattle.cd_conf.specs.declared.item.Arg.TheVariants.{Flag, Number, Words}
use Rattle.cd_conf.specs.declared.item.Arg.{Arg}
use Rattle.cd_settings.specs.declared.plugins.Listen.{Listen}
use Rattle.cd_settings.specs.declared.plugins.TheConstants.{PORT}
use Rattle.cd_text.specs.Time.{units_of_millionths}
use Rattle.cd_text.specs.declared.numbers.TheConstants.{DURATION_LIMIT}
use Rattle.cd_value.specs.Identifier.{has_slash, is_empty, is_field}
use Rattle.cd_value.specs.declared.data.Severity.TheVariants.{Failure, Okay, Warning}
use Rattle.cd_value.specs.declared.data.Severity.{Severity}
use Rattle.cd_value.specs.declared.numbers.TheConstants.{MILLIONTHS}
use Rattle.std.specs.Char.{is_ascii_digit}
use Rattle.std.specs.List.{flat_map, list_all}
use Rattle.std.specs.Option.{option_map}
use Rattle.std.specs.Prelude.{Bool, List, None, Option, Some, [], codes, false, if◌then◌else◌, int_le, length, nat_abs, nat_le, nat_lt, not, pos, slice_index, true, ℕ, ℤ, ◌%◌, ◌&&◌, ◌*◌, ◌/◌, ◌==◌, ◌∷◌}
use Rattle.std.specs.Str.{str_eq_ignore_ascii_case}
use Rattle.std.specs.Str.Parse.{digits_value}

-- what values are read as, and none where they aren't of the form
abbrev pub Form : Type 0 → Type 0
Form A = List Arg → Option A

-- ... of those that pass a test
abbrev pub only : {A : Type 0} → (A → Bool) → Option A → Option A
only test None = None
only test (Some x) = if test x then Some x else None

-- any values
abbrev pub any : List Arg → Option (Unit {0})
any args = Some tt

-- one value
abbrev pub one : List Arg → Option (Unit {0})
one (arg ∷ []) = Some tt
one _ = None

-- the flag `false`
abbrev pub off : List Arg → Option (Unit {0})
off (Flag false ∷ []) = Some tt
off _ = None

-- one text
abbrev pub text : List Arg → Option (List ℕ)
text (Words t ∷ []) = Some t
text _ = None

-- no value or one text
abbrev pub perhaps_text : List Arg → Option (Unit {0})
perhaps_text [] = Some tt
perhaps_text (Words t ∷ []) = Some tt
perhaps_text _ = None

-- one text that isn't empty
abbrev pub filled : List Arg → Option (List ℕ)
filled args = only (λ t. not (is_empty t)) (text args)

-- two texts
abbrev pub two_texts : List Arg → Option (List ℕ × List ℕ)
two_texts (Words t ∷ Words u ∷ []) = Some (t, u)
two_texts _ = None

-- `All` or `Any` without case: whether one is enough
abbrev pub is_any : List ℕ → Option Bool
is_any t =
    if str_eq_ignore_ascii_case t (codes "All") then Some false
    else (if str_eq_ignore_ascii_case t (codes "Any") then Some true else None)

abbrev pub satisfy : List Arg → Option Bool
satisfy (Words t ∷ []) = is_any t
satisfy _ = None

-- a severity without case
abbrev pub severity_of : List ℕ → Option Severity
severity_of t =
    if str_eq_ignore_ascii_case t (codes "FAILURE") then Some Failure
    else (if str_eq_ignore_ascii_case t (codes "WARNING") then Some Warning
    else (if str_eq_ignore_ascii_case t (codes "OKAY") then Some Okay else None))

abbrev pub severity : List Arg → Option Severity
severity (Words t ∷ []) = severity_of t
severity _ = None

-- a flag
abbrev pub flag : List Arg → Option Bool
flag (Flag b ∷ []) = Some b
flag _ = None

-- one text that may be the host of an identifier
abbrev pub is_host : List ℕ → Bool
is_host t = is_field t && not (is_empty t) && not (has_slash t)

abbrev pub host : List Arg → Option (List ℕ)
host args = only is_host (text args)

-- one or more texts
abbrev pub is_text : Arg → Bool
is_text (Words t) = true
is_text _ = false

abbrev pub are_texts : List Arg → Bool
are_texts args = list_all is_text args

abbrev pub texts : List Arg → Option (Unit {0})
texts args = if nat_lt 0 (length args) && are_texts args then Some tt else None

abbrev pub text_in : Arg → List (List ℕ)
text_in (Words t) = t ∷ []
text_in _ = []

-- the texts among values
abbrev pub texts_among : List Arg → List (List ℕ)
texts_among args = flat_map text_in args

abbrev pub text_list : List Arg → Option (List (List ℕ))
text_list args = if nat_lt 0 (length args) && are_texts args then Some (texts_among args) else None

-- one number
abbrev pub number : List Arg → Option ℤ
number (Number n ∷ []) = Some n
number _ = None

abbrev pub some_number : List Arg → Option (Option ℤ)
some_number args = option_map (λ n. Some n) (number args)

-- one whole number between these
abbrev pub between : ℕ → ℕ → List Arg → Option ℕ
between least most args =
    option_map nat_abs (only (λ n. int_le (pos least) n && int_le n (pos most)) (number args))

abbrev pub whole : ℕ → ℕ → List Arg → Option ℕ
whole least most args =
    option_map (λ n. n / MILLIONTHS)
    (only (λ n. n % MILLIONTHS == 0) (between (least * MILLIONTHS) (most * MILLIONTHS) args))

-- seconds above 0, at most 10^9, in 2^-30 s
abbrev pub interval : List Arg → Option ℕ
interval args =
    option_map units_of_millionths
    (only (λ n. int_le (pos 1) n && int_le n DURATION_LIMIT) (number args))

-- the same, or 0
abbrev pub delay : List Arg → Option ℕ
delay args =
    option_map units_of_millionths
    (only (λ n. int_le (pos 0) n && int_le n DURATION_LIMIT) (number args))

-- a port from 1 to 65535, as a whole number or as a text: its decimal digits without a sign or a
-- leading zero
abbrev pub is_plain : List ℕ → Bool
is_plain t = nat_le 49 (slice_index t 0) && list_all is_ascii_digit t

abbrev pub is_port : ℕ → Bool
is_port n = nat_le 1 n && nat_le n 65535

abbrev pub port_of_text : List ℕ → Option ℕ
port_of_text t = if is_plain t then only is_port (Some (digits_value 10 t)) else None

abbrev pub port : List Arg → Option ℕ
port (Words t ∷ []) = port_of_text t
port args = whole 1 65535 args

-- a text, the host, and a port, without which it is the usual one
abbrev pub listen_of : List ℕ → ℕ → Listen
listen_of host port = record { host = host; port = port }

abbrev pub address : List Arg → Option Listen
address (Words h ∷ []) = Some (listen_of h PORT)
address (Words h ∷ arg ∷ []) = option_map (λ n. listen_of h n) (port (arg ∷ []))
address _ = None
