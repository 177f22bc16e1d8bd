-- An entry of a line, `ds-name:ds-type:min:max`.
use Rattle.cd_reading.specs.First.{unless, ◌>>=◌}
use Rattle.cd_text.specs.Number.{number_of}
use Rattle.cd_text.specs.declared.fault.NumFault.{NumFault}
use Rattle.cd_types.specs.declared.fault.TypesKind.TheVariants.{BadBound, BadKind, BadSource, TooMany}
use Rattle.cd_types.specs.declared.fault.TypesKind.{TypesKind}
use Rattle.cd_types.specs.declared.limits.TheConstants.{SOURCES_LIMIT, SOURCE_NAME_LIMIT}
use Rattle.cd_value.specs.declared.data.DataSource.{DataSource}
use Rattle.cd_value.specs.declared.data.DsType.TheVariants.{Absolute, Counter, Derive, Gauge}
use Rattle.cd_value.specs.declared.data.DsType.{DsType}
use Rattle.std.specs.Char.{is_ascii_alphanumeric}
use Rattle.std.specs.List.{before_first, list_all, list_any, slice_split}
use Rattle.std.specs.Prelude.{Bool, Err, List, None, Ok, Option, Result, Some, [], codes, if◌then◌else◌, int_le, length, nat_le, nat_lt, not, slice_index, take, true, ℕ, ℤ, ◌&&◌, ◌-◌, ◌==◌, ◌||◌, ◌∷◌}
use Rattle.std.specs.Str.{bytes_eq, str_eq_ignore_ascii_case}

abbrev pub is_comma : ℕ → Bool
is_comma b = b == 44

abbrev pub is_colon : ℕ → Bool
is_colon b = b == 58

-- a letter, a digit or _
abbrev pub is_in_name : ℕ → Bool
is_in_name b = is_ascii_alphanumeric b || b == 95

-- at least one and at most so many letters, digits and _
abbrev pub is_name : ℕ → List ℕ → Bool
is_name most t = nat_lt 0 (length t) && (nat_le (length t) most && list_all is_in_name t)

-- an entry without the comma behind it
abbrev pub without_comma : List ℕ → List ℕ
without_comma t = if is_comma (slice_index t (length t - 1)) then take (length t - 1) t else t

-- the parts of an entry
abbrev pub parts_of : List ℕ → List (List ℕ)
parts_of entry = slice_split is_colon (without_comma entry)

-- the part that names the source
abbrev pub name_of : List ℕ → List ℕ
name_of entry = before_first is_colon (without_comma entry)

-- the kind of that name, whatever the case of the letters
abbrev pub kind_named : List ℕ → Option DsType
kind_named t =
    if str_eq_ignore_ascii_case t (codes "ABSOLUTE") then Some Absolute
    else if str_eq_ignore_ascii_case t (codes "COUNTER") then Some Counter
    else if str_eq_ignore_ascii_case t (codes "DERIVE") then Some Derive
    else if str_eq_ignore_ascii_case t (codes "GAUGE") then Some Gauge
    else None

abbrev pub number_or_none : Result ℤ NumFault → Option (Option ℤ)
number_or_none (Ok n) = Some (Some n)
number_or_none (Err fault) = None

-- U for no bound, or a number; none for any other text
abbrev pub bound_of : List ℕ → Option (Option ℤ)
bound_of t = if bytes_eq t (codes "U") then Some None else number_or_none (number_of t)

-- the minimum isn't above the maximum
abbrev pub are_in_order : Option ℤ → Option ℤ → Bool
are_in_order None max = true
are_in_order (Some least) None = true
are_in_order (Some least) (Some greatest) = int_le least greatest

-- the value, or the fault where there is none
abbrev pub need : {A : Type 0} → TypesKind → Option A → Result A TypesKind
need fault None = Err fault
need fault (Some x) = Ok x

-- the source of four parts, of which the first fault is that of the earliest; any other number of
-- parts is a bad source
abbrev pub source_of : Bool → List (List ℕ) → Result DataSource TypesKind
source_of is_taken (name ∷ kind ∷ min ∷ max ∷ []) =
    unless ((is_name SOURCE_NAME_LIMIT name && not is_taken, BadSource) ∷ []) name >>= λ name.
    need BadKind (kind_named kind) >>= λ kind.
    need BadBound (bound_of min) >>= λ min.
    need BadBound (bound_of max) >>= λ max.
    unless ((are_in_order min max, BadBound) ∷ [])
    (record { name = name; kind = kind; min = min; max = max })
source_of is_taken parts = Err BadSource

-- an earlier entry has that name
abbrev pub is_taken : List (List ℕ) → List ℕ → Bool
is_taken earlier name = list_any (λ entry. bytes_eq (name_of entry) name) earlier

-- the source of an entry behind the earlier ones of its line
unfoldable pub source_behind : List (List ℕ) → List ℕ → Result DataSource TypesKind
source_behind earlier entry =
    unless
    ((nat_lt (length earlier) SOURCES_LIMIT, TooMany)
    ∷ (not (list_any is_comma (without_comma entry)), BadSource) ∷ []) entry >>= λ entry.
    source_of (is_taken earlier (name_of entry)) (parts_of entry)
