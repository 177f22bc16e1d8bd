-- Why a values part or a message part gives no item.
use Rattle.cd_net.specs.InForce.{InForce}
use Rattle.cd_net.specs.Payload.{code_of, codes_of}
use Rattle.cd_net.specs.declared.item.ItemRefusal.TheVariants.{BadField, BadSeverity, Gauge, NoTime, NotText, UnknownType, WrongCount, WrongKind}
use Rattle.cd_net.specs.declared.item.ItemRefusal.{ItemRefusal}
use Rattle.cd_net.specs.declared.numbers.TheConstants.{FAILURE_CODE, GAUGE_CODE, OKAY_CODE, WARNING_CODE}
use Rattle.cd_types.specs.Types.{set_named}
use Rattle.cd_value.specs.Identifier.{Fields, has_bad_field, has_long_field, is_long}
use Rattle.cd_value.specs.declared.data.DataSet.{DataSet}
use Rattle.cd_value.specs.declared.data.DataSource.{DataSource}
use Rattle.std.specs.List.{list_all, list_any, zip}
use Rattle.std.specs.Option.{option_map_or}
use Rattle.std.specs.Prelude.{Bool, List, None, Option, Some, [], if◌then◌else◌, is_none, is_some, length, not, unwrap_or, ℕ, ◌&&◌, ◌==◌, ◌||◌, ◌∷◌}

-- the refusal of the first test that holds
abbrev pub first_refusal : List (Bool × ItemRefusal) → Option ItemRefusal
first_refusal [] = None
first_refusal (test ∷ tests) = if test.0 then Some test.1 else first_refusal tests

-- ---- what both have

-- the texts in force, with an empty one for each that isn't one
abbrev pub texts_of : InForce → Fields
texts_of fields = record {
  host = unwrap_or fields.host [];
  plugin = unwrap_or fields.plugin [];
  plugin_instance = unwrap_or fields.plugin_instance [];
  type_name = unwrap_or fields.type_name [];
  type_instance = unwrap_or fields.type_instance [];
}

abbrev pub are_texts : InForce → Bool
are_texts fields =
    is_some fields.host && is_some fields.plugin && is_some fields.plugin_instance
    && is_some fields.type_name && is_some fields.type_instance

-- the time and the interval are below 2^34 seconds
abbrev pub are_times : InForce → Bool
are_times fields = is_some fields.time && is_some fields.interval

abbrev pub has_time : InForce → Bool
has_time fields = not (unwrap_or fields.time 0 == 0)

-- ---- a values part

-- the data set of a type that is a text, short enough for a field, and known
abbrev pub set_of_type : List DataSet → Option (List ℕ) → Option DataSet
set_of_type types None = None
set_of_type types (Some name) = if is_long name then None else set_named name types

-- the data set of the type in force
abbrev pub set_in_force : List DataSet → InForce → Option DataSet
set_in_force types fields = set_of_type types fields.type_name

-- the sources of a data set, and none where there is none
abbrev pub sources_of : Option DataSet → List DataSource
sources_of set = option_map_or (λ s. s.sources) set []

abbrev pub is_gauge_code : ℕ → Bool
is_gauge_code code = code == GAUGE_CODE

-- a code is that of the source's kind
abbrev pub is_code_of : ℕ × DataSource → Bool
is_code_of pair = pair.0 == code_of pair.1.kind

-- why a values part gives no list of a data set, in the order of the refusals
abbrev pub list_tests : Option DataSet → InForce → List ℕ → List (Bool × ItemRefusal)
list_tests set fields payload =
    let texts = texts_of fields in
    let codes = codes_of payload in
    let sources = sources_of set in
    (not (are_texts fields), NotText)
    ∷ (has_long_field texts || has_bad_field texts || not (are_times fields), BadField)
    ∷ (list_any is_gauge_code codes, Gauge)
    ∷ (is_none set, UnknownType)
    ∷ (not (length codes == length sources), WrongCount)
    ∷ (not (list_all is_code_of (zip codes sources)), WrongKind)
    ∷ (not (has_time fields), NoTime)
    ∷ []

-- ---- a message part

abbrev pub is_severity : ℕ → Bool
is_severity code = code == FAILURE_CODE || code == WARNING_CODE || code == OKAY_CODE

-- why a message part gives no notification, in the order of the refusals
abbrev pub note_tests : InForce → Option (List ℕ) → List (Bool × ItemRefusal)
note_tests fields message =
    (not (are_texts fields && is_some message), NotText)
    ∷ (has_long_field (texts_of fields) || not (are_times fields), BadField)
    ∷ (not (is_severity fields.severity), BadSeverity)
    ∷ (not (has_time fields), NoTime)
    ∷ []
