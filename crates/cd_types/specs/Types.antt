-- The types of types.db(5), and which value lists fit them.
use Rattle.cd_value.specs.declared.data.DataSet.{DataSet}
use Rattle.cd_value.specs.declared.data.DataSource.{DataSource}
use Rattle.cd_value.specs.declared.data.DsType.TheVariants as kinds
use Rattle.cd_value.specs.declared.data.DsType.{DsType}
use Rattle.cd_value.specs.declared.data.Value.TheVariants.{Absolute, Counter, Derive, Gauge}
use Rattle.cd_value.specs.declared.data.Value.{Value}
use Rattle.cd_value.specs.declared.data.ValueList.{ValueList}
use Rattle.cd_value.specs.declared.numbers.TheConstants.{NUMBER_LIMIT}
use Rattle.std.specs.List.{find, list_all, zip}
use Rattle.std.specs.Prelude.{Bool, List, None, Option, Some, [], codes, false, length, nat_abs, nat_le, pos, true, ℕ, ℤ, ◌&&◌, ◌==◌, ◌∷◌}
use Rattle.std.specs.Str.{bytes_eq}

-- the kind of a value
abbrev pub kind_of : Value → DsType
kind_of (Counter count) = kinds.Counter
kind_of (Gauge level) = kinds.Gauge
kind_of (Derive count) = kinds.Derive
kind_of (Absolute count) = kinds.Absolute

abbrev pub is_same_kind : DsType → DsType → Bool
is_same_kind kinds.Counter kinds.Counter = true
is_same_kind kinds.Gauge kinds.Gauge = true
is_same_kind kinds.Derive kinds.Derive = true
is_same_kind kinds.Absolute kinds.Absolute = true
is_same_kind _ _ = false

-- a known gauge is at most the limit in magnitude
abbrev pub is_in_range : Value → Bool
is_in_range (Gauge (Some level)) = nat_le (nat_abs level) NUMBER_LIMIT
is_in_range _ = true

abbrev pub fits_source : DataSource → Value → Bool
fits_source source value = is_same_kind source.kind (kind_of value) && is_in_range value

-- the list's type is the set's name, and its values fit the set's sources in order
unfoldable pub fits_set : DataSet → ValueList → Bool
fits_set set list =
    bytes_eq set.name list.id.type_name
    && length set.sources == length list.values
    && list_all (λ pair. fits_source pair.0 pair.1) (zip set.sources list.values)

-- the set of that name
abbrev pub set_named : List ℕ → List DataSet → Option DataSet
set_named name sets = find (λ set. bytes_eq set.name name) sets

-- the list's type is known, and the list fits it
abbrev pub fits : List DataSet → ValueList → Bool
fits sets list =
    elim (set_named list.id.type_name sets) [ None ↦ false | Some set ↦ fits_set set list ]

-- ---- the built-in types

-- a set of that name with one source, "value", without a greatest rate
abbrev pub single : List ℕ → DsType → Option ℤ → DataSet
single name kind min =
    let source : DataSource = record { name = codes "value"; kind = kind; min = min; max = None } in
    record { name = name; sources = source ∷ [] }

unfoldable pub builtin : List DataSet
builtin =
    single (codes "absolute") kinds.Absolute (Some (pos 0))
    ∷ single (codes "counter") kinds.Counter None
    ∷ single (codes "derive") kinds.Derive (Some (pos 0))
    ∷ single (codes "gauge") kinds.Gauge None
    ∷ []
