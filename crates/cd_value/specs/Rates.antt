-- The rate of a value against the value before it: a fraction of millionths per second, or unknown.
use Rattle.cd_value.specs.declared.data.DataSource.{DataSource}
use Rattle.cd_value.specs.declared.data.Rate.TheVariants.{Known, Unknown}
use Rattle.cd_value.specs.declared.data.Rate.{Rate}
use Rattle.cd_value.specs.declared.data.Value.TheVariants.{Absolute, Counter, Derive, Gauge}
use Rattle.cd_value.specs.declared.data.Value.{Value}
use Rattle.cd_value.specs.declared.numbers.TheConstants.{MILLIONTHS, SECOND, WRAP_OF_32_BITS}
use Rattle.std.specs.Prelude.{Bool, None, Option, Some, false, if◌then◌else◌, int_div, int_le, nat_abs, nat_le, nat_lt, not, pos, true, ℕ, ℤ, ◌&&◌, ◌*ℤ◌, ◌*◌, ◌+◌, ◌-ℤ◌, ◌-◌, ◌<◌, ◌==◌, ◌^◌, ◌≡◌, ◌≤ℤ◌, ◌≤◌}

-- a rate is known, and its denominator isn't 0
abbrev pub is_known : Rate → Bool
is_known (Known num den) = not (den == 0)
is_known Unknown = false

-- a fraction is at least, or at most, a bound by the products of whole numbers, which have no
-- limit; an unknown rate, as which a denominator of 0 reads, is neither
abbrev pub at_least : Rate → ℤ → Bool
at_least (Known num den) bound = not (den == 0) && int_le (bound *ℤ pos den) num
at_least Unknown bound = false

abbrev pub at_most : Rate → ℤ → Bool
at_most (Known num den) bound = not (den == 0) && int_le num (bound *ℤ pos den)
at_most Unknown bound = false

-- the whole millionths of a rate, toward zero
abbrev pub millionths : Rate → Option ℤ
millionths (Known num den) = if den == 0 then None else Some (int_div num (pos den))
millionths Unknown = None

-- a whole number is num / den without the part below one, which is cut off toward zero
pub record IsCut (num : ℤ) (den : ℕ) (m : ℤ) : Type 0 where
  pub within : nat_abs m * den ≤ nat_abs num
  pub closest : nat_abs num < (nat_abs m + 1) * den
  pub not_negative : pos 0 ≤ℤ num → pos 0 ≤ℤ m
  pub not_positive : num ≤ℤ pos 0 → m ≤ℤ pos 0

-- the same of a known rate
abbrev pub IsCutOf : Rate → ℤ → Type 0
IsCutOf (Known num den) m = IsCut num den m
IsCutOf Unknown m = ⊥

-- a change over a time, in millionths per second
abbrev pub per_second : ℤ → ℕ → Rate
per_second change dt = if dt == 0 then Unknown else Known (change *ℤ pos (MILLIONTHS * SECOND)) dt

-- where a counter wraps that stood at a value
abbrev pub wrap_of : ℕ → ℕ
wrap_of from = if nat_lt from WRAP_OF_32_BITS then WRAP_OF_32_BITS else 2 ^ 64

-- how far a counter has come, where a smaller value means that it wrapped
abbrev pub counter_change : ℕ → ℕ → ℕ
counter_change old new = if nat_le old new then new - old else wrap_of old - old + new

-- the rate before its range is looked at; only a gauge needs no earlier value
abbrev pub rate_of_change : Option Value → Value → ℕ → Rate
rate_of_change old (Gauge None) dt = Unknown
rate_of_change old (Gauge (Some x)) dt = Known x 1
rate_of_change (Some (Derive a)) (Derive b) dt = per_second (b -ℤ a) dt
rate_of_change (Some (Counter a)) (Counter b) dt = per_second (pos (counter_change a b)) dt
rate_of_change (Some old) (Absolute b) dt = per_second (pos b) dt
rate_of_change _ _ dt = Unknown

-- a bound that isn't given always holds
abbrev pub reaches_min : Rate → Option ℤ → Bool
reaches_min rate None = true
reaches_min rate (Some min) = at_least rate min

abbrev pub keeps_max : Rate → Option ℤ → Bool
keeps_max rate None = true
keeps_max rate (Some max) = at_most rate max

-- a rate is within its source's range
abbrev pub is_within : DataSource → Rate → Bool
is_within source rate = reaches_min rate source.min && keeps_max rate source.max

-- a rate outside its source's range is unknown
abbrev pub in_range : DataSource → Rate → Rate
in_range source rate = if is_within source rate then rate else Unknown

abbrev pub is_gauge : Value → Bool
is_gauge (Gauge level) = true
is_gauge _ = false

-- a count leads a counter from one value to another, where it wraps once if it stands lower then
abbrev pub LeadsTo : ℕ → ℕ → ℕ → Type 0
LeadsTo from count to = from + count ≡ (if nat_le from to then to else to + wrap_of from)

-- of a counter, a rate that is known is a count by the time, where the count leads from the old
-- value to the new
abbrev pub IsOfCount : Option Value → Value → ℕ → Rate → Type 0
IsOfCount (Some (Counter from)) (Counter to) dt (Known num den) =
    (count : ℕ) × LeadsTo from count to × (num ≡ pos (count * (MILLIONTHS * SECOND))) × (den ≡ dt)
IsOfCount _ _ _ _ = Unit {0}

-- the rate of a value against the one before it, which came dt earlier
abbrev pub rate_of : DataSource → Option Value → Value → ℕ → Rate
rate_of source old new dt = in_range source (rate_of_change old new dt)
