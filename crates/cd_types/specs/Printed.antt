-- The printed form of data sets.
use Rattle.cd_types.specs.declared.limits.TheConstants.{DECIMALS}
use Rattle.cd_value.specs.Print.{digit}
use Rattle.cd_value.specs.declared.data.DataSet.{DataSet}
use Rattle.cd_value.specs.declared.data.DataSource.{DataSource}
use Rattle.cd_value.specs.declared.data.DsType.TheVariants.{Absolute, Counter, Derive, Gauge}
use Rattle.cd_value.specs.declared.data.DsType.{DsType}
use Rattle.cd_value.specs.declared.numbers.TheConstants.{MILLIONTHS}
use Rattle.std.specs.Fmt.{decimal}
use Rattle.std.specs.List.{flat_map}
use Rattle.std.specs.Prelude.{List, None, Option, Some, [], codes, if◌then◌else◌, negsuc, pos, suc, zero, ℕ, ℤ, ◌%◌, ◌++◌, ◌/◌, ◌==◌, ◌^◌, ◌∷◌}

-- so many decimals of a number below 1, given in units of the last; no zero at the end
unfoldable pub decimals : ℕ → ℕ → List ℕ
decimals zero n = []
decimals (suc k) n = if n == 0 then [] else digit (n / 10 ^ k) ∷ decimals k (n % 10 ^ k)

-- a dot and decimals, where they aren't 0
abbrev pub fraction_text : ℕ → List ℕ
fraction_text n = if n == 0 then [] else 46 ∷ decimals DECIMALS n

-- millionths as a decimal number without needless zeros
abbrev pub unsigned_text : ℕ → List ℕ
unsigned_text n = decimal (n / MILLIONTHS) ++ fraction_text (n % MILLIONTHS)

abbrev pub number_text : ℤ → List ℕ
number_text (pos n) = unsigned_text n
number_text (negsuc n) = 45 ∷ unsigned_text (suc n)

-- a bound; U for none
abbrev pub bound_text : Option ℤ → List ℕ
bound_text None = codes "U"
bound_text (Some n) = number_text n

abbrev pub kind_text : DsType → List ℕ
kind_text Absolute = codes "ABSOLUTE"
kind_text Counter = codes "COUNTER"
kind_text Derive = codes "DERIVE"
kind_text Gauge = codes "GAUGE"

-- an entry
abbrev pub source_text : DataSource → List ℕ
source_text s =
    s.name ++ codes ":" ++ kind_text s.kind ++ codes ":" ++ bound_text s.min ++ codes ":" ++ bound_text s.max

-- the entries behind the first
abbrev pub next_text : DataSource → List ℕ
next_text s = codes ", " ++ source_text s

abbrev pub sources_text : List DataSource → List ℕ
sources_text [] = []
sources_text (s ∷ ss) = source_text s ++ flat_map next_text ss

-- the name, a space, the entries, and a newline
abbrev pub set_text : DataSet → List ℕ
set_text set = set.name ++ codes " " ++ sources_text set.sources ++ codes "\n"

-- a line a set
abbrev pub sets_text : List DataSet → List ℕ
sets_text sets = flat_map set_text sets
