-- How numbers of millionths and rates are printed.
use Rattle.cd_value.specs.Rates.{millionths}
use Rattle.cd_value.specs.declared.data.Rate.{Rate}
use Rattle.cd_value.specs.declared.numbers.TheConstants.{MILLIONTHS}
use Rattle.std.specs.Fmt.{decimal}
use Rattle.std.specs.Prelude.{List, None, Option, Some, [], codes, negsuc, pos, suc, ℕ, ℤ, ◌%◌, ◌++◌, ◌+◌, ◌/◌, ◌^◌, ◌∷◌}

-- the last decimal digit of a number
abbrev pub digit : ℕ → ℕ
digit n = 48 + n % 10

-- six digits, with zeros in front
abbrev pub six_digits : ℕ → List ℕ
six_digits n =
    digit (n / 100000) ∷ digit (n / 10000) ∷ digit (n / 1000)
    ∷ digit (n / 100) ∷ digit (n / 10) ∷ digit n ∷ []

-- the whole units, a dot and six decimals
abbrev pub unsigned_text : ℕ → List ℕ
unsigned_text n = decimal (n / MILLIONTHS) ++ 46 ∷ six_digits (n % MILLIONTHS)

-- with a minus only below zero
abbrev pub millionths_text : ℤ → List ℕ
millionths_text (pos n) = unsigned_text n
millionths_text (negsuc n) = 45 ∷ unsigned_text (suc n)

abbrev pub number_or_nan : Option ℤ → List ℕ
number_or_nan None = codes "NaN"
number_or_nan (Some value) = millionths_text value

-- the whole millionths of a rate, or NaN
abbrev pub rate_text : Rate → List ℕ
rate_text rate = number_or_nan (millionths rate)
