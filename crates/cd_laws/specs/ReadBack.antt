-- What printed numbers read as.
use Rattle.cd_text.specs.declared.fault.NumFault.TheVariants.{OutOfRange}
use Rattle.cd_text.specs.declared.fault.NumFault.{NumFault}
use Rattle.cd_value.specs.declared.numbers.TheConstants.{NUMBER_LIMIT}
use Rattle.std.specs.Prelude.{Err, Ok, Result, if◌then◌else◌, nat_abs, nat_le, ℤ}

-- the number of millionths itself, which is out of range above the limit in magnitude
abbrev pub read_back : ℤ → Result ℤ NumFault
read_back value = if nat_le (nat_abs value) NUMBER_LIMIT then Ok value else Err OutOfRange
