use Rattle.cd_conf.proofs.numbers.with_digits.Given as goal
use Rattle.cd_conf.specs.Numbers.{millionths_limit}
use Rattle.std.proofs.Common.{drop, ◌≡◌, ◌≤◌}
use Rattle.std.specs.Str.Parse.{digits_value_after}

abbrev pub invariant-loop-digit : goal.invariant-loop-digit
invariant-loop-digit l = record {
  low : l.number ≤ millionths_limit;
  value : digits_value_after l.base l.number (drop l.digit-index l.digits) ≡ digits_value_after l.base l.fn.front l.digits;
}
