use Rattle.cd_text.proofs.digits.with_digits.Given as goal
use Rattle.std.proofs.Common.{take, ◌*◌, ◌+◌, ◌<◌, ◌^◌, ◌≡◌, ◌≤◌}
use Rattle.std.specs.Str.Parse.{digits_value_after}

abbrev pub invariant-loop-digit : goal.invariant-loop-digit
invariant-loop-digit l = record {
  value : l.value ≡ digits_value_after 10 l.fn.front (take l.digit-index l.digits);
  low : l.fn.front * 10 ^ l.digit-index ≤ l.value;
  high : l.value < (l.fn.front + 1) * 10 ^ l.digit-index;
}
