use Rattle.cd_text.proofs.time.capped_value.Given as goal
use Rattle.std.proofs.Common.{min, take, ◌^◌, ◌≡◌}
use Rattle.std.specs.Str.Parse.{digits_value}

abbrev pub invariant-loop-digit : goal.invariant-loop-digit
invariant-loop-digit l = l.value ≡ min (digits_value 10 (take l.digit-index l.digits)) (2 ^ 34)
