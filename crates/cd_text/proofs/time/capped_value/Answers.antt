use Rattle.cd_text.proofs.DigitRuns.{is_digit, one_more}
use Rattle.cd_text.proofs.time.capped_value.Goals as goal
use Rattle.std.proofs.Common.{arith}
use Rattle.std.proofs.lemmas.Str.{digit_value_digit}

pub loop-digit-preserved : goal.loop-digit-preserved
loop-digit-preserved c =
    let digit = is_digit c.args.digits.now c.loop-digit.digit-index c.requires c.loop-digit-test.true in
    let same = digit_value_digit _ digit in
    let more = one_more 0 c.args.digits.now c.loop-digit.digit-index c.loop-digit-test.true in
    omega (arith, more, same, digit.0, digit.1, c.loop-digit.invariant)
