use Rattle.cd_text.proofs.DigitRuns.{high_more, is_digit, low_more, one_more, room_for}
use Rattle.cd_text.proofs.digits.with_digits.Goals as goal
use Rattle.std.proofs.Common.{arith, length, ◌+◌}
use Rattle.std.proofs.lemmas.Str.{digit_value_digit}

pub overflow_mul-value : goal.overflow_mul-value
overflow_mul-value c =
    let room = room_for c.args.front (c.loop-digit.digit-index + 1) (length c.args.digits.now) (omega arith) c.requires.room in
    let high = high_more c.args.front c.loop-digit.value 0 c.loop-digit.digit-index c.loop-digit.invariant.high (omega arith) in
    omega (arith, room, high)

pub overflow_add-value : goal.overflow_add-value
overflow_add-value c =
    let digit = is_digit c.args.digits.now c.loop-digit.digit-index c.requires.digits c.loop-digit-test.true in
    let room = room_for c.args.front (c.loop-digit.digit-index + 1) (length c.args.digits.now) (omega arith) c.requires.room in
    let high = high_more c.args.front c.loop-digit.value 9 c.loop-digit.digit-index c.loop-digit.invariant.high (omega arith) in
    omega (arith, room, high, digit.0, digit.1)

pub loop-digit-preserved : goal.loop-digit-preserved
loop-digit-preserved c =
    let digit = is_digit c.args.digits.now c.loop-digit.digit-index c.requires.digits c.loop-digit-test.true in
    let same = digit_value_digit _ digit in
    let more = one_more c.args.front c.args.digits.now c.loop-digit.digit-index c.loop-digit-test.true in
    record {
      value = omega (arith, more, same, digit.0, digit.1, c.loop-digit.invariant.value);
      low = low_more c.args.front c.loop-digit.value _ c.loop-digit.digit-index c.loop-digit.invariant.low;
      high = high_more c.args.front c.loop-digit.value _ c.loop-digit.digit-index c.loop-digit.invariant.high (omega (arith, digit.0, digit.1));
    }
