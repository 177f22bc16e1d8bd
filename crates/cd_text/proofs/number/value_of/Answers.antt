use Rattle.cd_text.proofs.DigitRuns.{digits_value_after-append, room_behind}
use Rattle.cd_text.proofs.Powers.{ten_le}
use Rattle.cd_text.proofs.number.value_of.Goals as goal
use Rattle.std.proofs.Common.{ap, arith, length, sym, ℕ, ◌∙◌}
use Rattle.std.specs.Str.Parse.{digits_value_after}

pub with_digits-requires-clause-room : goal.with_digits-requires-clause-room
with_digits-requires-clause-room c = omega (arith, ten_le (length c.args.whole.now) 36 (omega arith))

pub with_digits-requires-2-clause-room : goal.with_digits-requires-2-clause-room
with_digits-requires-2-clause-room c =
    let room = room_behind c.with_digits.result (length c.args.whole.now) (length c.args.fraction.now) c.with_digits.ensures.high c.requires.short in
    omega (arith, room)

pub returns-clause-value : goal.returns-clause-value
returns-clause-value c =
    c.with_digits-2.ensures.value ∙ ap (λ (n : ℕ). digits_value_after 10 n c.args.fraction.now) c.with_digits.ensures.value
    ∙ sym (digits_value_after-append 0 c.args.whole.now c.args.fraction.now)

pub returns-clause-small : goal.returns-clause-small
returns-clause-small c =
    let room = room_behind c.with_digits.result (length c.args.whole.now) (length c.args.fraction.now) c.with_digits.ensures.high c.requires.short in
    omega (arith, room, c.with_digits-2.ensures.high)
