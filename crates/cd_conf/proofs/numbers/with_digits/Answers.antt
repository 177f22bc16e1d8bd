use Rattle.cd_conf.proofs.Magnitudes.{above_digits, one_more, within}
use Rattle.cd_conf.proofs.numbers.with_digits.Goals as goal
use Rattle.cd_conf.specs.Numbers.{millionths_limit}
use Rattle.std.proofs.Common.{ap, arith, drop, get_or, sym, ℕ, ◌*◌, ◌+◌, ◌∙◌}
use Rattle.std.specs.Char.{digit_value}
use Rattle.std.specs.Str.Parse.{digits_value_after}

pub loop-digit-preserved : goal.loop-digit-preserved
loop-digit-preserved c =
    let w = within millionths_limit _ c.in-Some.more (sym c.in-Some.ensures) in
    record {
      low = omega (arith, w.0, w.1);
      value = ap (λ (n : ℕ). digits_value_after c.args.base n (drop (c.loop-digit.digit-index + 1) c.args.digits.now)) w.0
          ∙ sym (one_more c.args.base c.loop-digit.number c.args.digits.now c.loop-digit.digit-index c.loop-digit-test.true) ∙ c.loop-digit.invariant.value;
    }

pub returns-in-None : goal.returns-in-None
returns-in-None c =
    above_digits millionths_limit c.args.base (c.loop-digit.number * c.args.base + digit_value (get_or c.args.digits.now c.loop-digit.digit-index 0))
    (drop (c.loop-digit.digit-index + 1) c.args.digits.now) _ c.requires.least
    (sym (one_more c.args.base c.loop-digit.number c.args.digits.now c.loop-digit.digit-index c.loop-digit-test.true) ∙ c.loop-digit.invariant.value) c.in-None.ensures
