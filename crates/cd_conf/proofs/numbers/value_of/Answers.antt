use Rattle.cd_conf.proofs.Magnitudes.{above_digits, above_power, within}
use Rattle.cd_conf.proofs.numbers.value_of.Goals as goal
use Rattle.cd_conf.specs.Numbers.{at_most, millionths_limit}
use Rattle.cd_conf.specs.declared.limits.TheConstants.{DECIMALS_LIMIT}
use Rattle.std.proofs.Common.{ap, arith, length, refl, sym, ℕ, ◌-◌, ◌∙◌}
use Rattle.std.specs.Str.Parse.{digits_value, digits_value_after}

pub returns-in-None : goal.returns-in-None
returns-in-None c =
    above_power millionths_limit _ (DECIMALS_LIMIT - length c.args.form.decimals.now)
    (above_digits millionths_limit 10 (digits_value c.args.form.base c.args.form.whole.now) c.args.form.decimals.now _ (omega arith) refl c.in-None.ensures)

pub returns-in-None-with_digits : goal.returns-in-None-with_digits
returns-in-None-with_digits c =
    let w = within millionths_limit _ c.in-Some.whole (sym c.in-Some.ensures) in
    above_power millionths_limit _ (DECIMALS_LIMIT - length c.args.form.decimals.now)
    (c.in-None-with_digits.ensures ∙ ap (λ (n : ℕ). at_most millionths_limit (digits_value_after 10 n c.args.form.decimals.now)) w.0)
