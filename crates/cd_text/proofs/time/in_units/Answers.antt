use Rattle.cd_text.proofs.Seconds.{numerator_fits, numerator_small, units_fit}
use Rattle.cd_text.proofs.time.in_units.Goals as goal
use Rattle.std.proofs.Common.{arith, length}

pub overflow_mul-result : goal.overflow_mul-result
overflow_mul-result c =
    let small = numerator_small c.args.whole c.with_digits-numerator.result (length c.args.further.now) c.requires.in_range c.with_digits-numerator.ensures.high in
    let fits = numerator_fits c.with_digits-numerator.result (length c.args.further.now) c.requires.short small in
    omega (arith, fits)

pub overflow_cast-result-2 : goal.overflow_cast-result-2
overflow_cast-result-2 c =
    let small = numerator_small c.args.whole c.with_digits-numerator.result (length c.args.further.now) c.requires.in_range c.with_digits-numerator.ensures.high in
    let fits = units_fit c.with_digits-numerator.result c.pow.result (length c.args.further.now) small c.pow.ensures in
    omega (arith, fits)

pub returns-clause-in_range : goal.returns-clause-in_range
returns-clause-in_range c =
    let small = numerator_small c.args.whole c.with_digits-numerator.result (length c.args.further.now) c.requires.in_range c.with_digits-numerator.ensures.high in
    rw (← c.with_digits-numerator.ensures.value) small
