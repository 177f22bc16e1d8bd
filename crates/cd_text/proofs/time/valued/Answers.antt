use Rattle.cd_text.proofs.Seconds.{before_end, past_end}
use Rattle.cd_text.proofs.time.valued.Goals as goal
use Rattle.cd_text.specs.Time.{further, parts}

pub returns-then-whole-eq-SECONDS_END : goal.returns-then-whole-eq-SECONDS_END
returns-then-whole-eq-SECONDS_END c =
    past_end c.args.seconds.now.whole.now (further (parts c.args.seconds.now)) c.capped_value-whole.result c.capped_value-whole.ensures c.if-whole-eq-SECONDS_END.true

pub returns : goal.returns
returns c =
    rw (← c.further_digits.ensures.value)
    (before_end c.args.seconds.now.whole.now c.further_digits.result.now c.capped_value-whole.result c.in_units.result
    c.capped_value-whole.ensures c.if-whole-eq-SECONDS_END.false c.in_units.ensures.value c.in_units.ensures.in_range)
