use Rattle.cd_core.proofs.flush.count_answer.Goals as goal
use Rattle.cd_core.specs.UnderWay.{counted_as}
use Rattle.std.proofs.Common.{ap, arith, length, set, ◌<◌, ◌∙◌}
use Rattle.std.proofs.lemmas.List.Edits.{map_over_more}
use Rattle.std.proofs.lemmas.List.{get_or_default}

pub loop-flush-preserved : goal.loop-flush-preserved
loop-flush-preserved c =
    let i = c.loop-flush.flush-index in
    let ys = c.loop-flush.flushes in
    let within : i < length ys = omega (arith, c.loop-flush-test.true, c.loop-flush.auto.flushes) in
    ap (set ys i) c.count_as.ensures
    ∙ map_over_more (counted_as c.args.number c.args.answer) c.args.flushes.now ys i _ c.loop-flush-test.true c.loop-flush.invariant (get_or_default ys i _ _ within)
