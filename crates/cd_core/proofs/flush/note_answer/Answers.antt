use Rattle.cd_core.proofs.FlushCounts.{affected, unaffected}
use Rattle.cd_core.proofs.flush.note_answer.Goals as goal
use Rattle.cd_core.specs.UnderWay.{counted_as}
use Rattle.std.proofs.Common.{ap, length, map, sym, ◌∙◌}
use Rattle.std.proofs.lemmas.List.{with_items_is}

pub returns-in-Some : goal.returns-in-Some
returns-in-Some c =
    affected c.args.call.now c.args.answer c.in-Some.number c.args.flushes.now.items _ (sym c.in-Some.ensures)
    (with_items_is c.args.flushes.now c.count_answer.new.flushes (c.count_answer.auto.flushes ∙ ap length c.as_mut_slice.ensures.value ∙ sym c.args.flushes.now.ok.0)
    ∙ c.count_answer.ensures ∙ ap (map (counted_as c.in-Some.number c.args.answer)) c.as_mut_slice.ensures.value)

pub returns-in-None : goal.returns-in-None
returns-in-None c = unaffected c.args.call.now c.args.answer _ (sym c.in-None.ensures)
