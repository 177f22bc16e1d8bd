use Rattle.std.proofs.Common.{arith}
use Rattle.std.proofs.lemmas.Result.{err_from_is_err_and}
use Rattle.cd_settings.proofs.Folds.{ends, goes_on, is_done}
use Rattle.cd_settings.proofs.section.Section.take_all.Goals as goal

pub returns-in_err-take : goal.returns-in_err-take
returns-in_err-take g c =
    let p = err_from_is_err_and c.from_residual.result c.from_residual.ensures.1 in
    rw (p.1, p.2)
    (ends g.Self.Section.change g.Self.Section.lines c.loop-item.self _ c.args.items.now _ c.loop-item.item-index c.item-item.result (g.Self.Fault.AsItemFault.as_item_fault c.in_err-take.field-0.0) (omega arith) c.item-item.is c.in_err-take.ensures c.loop-item.invariant)

pub loop-item-preserved : goal.loop-item-preserved
loop-item-preserved g c =
    goes_on g.Self.Section.change g.Self.Section.lines c.loop-item.self c.take.new.self _ c.args.items.now _ c.loop-item.item-index c.item-item.result (omega arith) c.item-item.is c.in_ok-take.ensures c.loop-item.invariant

pub returns : goal.returns
returns g c = is_done g.Self.Section.change g.Self.Section.lines c.loop-item.self _ c.args.items.now _ c.loop-item.item-index (omega arith) c.loop-item.invariant
