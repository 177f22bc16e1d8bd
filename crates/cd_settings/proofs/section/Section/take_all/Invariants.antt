use Rattle.std.proofs.Common.{drop}
use Rattle.cd_settings.proofs.Folds.{Stands}
use Rattle.cd_settings.proofs.section.Section.take_all.Given as goal

abbrev pub invariant-loop-item : goal.invariant-loop-item
invariant-loop-item g l = Stands g.Self.Section.change g.Self.Section.lines l.self (drop l.item-index l.items) l.fn.self l.fn.items
