use Rattle.std.proofs.Common.{◌∙◌, sym}
use Rattle.cd_walks.proofs.Stepping.{equal}
use Rattle.cd_walks.proofs.near.are_same.Goals as goal

pub returns : goal.returns
returns c = λ is. equal c.args.marks.now c.args.others.now (sym c.eq.ensures ∙ is)
