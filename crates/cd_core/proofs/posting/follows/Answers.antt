use Rattle.cd_core.proofs.Room.{among_last}
use Rattle.cd_core.proofs.posting.follows.Goals as goal
use Rattle.std.proofs.Common.{arith, sym, ◌∙◌}

pub returns : goal.returns
returns c = λ to.
    among_last c.args.posts.now c.args.at c.args.reg c.index-posts-at.result c.if-at-eq0.false (omega (arith, c.if-at-eq0.false, c.requires)) c.index-posts-at.is
    (sym c.goes_to.ensures ∙ to)
