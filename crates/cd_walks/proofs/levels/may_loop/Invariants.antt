use Rattle.cd_walks.specs.Levels.{Marks, is_deep}
use Rattle.cd_walks.specs.Walks.{items_of}
use Rattle.cd_walks.proofs.levels.may_loop.Given as goal

abbrev pub invariant-loop-n : goal.invariant-loop-n
invariant-loop-n l = Marks (is_deep (items_of l.jumps) l._n) l.deep.items
