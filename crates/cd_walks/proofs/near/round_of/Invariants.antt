use Rattle.std.proofs.Common.{◌≡◌, false}
use Rattle.cd_walks.specs.Levels.{Marks, reaches}
use Rattle.cd_walks.specs.Walks.{items_of}
use Rattle.cd_walks.proofs.near.round_of.Given as goal

abbrev pub invariant-loop-n : goal.invariant-loop-n
invariant-loop-n l = record {
  are : Marks (reaches (items_of l.jumps) l.chain l.n) l.marks.items;
  not_yet : reaches (items_of l.jumps) l.chain l.n l.chain ≡ false;
}
