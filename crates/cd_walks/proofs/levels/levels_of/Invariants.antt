use Rattle.std.proofs.Common.{◌≡◌, length}
use Rattle.cd_walks.specs.Levels.{AreLevels, Marks}
use Rattle.cd_walks.specs.Walks.{items_of, leads}
use Rattle.cd_walks.proofs.levels.levels_of.Given as goal

abbrev pub invariant-loop-n : goal.invariant-loop-n
invariant-loop-n l = record {
  many : length l.levels.items ≡ l._n;
  are : AreLevels (items_of l.jumps) l.to l.levels.items;
  level : Marks (leads (items_of l.jumps) l.to l._n) l.level.items;
}
