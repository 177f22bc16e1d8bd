use Rattle.std.proofs.Common.{◌≡◌, ◌++◌, ◌<◌, length}
use Rattle.cd_walks.specs.Levels.{AreLevels}
use Rattle.cd_walks.specs.Walks.{items_of, walk}
use Rattle.cd_walks.proofs.walks.walk_of.Given as goal

abbrev pub invariant-loop-level : goal.invariant-loop-level
invariant-loop-level l = record {
  here : l.at < length l.jumps;
  are : AreLevels (items_of l.jumps) l.to l.levels.items;
  same : l.walk.items ++ walk (items_of l.jumps) l.to (length l.levels.items) l.at ≡ walk (items_of l.jumps) l.to l.count l.start;
}

abbrev pub decreases-loop-level : goal.decreases-loop-level
decreases-loop-level l = length l.levels.items
