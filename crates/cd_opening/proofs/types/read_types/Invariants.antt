use Rattle.cd_opening.proofs.Reading.{Reads}
use Rattle.cd_opening.proofs.types.read_types.Given as goal
use Rattle.std.proofs.Common.{◌≡◌}

-- the types of the files so far stand for the paths before this one, and no call failed
abbrev pub invariant-loop-path : goal.invariant-loop-path
invariant-loop-path g l = record {
  reads : Reads l.paths l.path-index l.types (g.W.World.world_tells l.fn.world).files (g.W.World.world_tells l.world).files;
  faults : (g.W.World.world_tells l.world).faults ≡ (g.W.World.world_tells l.fn.world).faults;
  reading_faults : (g.W.World.world_tells l.world).reading_faults ≡ (g.W.World.world_tells l.fn.world).reading_faults;
  clock : g.W.World.world_clock_pair l.world ≡ g.W.World.world_clock_pair l.fn.world;
  dice : g.W.World.world_dice_pair l.world ≡ g.W.World.world_dice_pair l.fn.world;
}
