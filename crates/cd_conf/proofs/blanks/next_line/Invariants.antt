use Rattle.cd_conf.proofs.blanks.next_line.Given as goal
use Rattle.cd_conf.specs.Blanks.{next_line}
use Rattle.cd_conf.specs.Place.{characters_left, position}
use Rattle.std.proofs.Common.{◌≡◌, ◌≤◌}

abbrev pub invariant-loop-c : goal.invariant-loop-c
invariant-loop-c l = record {
  same : next_line (position l.place) ≡ next_line (position l.fn.place);
  later : characters_left l.place ≤ characters_left l.fn.place;
}

abbrev pub decreases-loop-c : goal.decreases-loop-c
decreases-loop-c l = characters_left l.place
