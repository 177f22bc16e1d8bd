use Rattle.cd_conf.proofs.blanks.skip_blanks.Given as goal
use Rattle.cd_conf.specs.Blanks.{behind_blanks}
use Rattle.cd_conf.specs.Place.{characters_left, position}
use Rattle.std.proofs.Common.{◌≡◌, ◌≤◌}

abbrev pub invariant-loop-next : goal.invariant-loop-next
invariant-loop-next l = record {
  same : behind_blanks (position l.place) ≡ behind_blanks (position l.fn.place);
  later : characters_left l.place ≤ characters_left l.fn.place;
}

abbrev pub decreases-loop-next : goal.decreases-loop-next
decreases-loop-next l = characters_left l.place
