use Rattle.cd_conf.proofs.Repeating.{Going}
use Rattle.cd_conf.proofs.values.values.Given as goal
use Rattle.cd_conf.specs.Place.{characters_left, position}
use Rattle.cd_conf.specs.Position.{Position}
use Rattle.cd_conf.specs.Values.{value_at, values_at}
use Rattle.std.proofs.Common.{length, ◌≤◌}

abbrev pub invariant-loop-args : goal.invariant-loop-args
invariant-loop-args l = record {
  going : Going (λ (p : Position). length p.rest) value_at l.args (position l.place) (values_at (position l.fn.place));
  later : characters_left l.place ≤ characters_left l.fn.place;
}

abbrev pub decreases-loop-args : goal.decreases-loop-args
decreases-loop-args l = characters_left l.place
