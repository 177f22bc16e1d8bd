use Rattle.cd_conf.proofs.LineRuns.{all_lines}
use Rattle.cd_conf.proofs.Repeating.{Going}
use Rattle.cd_conf.proofs.text.lines.Given as goal
use Rattle.cd_conf.specs.Pile.{opens_in, statements_in}
use Rattle.cd_conf.specs.Place.{characters_left, position}
use Rattle.cd_conf.specs.Statements.{Stand, line_at, stand}
use Rattle.std.proofs.Common.{length}

abbrev pub invariant-loop-pile : goal.invariant-loop-pile
invariant-loop-pile l =
    Going (λ (s : Stand). length s.place.rest) line_at (statements_in l.pile) (stand (opens_in l.pile) (position l.place)) (all_lines (position l.fn.place))

abbrev pub decreases-loop-pile : goal.decreases-loop-pile
decreases-loop-pile l = characters_left l.place
