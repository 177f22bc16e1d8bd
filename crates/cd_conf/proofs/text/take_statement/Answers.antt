use Rattle.cd_conf.proofs.LineRuns.{head_shorter, if_ok}
use Rattle.cd_conf.proofs.text.take_statement.Goals as goal
use Rattle.cd_conf.specs.Place.{characters_left}
use Rattle.cd_conf.specs.declared.place.Place.{Place}
use Rattle.std.proofs.Common.{arith, sym, ◌<◌, ◌≤◌}
use Rattle.std.specs.Str.{chars}

pub returns-in-Some-clause-later : goal.returns-in-Some-clause-later
returns-in-Some-clause-later c =
    let found = rw c.in-Some.is at c.in_ok-head_at.ensures.value in
    let h = head_shorter (chars c.args.place.rest.now) c.in-Some.head (chars c.in-Some.rest.now) (sym found) in
    if_ok c.take_behind.result (λ (next : Place). characters_left next ≤ characters_left c.skip_blanks-behind.result) (λ (next : Place). characters_left next < characters_left c.args.place)
    (λ next le. omega (arith, h, le, c.skip_blanks-behind.ensures.later)) c.take_behind.ensures.later
