use Rattle.cd_conf.proofs.BlankRuns.{next_shrinks}
use Rattle.cd_conf.proofs.text.take_line.Goals as goal
use Rattle.cd_conf.specs.Place.{position}
use Rattle.cd_conf.specs.Position.{Position}
use Rattle.std.proofs.Common.{ap, arith, length}
use Rattle.std.specs.Str.{chars}

pub returns-then-is_line_end-clause-later : goal.returns-then-is_line_end-clause-later
returns-then-is_line_end-clause-later c =
    let s = next_shrinks (position c.args.place) c.in-Some.field-0.0 (chars c.in-Some.field-0.1.now) c.in-Some.ensures.first in
    let same = ap (λ (p : Position). length p.rest) c.next_line.ensures.place in
    omega (arith, s, same)
