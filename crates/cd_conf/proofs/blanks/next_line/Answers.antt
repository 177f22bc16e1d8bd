use Rattle.cd_conf.proofs.BlankRuns.{line_goes_on, newline_here, text_ends}
use Rattle.cd_conf.proofs.blanks.next_line.Goals as goal
use Rattle.cd_conf.specs.Place.{position}
use Rattle.std.proofs.Common.{arith, ◌∙◌}

pub returns-then-c-eq10-clause-place : goal.returns-then-c-eq10-clause-place
returns-then-c-eq10-clause-place c =
    c.skip_blanks.ensures.place
    ∙ newline_here (position c.loop-c.place) (position c.in-Some.behind) c.in-Some.c c.in-Some.ensures.first c.in-Some.ensures.line c.if-c-eq10.true ∙ c.loop-c.invariant.same

pub loop-c-preserved : goal.loop-c-preserved
loop-c-preserved c = record {
  same = line_goes_on (position c.loop-c.place) (position c.in-Some.behind) c.in-Some.c c.in-Some.ensures.first c.in-Some.ensures.line c.if-c-eq10.false ∙ c.loop-c.invariant.same;
  later = omega (arith, c.in-Some.ensures.later);
}

pub returns-clause-place : goal.returns-clause-place
returns-clause-place c = text_ends (position c.loop-c.place) c.in_default.ensures.first ∙ c.loop-c.invariant.same
