use Rattle.cd_conf.proofs.CharacterRuns.{after_goes_on}
use Rattle.cd_conf.proofs.runs.behind_run.Goals as goal
use Rattle.std.proofs.Common.{arith}
use Rattle.std.specs.Str.{chars}

pub loop-more-preserved : goal.loop-more-preserved
loop-more-preserved c = record {
  utf8 = c.in-Some.ensures.text;
  rest = after_goes_on c.args.kind c.in-Some.field-0-0 (chars c.loop-more.rest.now) (chars c.in-Some.more.now) _
      c.in-Some.ensures.member c.in-Some.ensures.first c.loop-more.invariant.rest;
  shorter = omega (arith, c.in-Some.ensures.shorter);
}
