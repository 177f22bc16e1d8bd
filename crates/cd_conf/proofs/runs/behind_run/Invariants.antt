use Rattle.cd_conf.proofs.runs.behind_run.Given as goal
use Rattle.cd_conf.specs.Characters.{after_run}
use Rattle.std.proofs.Common.{length, ◌≡◌, ◌≤◌}
use Rattle.std.specs.Str.{chars}
use denote.Shadow.{shadow}
use denote.Text.{Utf8}

abbrev pub invariant-loop-more : goal.invariant-loop-more
invariant-loop-more l = record {
  utf8 : shadow (Utf8 l.rest);
  rest : after_run l.kind (chars l.rest) ≡ after_run l.kind (chars l.fn.text);
  shorter : length l.rest ≤ length l.fn.text;
}

abbrev pub decreases-loop-more : goal.decreases-loop-more
decreases-loop-more l = length l.rest
