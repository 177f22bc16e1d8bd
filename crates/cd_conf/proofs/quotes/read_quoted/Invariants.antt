use Rattle.cd_conf.proofs.quotes.read_quoted.Given as goal
use Rattle.cd_conf.specs.Place.{characters_left, position}
use Rattle.cd_conf.specs.Quotes.{quoted_at, quoted_from, with_text}
use Rattle.std.proofs.Common.{◌≡◌, ◌≤◌}
use Rattle.std.specs.Str.{chars}
use Rattle.std.specs.String.{string_bytes}

abbrev pub invariant-loop-c : goal.invariant-loop-c
invariant-loop-c l = record {
  same : with_text (string_bytes l.text) (quoted_from (chars l.place.rest.now) l.quoting l.place.line) ≡ quoted_at (position l.fn.place);
  later : characters_left l.place ≤ characters_left l.fn.place;
}

abbrev pub decreases-loop-c : goal.decreases-loop-c
decreases-loop-c l = characters_left l.place
