use Rattle.cd_conf.proofs.QuoteRuns.{adds, begins, breaks, closes, ended, marks}
use Rattle.cd_conf.proofs.quotes.read_quoted.Goals as goal
use Rattle.cd_conf.specs.Place.{position}
use Rattle.cd_conf.specs.Quotes.{quoted_at, with_text}
use Rattle.std.proofs.Common.{List, ap, arith, sym, ℕ, ◌∙◌}
use Rattle.std.specs.Str.{chars}
use Rattle.std.specs.String.{string_bytes}

pub loop-c-init : goal.loop-c-init
loop-c-init c = record {
  same = ap (λ (t : List ℕ). with_text t (quoted_at (position c.args.place))) c.new-text.ensures.bytes ∙ begins (quoted_at (position c.args.place));
  later = omega arith;
}

pub loop-c-preserved : goal.loop-c-preserved
loop-c-preserved c = record {
  same = adds (string_bytes c.loop-c.text) (string_bytes c.push.new.self) (chars c.loop-c.place.rest.now) (chars c.in-Some.behind.rest.now) c.in-Some.c
      c.loop-c.place.line c.in-Some.behind.line c.loop-c.quoting _ c.in-Some.ensures.first (sym c.in-Letter.ensures) c.in-Some.ensures.line
      c.in_ok-push-in-Letter.ensures.bytes c.loop-c.invariant.same;
  later = omega (arith, c.in-Some.ensures.later);
}

pub loop-c-preserved-in-Mark : goal.loop-c-preserved-in-Mark
loop-c-preserved-in-Mark c = record {
  same = marks (string_bytes c.loop-c.text) (chars c.loop-c.place.rest.now) (chars c.in-Some.behind.rest.now) c.in-Some.c c.loop-c.place.line c.in-Some.behind.line
      c.loop-c.quoting c.in-Mark.next _ c.in-Some.ensures.first (sym c.in-Mark.ensures) c.in-Some.ensures.line c.loop-c.invariant.same;
  later = omega (arith, c.in-Some.ensures.later);
}

pub returns-in-Close-clause-value : goal.returns-in-Close-clause-value
returns-in-Close-clause-value c =
    rw c.from_string.ensures
    (closes (string_bytes c.loop-c.text) (chars c.loop-c.place.rest.now) (chars c.in-Some.behind.rest.now) c.in-Some.c c.loop-c.place.line c.in-Some.behind.line
    c.loop-c.quoting _ c.in-Some.ensures.first (sym c.in-Close.ensures) c.in-Some.ensures.line c.loop-c.invariant.same)

pub returns-in-Break-clause-value : goal.returns-in-Break-clause-value
returns-in-Break-clause-value c =
    breaks (string_bytes c.loop-c.text) (chars c.loop-c.place.rest.now) (chars c.in-Some.behind.rest.now) c.in-Some.c c.loop-c.place.line
    c.loop-c.quoting _ c.in-Some.ensures.first (sym c.in-Break.ensures) c.loop-c.invariant.same

pub returns-clause-value : goal.returns-clause-value
returns-clause-value c =
    ended (string_bytes c.loop-c.text) (chars c.loop-c.place.rest.now) c.loop-c.place.line c.loop-c.quoting _ c.in_default.ensures.first c.loop-c.invariant.same
