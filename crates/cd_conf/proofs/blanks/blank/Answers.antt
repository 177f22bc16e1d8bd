use Rattle.cd_conf.proofs.BlankRuns.{blank_first, join_first, none_first, other_first}
use Rattle.cd_conf.proofs.blanks.blank.Goals as goal
use Rattle.cd_conf.specs.Place.{position}
use Rattle.std.proofs.Common.{sym, ◌∙◌}
use Rattle.std.proofs.lemmas.Bool.{ne_eqb}
use Rattle.std.specs.Str.{chars}

pub returns-in-None-clause-found : goal.returns-in-None-clause-found
returns-in-None-clause-found c = none_first (position c.args.place) c.in-None.ensures.first

pub returns-then-is_blank-clause-found : goal.returns-then-is_blank-clause-found
returns-then-is_blank-clause-found c =
    blank_first (position c.args.place) c.in-Some.c (chars c.in-Some.rest.now) c.in-Some.ensures.first (sym c.is_blank.ensures ∙ c.if-is_blank.true)

pub returns-then-c-eq92-clause-found : goal.returns-then-c-eq92-clause-found
returns-then-c-eq92-clause-found c =
    join_first (position c.args.place) c.in-Some.c (chars c.in-Some.rest.now) c.newline.result c.in-Some.ensures.first c.if-c-eq92.true c.newline.ensures.found

pub returns-else-c-eq92-clause-found : goal.returns-else-c-eq92-clause-found
returns-else-c-eq92-clause-found c =
    other_first (position c.args.place) c.in-Some.c (chars c.in-Some.rest.now) c.in-Some.ensures.first (sym c.is_blank.ensures ∙ c.if-is_blank.false) (ne_eqb c.in-Some.c 92 c.if-c-eq92.false)
