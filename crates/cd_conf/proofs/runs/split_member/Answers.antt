use Rattle.cd_conf.proofs.CharacterRuns.{after_all, after_other}
use Rattle.cd_conf.proofs.runs.split_member.Goals as goal
use Rattle.std.proofs.Common.{sym, ◌∙◌}
use Rattle.std.specs.Str.{chars}

pub returns-in-None-clause-none : goal.returns-in-None-clause-none
returns-in-None-clause-none c = after_all c.args.kind (chars c.args.text.now) c.in-None.ensures.first

pub returns-else-may_stand-clause-none : goal.returns-else-may_stand-clause-none
returns-else-may_stand-clause-none c =
    after_other c.args.kind c.in-Some.c (chars c.args.text.now) (chars c.in-Some.rest.now) (sym c.may_stand.ensures ∙ c.if-may_stand.false) c.in-Some.ensures.first
