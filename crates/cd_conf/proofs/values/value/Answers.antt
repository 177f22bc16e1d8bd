use Rattle.cd_conf.proofs.CharacterRuns.{run_shorter}
use Rattle.cd_conf.proofs.values.value.Goals as goal
use Rattle.cd_conf.specs.declared.runs.Kind.TheVariants.{Word}
use Rattle.std.proofs.Common.{arith, sym, ◌∙◌}
use Rattle.std.specs.Str.{chars}

pub returns-in_ok-plain_word-in-Some-clause-later : goal.returns-in_ok-plain_word-in-Some-clause-later
returns-in_ok-plain_word-in-Some-clause-later c =
    let h = run_shorter Word c.in-Some.c (chars c.args.place.rest.now) (chars c.in-Some.field-0-1.rest.now) (sym c.is_in_word.ensures ∙ c.if-is_in_word.true) c.in-Some.ensures.first in
    omega (arith, h, c.in_ok-plain_word-in-Some.ensures.later)
