use Rattle.cd_conf.proofs.chars.split_first.Goals as goal
use Rattle.std.proofs.Common.{sym, ◌∙◌}
use Rattle.std.proofs.lemmas.Str.{chars_past_char}

pub returns-clause-first : goal.returns-clause-first
returns-clause-first c =
    chars_past_char c.args.text.now _ c.in_ok-first.first c.utf8.text
    (sym c.chars-chars.ensures.rest ∙ rw (sym c.as_str.ensures) at c.in_ok-first.ensures.steps.0)
