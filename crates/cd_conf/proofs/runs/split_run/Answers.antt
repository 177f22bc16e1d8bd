use Rattle.cd_conf.proofs.CharacterRuns.{front_length, front_taken, whole}
use Rattle.cd_conf.proofs.runs.split_run.Goals as goal
use Rattle.cd_conf.specs.Characters.{front_run}
use Rattle.std.proofs.Common.{subst, ◌∙◌}
use Rattle.std.proofs.lemmas.Str.{IsCharBoundary-at_seam}
use Rattle.std.specs.Str.{IsCharBoundary, chars}

pub split_at-requires : goal.split_at-requires
split_at-requires c =
    let text = c.args.text.now in
    let rest = c.behind_run-rest.result.now in
    let e = whole c.args.kind text rest c.utf8.text c.behind_run-rest.ensures.text c.behind_run-rest.ensures.rest in
    subst (IsCharBoundary text) (front_length text (front_run c.args.kind (chars text)) rest e)
    (IsCharBoundary-at_seam text (front_run c.args.kind (chars text)) rest e c.behind_run-rest.ensures.text)

pub returns-clause-run : goal.returns-clause-run
returns-clause-run c =
    let text = c.args.text.now in
    let rest = c.behind_run-rest.result.now in
    let e = whole c.args.kind text rest c.utf8.text c.behind_run-rest.ensures.text c.behind_run-rest.ensures.rest in
    c.split_at.ensures.front ∙ front_taken text (front_run c.args.kind (chars text)) rest e
