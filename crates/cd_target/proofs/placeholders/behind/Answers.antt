use Rattle.cd_target.proofs.Parts.{stripped_field}
use Rattle.cd_target.proofs.placeholders.behind.Goals as goal

pub returns : goal.returns
returns c =
    stripped_field c.placeholder.result.now c.args.part.now c.args.field c.strip_prefix.result
    c.placeholder.ensures c.strip_prefix.ensures.cases
