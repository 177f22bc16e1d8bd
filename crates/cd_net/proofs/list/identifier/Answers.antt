use Rattle.cd_net.proofs.Cleaned.{is_identifier-clean_texts}
use Rattle.cd_net.proofs.list.identifier.Goals as goal
use Rattle.cd_net.specs.Carried.{shown}
use Rattle.cd_net.specs.Refusals.{texts_of}
use Rattle.cd_value.specs.Identifier.{is_identifier}
use Rattle.std.proofs.Common.{ap, ◌∙◌}

pub invariant_of-result : goal.invariant_of-result
invariant_of-result c =
    ap is_identifier c.in_ok-texts.ensures
    ∙ is_identifier-clean_texts (texts_of (shown c.args.fields.now)) c.requires.good c.requires.short
