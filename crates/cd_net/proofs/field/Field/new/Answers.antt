use Rattle.cd_net.proofs.Texts.{cleaned-stays}
use Rattle.cd_net.proofs.field.Field.new.Goals as goal
use Rattle.cd_net.specs.Clean.{cleaned}
use Rattle.std.proofs.Common.{ap, sym, ◌∙◌}

pub invariant_of-result : goal.invariant_of-result
invariant_of-result c = record {
  stays = λ yes slash.
      let text = c.as_bytes.result.now in
      ap (cleaned slash) (sym c.as_bytes.ensures.value) ∙ cleaned-stays text (sym c.is_clean-is_clean.ensures ∙ yes) slash ∙ c.as_bytes.ensures.value;
}
