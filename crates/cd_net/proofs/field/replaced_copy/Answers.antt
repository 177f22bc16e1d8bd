use Rattle.cd_net.proofs.field.replaced_copy.Goals as goal
use Rattle.cd_value.proofs.Fronts.{IsUtf8-clean}
use Rattle.std.proofs.Common.{subst, sym}
use Rattle.std.specs.Str.{IsUtf8}

pub unwrap-requires : goal.unwrap-requires
unwrap-requires c =
    c.from_utf8.ensures.succeeds (subst IsUtf8 (sym c.in_ok-bytes.ensures) (IsUtf8-clean c.args.slash c.args.text.now c.utf8.text))
