use Rattle.cd_target.proofs.placeholders.placeholder_in.Goals as goal
use Rattle.cd_target.specs.Placeholders.{field_at}
use Rattle.std.proofs.Common.{refl}

pub loop-field-init : goal.loop-field-init
unfolding field_at
loop-field-init c = refl
