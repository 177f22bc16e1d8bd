use Rattle.cd_core.proofs.Lasting.{looked}
use Rattle.cd_core.proofs.laws.looking_changes_nothing.Goals as goal

pub returns : goal.returns
returns c = looked
