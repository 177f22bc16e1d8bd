use Rattle.cd_opening.proofs.Defaults.{settings_known}
use Rattle.cd_opening.proofs.laws.no_item_makes_settings.Goals as goal

pub returns : goal.returns
returns c = settings_known
