use Rattle.cd_settings.proofs.BoundedSettings.{accepted_are_bounded}
use Rattle.cd_settings.proofs.laws.accepted_settings_are_bounded.Goals as goal

pub returns : goal.returns
returns c = accepted_are_bounded
