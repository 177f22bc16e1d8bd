use Rattle.cd_core.proofs.Lasting.{steps_stand}
use Rattle.cd_core.proofs.laws.every_list_of_steps_stands.Goals as goal

pub returns : goal.returns
returns c = steps_stand
