use Rattle.cd_types.proofs.Latest.{the_last_stands}
use Rattle.cd_types.proofs.laws.the_last_of_a_name_stands.Goals as goal

pub returns : goal.returns
returns c = the_last_stands
