use Rattle.cd_core.proofs.Lasting.{stays_out_along}
use Rattle.cd_core.proofs.laws.plugin_stays_out_until_its_actor_brings_it_home.Goals as goal

pub returns : goal.returns
returns c = stays_out_along
