use Rattle.cd_core.proofs.Lasting.{stays_out}
use Rattle.cd_core.proofs.laws.plugin_stays_out_until_it_comes_home.Goals as goal

pub returns : goal.returns
returns c = λ K P e actor reg call told legal other lent. stays_out K P actor reg call told lent e legal.1 other
