use Rattle.cd_core.proofs.Lasting.{out_in_core}
use Rattle.cd_core.proofs.laws.plugin_that_is_out_may_come_home.Goals as goal

pub returns : goal.returns
returns c = out_in_core
