use Rattle.cd_settings.proofs.FreeFaults.{not_compiled}
use Rattle.cd_settings.proofs.matches.compiled.Goals as goal

pub returns-in-Err-BadPattern : goal.returns-in-Err-BadPattern
returns-in-Err-BadPattern c = not_compiled c.args.item.now c.args.pattern.now c.requires
