use Rattle.std.proofs.Common.{None, Some, ◌∙◌}
use Rattle.cd_settings.proofs.ChainFaults.{in_both}
use Rattle.cd_settings.proofs.chain_lines.jump_in.Goals as goal
use Rattle.cd_settings.specs.ChainLines.{jumps_to}

pub returns-in-Some : goal.returns-in-Some
returns-in-Some c = in_both (jumps_to c.args.name.now) c.args.items.now (Some c.in-Some.jump.now) c.in-Some.ensures

pub returns-in-None : goal.returns-in-None
returns-in-None c = c.first_jump.ensures ∙ in_both (jumps_to c.args.name.now) c.args.items.now None c.in-None.ensures
