use Rattle.cd_sock.proofs.Numbers.{change_parsed}
use Rattle.cd_sock.proofs.values.read_change.Goals as goal
use Rattle.std.proofs.Common.{◌∙◌}

pub returns : goal.returns
returns c = c.ok.ensures.value ∙ change_parsed c.args.text.now c.parse.result c.parse.ensures.value.0
