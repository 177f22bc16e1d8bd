use Rattle.cd_sock.proofs.Numbers.{count_parsed}
use Rattle.cd_sock.proofs.values.read_count.Goals as goal
use Rattle.std.proofs.Common.{sym, ◌∙◌}

pub returns : goal.returns
returns c = c.ok.ensures.value ∙ count_parsed c.args.text.now c.parse.result c.parse.ensures.value.0 (sym c.begins_with_plus.ensures ∙ c.if-begins_with_plus.false)
