use Rattle.cd_sock.proofs.Printed.{flushes}
use Rattle.cd_sock.proofs.reply.print_flushed.Goals as goal
use Rattle.std.proofs.Common.{◌∙◌}

pub returns : goal.returns
returns c = c.from_string.ensures ∙ c.in_ok-text.ensures.ok ∙ flushes c.args.successful c.args.errors
