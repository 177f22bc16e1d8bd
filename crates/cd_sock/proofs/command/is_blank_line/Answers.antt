use Rattle.cd_sock.proofs.Laws.{is_blank_only}
use Rattle.cd_sock.proofs.command.is_blank_line.Goals as goal
use Rattle.std.proofs.Common.{rules}

pub returns-then-line-le-LINE_LIMIT-clause-blank : goal.returns-then-line-le-LINE_LIMIT-clause-blank
returns-then-line-le-LINE_LIMIT-clause-blank c = λ types now interval. is_blank_only types now interval c.args.line.now _ (search rules)

pub returns-else-line-le-LINE_LIMIT-clause-blank : goal.returns-else-line-le-LINE_LIMIT-clause-blank
returns-else-line-le-LINE_LIMIT-clause-blank c = λ types now interval. is_blank_only types now interval c.args.line.now _ (search rules)
