use Rattle.cd_sock.proofs.Fits.{read_fits}
use Rattle.cd_sock.proofs.Laws.{read_same}
use Rattle.cd_sock.proofs.command.Command.read.Goals as goal
use Rattle.cd_sock.specs.Meaning.{request_of}
use Rattle.std.proofs.Common.{rules}

pub returns-clause-fits : goal.returns-clause-fits
returns-clause-fits c = read_fits c.args.types.now c.args.now c.args.interval c.without_return.result.now c.read_text.result c.read_text.ensures

pub returns-clause-same_command : goal.returns-clause-same_command
unfolding request_of
returns-clause-same_command c = read_same c.args.types.now c.args.now c.args.interval c.args.line.now c.read_text.result (search rules)
