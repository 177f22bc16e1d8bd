use Rattle.cd_sock.proofs.Pieces.{begins}
use Rattle.cd_sock.proofs.lines.LineCutter.new.Goals as goal
use Rattle.cd_sock.specs.Lines.{cut}
use Rattle.std.proofs.Common.{ap}

pub returns : goal.returns
returns c = begins _ (ap cut c.new.ensures.items)
