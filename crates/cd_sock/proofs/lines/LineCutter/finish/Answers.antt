use Rattle.cd_sock.proofs.Pieces.{finishes}
use Rattle.cd_sock.proofs.lines.LineCutter.finish.Goals as goal
use Rattle.std.proofs.Common.{refl}

pub returns : goal.returns
returns c = finishes _ _ c.self.inside.held.items c.last_line.new.held.items _ c.self.view_is refl c.last_line.ensures.line c.last_line.ensures.none
