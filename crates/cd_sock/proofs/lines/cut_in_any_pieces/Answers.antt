use Rattle.cd_sock.proofs.Pieces.{any_pieces}
use Rattle.cd_sock.proofs.lines.cut_in_any_pieces.Goals as goal

pub returns : goal.returns
returns c = any_pieces
