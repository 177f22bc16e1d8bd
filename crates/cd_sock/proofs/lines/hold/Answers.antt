use Rattle.cd_sock.proofs.Pieces.{added}
use Rattle.cd_sock.proofs.lines.hold.Goals as goal
use Rattle.std.proofs.Common.{arith, ◌∙◌}

pub returns-clause-ok : goal.returns-clause-ok
returns-clause-ok c = c.in_ok-extend_from_slice.ensures.items ∙ added c.args.held.now.items c.args.bytes.now c.front_of-few.result.now _ (omega (arith, c.len.ensures, c.requires)) c.front_of-few.ensures
