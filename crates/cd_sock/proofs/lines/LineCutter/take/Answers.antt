use Rattle.cd_sock.proofs.Pieces.{held_more, takes_none, takes_some}
use Rattle.cd_sock.proofs.lines.LineCutter.take.Goals as goal
use Rattle.std.proofs.Common.{refl}

pub invariant_of-self-in-None : goal.invariant_of-self-in-None
invariant_of-self-in-None c = held_more c.self.inside.held.items c.args.piece.now c.hold.new.held.items c.self.invariant c.in-None.ensures c.in_ok-hold-in-None.ensures.ok

pub returns-in_ok-line-in-Some-clause-ok : goal.returns-in_ok-line-in-Some-clause-ok
returns-in_ok-line-in-Some-clause-ok c =
    takes_some _ _ c.self.inside.held.items c.end_line.new.held.items c.args.piece.now c.in-Some.place _ c.self.view_is refl c.in-Some.ensures c.in_ok-line-in-Some.ensures.line c.in_ok-line-in-Some.ensures.none

pub returns-in_ok-hold-in-None-clause-ok : goal.returns-in_ok-hold-in-None-clause-ok
returns-in_ok-hold-in-None-clause-ok c = takes_none _ _ c.self.inside.held.items c.hold.new.held.items c.args.piece.now c.self.view_is refl c.in-None.ensures c.in_ok-hold-in-None.ensures.ok
