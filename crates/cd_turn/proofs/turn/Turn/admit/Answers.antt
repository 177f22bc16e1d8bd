use Rattle.cd_turn.proofs.Tries.{refused_pass}
use Rattle.cd_turn.proofs.turn.Turn.admit.Goals as goal

pub returns-in-None-clause-pass : goal.returns-in-None-clause-pass
returns-in-None-clause-pass g c = let e = c.in-None.ensures in
    refused_pass g.S.Story.actor _ c.args.pass.now.seat c.draw.new.seat c.args.pass.now.face 0 c.requires e.desk.0 e.slots e.drew.rest
