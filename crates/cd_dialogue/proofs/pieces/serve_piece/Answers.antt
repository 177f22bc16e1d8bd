use Rattle.cd_dialogue.proofs.Breaking.{broke_in_piece, handed_on}
use Rattle.cd_dialogue.proofs.Closing.{closed_in_piece, went_as}
use Rattle.cd_dialogue.proofs.Going.{piece_parts, went_all, went_more, went_none}
use Rattle.cd_dialogue.proofs.pieces.serve_piece.Goals as goal
use Rattle.std.proofs.Common.{[], refl, sym, take, ◌++◌}

pub loop-rest-init : goal.loop-rest-init
loop-rest-init g c = record { done = []; parts = refl; went = went_none _ _ _ _ }

pub returns-in_err-used-clause-broke : goal.returns-in_err-used-clause-broke
returns-in_err-used-clause-broke g c =
    handed_on _ _ _ c.from_residual.ensures.1
    (broke_in_piece _ _ _ _ _ _ _ _ _ _ _ _ _ _ c.loop-rest.invariant.parts c.loop-rest.invariant.went c.in_err-used.ensures.broke)

pub loop-rest-preserved : goal.loop-rest-preserved
loop-rest-preserved g c = record {
  done = c.loop-rest.invariant.done ++ take c.in_ok-used.used c.loop-rest.rest.now;
  parts = piece_parts _ c.loop-rest.invariant.done c.loop-rest.rest.now _ c.in_ok-used.used c.loop-rest.invariant.parts c.split_at.ensures.back;
  went = went_more _ _ _ _ _ _ _ _ _ _ _ _ _ c.loop-rest.invariant.went (went_as _ _ _ _ _ _ _ _ _ _ _ c.in-GoOn.is c.in_ok-used.ensures.ok);
}

pub returns-in-Close-clause-ok : goal.returns-in-Close-clause-ok
returns-in-Close-clause-ok g c =
    closed_in_piece _ _ _ _ _ _ _ _ _ _ _ _ _ c.in_ok-used.used c.loop-rest.invariant.parts c.loop-rest.invariant.went
    (went_as _ _ _ _ _ _ _ _ _ _ _ c.in-Close.is c.in_ok-used.ensures.ok)

pub returns-clause-ok : goal.returns-clause-ok
returns-clause-ok g c = went_all _ _ _ _ _ _ _ _ _ _ c.loop-rest.invariant.parts (sym c.loop-rest-test.ensures) c.loop-rest.invariant.went
