use Rattle.cd_dialogue.proofs.Breaking.{broke_at_front, handed_on, lacked_first}
use Rattle.cd_dialogue.proofs.Closing.{front_went}
use Rattle.cd_dialogue.proofs.pieces.serve_front.Goals as goal

pub returns-in_err-used-clause-broke : goal.returns-in_err-used-clause-broke
returns-in_err-used-clause-broke g c = handed_on _ _ _ c.from_residual.ensures.1 (lacked_first _ _ _ _ _ _)

pub returns-in_err-next-clause-broke : goal.returns-in_err-next-clause-broke
returns-in_err-next-clause-broke g c =
    handed_on _ _ _ c.from_residual-in_err-next.ensures.1
    (broke_at_front _ _ _ _ _ _ _ _ _ _ _ _ c.in_ok-used.ensures.ok c.in_err-next.ensures.broke)

pub returns-clause-ok : goal.returns-clause-ok
returns-clause-ok g c = front_went _ _ _ _ _ _ _ _ _ _ _ c.in_ok-used.ensures.ok c.in_ok-next.ensures.ok
