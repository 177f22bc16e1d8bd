-- What came before work, and before all was handed out, is the front of the history then.
use Rattle.cd_daemon.specs.Answers.{close_answer}
use Rattle.cd_daemon.specs.declared.Opening.{Opening}
use Rattle.cd_history.proofs.Order.{front-more, front-refl, front-trans}
use Rattle.cd_history.specs.History.{History}
use Rattle.cd_history.specs.Order.{IsFrontOf}
use Rattle.cd_history.specs.Registrations.{Registration}
use Rattle.cd_history.specs.declared.entry.Entry.TheVariants as entry
use Rattle.cd_history.specs.declared.given.Given.{Given}
use Rattle.cd_transcript.specs.LineRuns.{Works, all_handed_out, called, handled, nothing}
use Rattle.std.proofs.Common.{List, [], ℕ, ◌∷◌}

pub works_front : {K : Opening} {Moment : ℕ → List Given → Type 0} {P Q : History} {given : List Given} → Works K Moment P given Q → IsFrontOf P Q
works_front {P = P} nothing = front-refl P
works_front (called w is next) = front-more _ (front-more _ (works_front w))
works_front (handled w is within at) = front-more _ (works_front w)

pub handed_out_front : (K : Opening) (gs : List Registration) (P : History) → IsFrontOf P (all_handed_out K gs P)
handed_out_front K [] P = front-refl P
handed_out_front K (g ∷ gs) P =
    front-trans (front-more _ (front-more (entry.Close 0 g.name (close_answer P g.name)) (front-refl P))) (handed_out_front K gs _)
