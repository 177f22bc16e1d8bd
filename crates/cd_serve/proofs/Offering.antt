-- Lists are offered, and what that is replied.
use Rattle.cd_core.specs.Replies.{accept_refusal}
use Rattle.cd_core.specs.Stands.{Anyhow, Makes}
use Rattle.cd_core.specs.declared.faults.AcceptFault.TheVariants as faults
use Rattle.cd_core.specs.declared.faults.AcceptFault.{AcceptFault}
use Rattle.cd_history.specs.declared.entry.Entry.TheVariants as entry
use Rattle.cd_history.specs.declared.entry.Stopping.{Stopping}
use Rattle.cd_serve.specs.Working.Progress.{Accepts, Seen}
use Rattle.cd_sock.specs.declared.reply.Reply.TheVariants as replies
use Rattle.cd_transcript.specs.Transcripts.{offered_reply}
use Rattle.cd_value.specs.declared.data.Offered.{Offered}
use Rattle.cd_value.specs.declared.data.ValueList.{ValueList}
use Rattle.std.proofs.Common.{Err, IfSome, List, Ok, Result, refl, subst, ℕ, ◌≡◌}

module _ (lists : List ValueList) (words rolled : List ℕ) (now : ℕ) (old new : Seen) (same : words ≡ rolled) (pairs : new.pairs ≡ old.pairs) (given : new.given ≡ old.given) where
  accepts : (answer : Result (List Offered) Stopping) → ((actor : ℕ) → Makes old.core new.core Anyhow (entry.Accept actor lists words now answer)) → Accepts lists rolled now (offered_reply answer) old new
  accepts answer makes =
      let M : List ℕ → Type 0 = λ dice. Makes old.core new.core Anyhow (entry.Accept 0 lists dice now answer) in
      record { answer = answer; reply_is = refl; made = record { makes = subst M same (makes 0); pairs = pairs; given = given } }

  pub accepts_all : (fates : List Offered) → ((actor : ℕ) → Makes old.core new.core Anyhow (entry.Accept actor lists words now (Ok fates))) → Accepts lists rolled now replies.Success old new
  accepts_all fates makes = accepts (Ok fates) makes

  pub accepts_none : (why : AcceptFault) → why ≡ faults.Stopping
      → IfSome (accept_refusal why) (λ reply. (actor : ℕ) → Makes old.core new.core Anyhow (entry.Accept actor lists words now reply)) → Accepts lists rolled now replies.Stopping old new
  accepts_none why is makes =
      let F : AcceptFault → Type 0 = λ why. IfSome (accept_refusal why) (λ reply. (actor : ℕ) → Makes old.core new.core Anyhow (entry.Accept actor lists words now reply)) in
      accepts (Err (record {})) (subst F is makes)
