-- What was done for a command, with the text of its reply where that was printed.
use Rattle.cd_core.specs.Replies.{begin_refusal, query_refusal}
use Rattle.cd_core.specs.Seen.{CoreSeen}
use Rattle.cd_core.specs.Stands.{Anyhow, Makes}
use Rattle.cd_core.specs.declared.faults.FlushFault.TheVariants as flush
use Rattle.cd_core.specs.declared.faults.FlushFault.{FlushFault}
use Rattle.cd_core.specs.declared.faults.QueryFault.TheVariants as query
use Rattle.cd_core.specs.declared.faults.QueryFault.{QueryFault}
use Rattle.cd_daemon.specs.Flushes.{flush_begun_by}
use Rattle.cd_history.specs.declared.entry.Entry.TheVariants as entry
use Rattle.cd_history.specs.declared.entry.FlushEnd.TheVariants as ends
use Rattle.cd_history.specs.declared.entry.Found.TheVariants as found
use Rattle.cd_history.specs.declared.entry.Found.{Found}
use Rattle.cd_history.specs.declared.entry.Stopping.{Stopping}
use Rattle.cd_serve.specs.Working.Progress.{Accepts, Asked, Finishes, Flushes, IsRefused, Made, Obeys, Puts, Rolled, Seen, WorksOn}
use Rattle.cd_sock.specs.Faults.{line_fault}
use Rattle.cd_sock.specs.Replies.{reply_text}
use Rattle.cd_sock.specs.declared.command.Command.{Command}
use Rattle.cd_sock.specs.declared.fault.LineFault.{LineFault}
use Rattle.cd_sock.specs.declared.reply.Reply.TheVariants as replies
use Rattle.cd_sock.specs.declared.reply.Reply.{Reply}
use Rattle.cd_transcript.specs.Transcripts.{found_reply}
use Rattle.cd_value.specs.declared.data.FlushRequest.{FlushRequest}
use Rattle.cd_value.specs.declared.data.ValueList.{ValueList}
use Rattle.std.proofs.Common.{Err, IfOk, IfSome, List, None, Ok, Option, Result, Some, ap, length, subst, sym, ℕ, ◌∙◌, ◌≡◌}

-- what holds of each value holds of a result's
pub on_each : {T E : Type 0} {A B : T → Type 0} (r : Result T E) → ((x : T) → A x → B x) → IfOk r A → IfOk r B
on_each (Ok x) f a = f x a
on_each (Err e) f a = tt

-- the text of a reply was printed, if there was memory
module _ {E : Type 0} (r : Result (List ℕ) E) where
  abbrev Prints : Reply → Type 0
  Prints reply = IfOk r (λ text. text ≡ reply_text reply)

  pub puts : (lists : List ValueList) (rolled : List ℕ) (now : ℕ) (reply : Reply) (old mid accepted new : Seen)
      → Rolled rolled (length lists) old mid → Accepts lists rolled now reply mid accepted → WorksOn accepted new → Prints reply → IfOk r (λ text. Puts lists now text old new)
  puts lists rolled now reply old mid accepted new rolls accepts works =
      on_each r (λ text is. record { rolled = rolled; mid = mid; rolls = rolls; reply = reply; accepted = accepted; accepts = accepts; works = works; text_is = is })

  -- the core was asked
  asked : (name : Option (List ℕ)) (answer : Found) (core : CoreSeen) → Makes core core Anyhow (entry.Query 0 name answer) → Prints (found_reply answer) → IfOk r (λ text. Asked name text core)
  asked name answer core makes = on_each r (λ text is. record { answer = answer; text_is = is; makes = makes })

  pub asked_found : (name read : List ℕ) (answer : Found) (core : CoreSeen) → read ≡ name → ((actor : ℕ) → Makes core core Anyhow (entry.Query actor (Some read) answer))
      → Prints (found_reply answer) → IfOk r (λ text. Asked (Some name) text core)
  asked_found name read answer core same makes =
      let M : List ℕ → Type 0 = λ name. Makes core core Anyhow (entry.Query 0 (Some name) answer) in asked (Some name) answer core (subst M same (makes 0))

  pub asked_in_vain : (name read : List ℕ) (why : QueryFault) (core : CoreSeen) → read ≡ name → why ≡ query.NoSuchValue
      → IfSome (query_refusal why) (λ reply. (actor : ℕ) → Makes core core Anyhow (entry.Query actor (Some read) reply)) → Prints replies.NoSuchValue → IfOk r (λ text. Asked (Some name) text core)
  asked_in_vain name read why core same is makes =
      let F : QueryFault → Type 0 = λ why. IfSome (query_refusal why) (λ reply. (actor : ℕ) → Makes core core Anyhow (entry.Query actor (Some read) reply)) in
      asked_found name read found.NoSuchValue core same (subst F is makes)

  pub asked_all : (rows printed : List (ℕ × List ℕ)) (core : CoreSeen) → printed ≡ rows → ((actor : ℕ) → Makes core core Anyhow (entry.Query actor None (found.Listed rows)))
      → Prints (replies.Listed printed) → IfOk r (λ text. Asked None text core)
  asked_all rows printed core same makes prints =
      let P : List (ℕ × List ℕ) → Type 0 = λ rows. Prints (replies.Listed rows) in asked None (found.Listed rows) core (makes 0) (subst P same prints)

  pub finishes : (number successful errors : ℕ) (old worked new : Seen) → WorksOn old worked
      → ((actor : ℕ) → Makes worked.core new.core (λ K H. IfSome (flush_begun_by number H) (λ beginner. beginner ≡ actor)) (entry.FlushClose actor number (ends.Counts successful errors)))
      → new.pairs ≡ worked.pairs → new.given ≡ worked.given → Prints (replies.Flushed successful errors) → IfOk r (λ text. Finishes number text old new)
  finishes number successful errors old worked new works ended pairs given =
      on_each r (λ text is. record { worked = worked; works = works; counts = (successful, errors); ended = ended 0; pairs = pairs; given = given; text_is = is })

  made : (request : FlushRequest) (answer : Result ℕ Stopping) (old begun : Seen) → ((actor : ℕ) → Makes old.core begun.core Anyhow (entry.FlushOpen actor request answer))
      → begun.pairs ≡ old.pairs → begun.given ≡ old.given → Made (entry.FlushOpen 0 request answer) old begun
  made request answer old begun makes pairs given = record { makes = makes 0; pairs = pairs; given = given }

  pub flushes : (request : FlushRequest) (number : ℕ) (old begun new : Seen) → ((actor : ℕ) → Makes old.core begun.core Anyhow (entry.FlushOpen actor request (Ok number)))
      → begun.pairs ≡ old.pairs → begun.given ≡ old.given → IfOk r (λ text. Finishes number text begun new) → IfOk r (λ text. Flushes request text old new)
  flushes request number old begun new makes pairs given =
      on_each r (λ text finishes. record { answer = Ok number; begun = begun; made = made request (Ok number) old begun makes pairs given; finishes = finishes })

  pub flushes_none : (request : FlushRequest) (why : FlushFault) (old new : Seen) → why ≡ flush.Stopping
      → IfSome (begin_refusal why) (λ reply. (actor : ℕ) → Makes old.core new.core Anyhow (entry.FlushOpen actor request reply))
      → new.pairs ≡ old.pairs → new.given ≡ old.given → Prints replies.Stopping → IfOk r (λ text. Flushes request text old new)
  flushes_none request why old new is makes pairs given =
      let F : FlushFault → Type 0 = λ why. IfSome (begin_refusal why) (λ reply. (actor : ℕ) → Makes old.core new.core Anyhow (entry.FlushOpen actor request reply)) in
      on_each r (λ text printed. record { answer = Err (record {}); begun = new; made = made request (Err (record {})) old new (subst F is makes) pairs given; finishes = tt })

  -- a command was obeyed that is this one
  pub obeys_as : (said of : Command) (now : ℕ) (old new : Seen) → said ≡ of → IfOk r (λ text. Obeys of now text old new) → IfOk r (λ text. Obeys said now text old new)
  obeys_as said of now old new is obeys = let C : Command → Type 0 = λ command. IfOk r (λ text. Obeys command now text old new) in subst C (sym is) obeys

  pub refuses : (fault : LineFault) (reply : Reply) (old new : Seen) → reply ≡ replies.Fault fault → line_fault fault ≡ Some fault → WorksOn old new → Prints reply → IfOk r (λ text. IsRefused fault text old new)
  refuses fault reply old new is known works =
      on_each r (λ text printed. record { known = known; works = works; text_is = printed ∙ ap reply_text is })
