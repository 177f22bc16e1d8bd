-- Lines are served, one after the other.
use Rattle.cd_core.specs.Stands.{Stands}
use Rattle.cd_daemon.specs.Answers.{accept_answer, flush_close_answer, flush_open_answer, query_answer}
use Rattle.cd_daemon.specs.Flushes.{flushes_begun}
use Rattle.cd_daemon.specs.declared.Opening.{Opening}
use Rattle.cd_history.proofs.Order.{front-more, front-refl, front-trans}
use Rattle.cd_history.specs.History.{History, ◌▸◌}
use Rattle.cd_history.specs.Order.{IsFrontOf}
use Rattle.cd_history.specs.declared.entry.Entry.TheVariants as entry
use Rattle.cd_history.specs.declared.entry.FlushEnd.TheVariants as endings
use Rattle.cd_history.specs.declared.entry.FlushEnd.{FlushEnd}
use Rattle.cd_history.specs.declared.entry.Found.{Found}
use Rattle.cd_history.specs.declared.entry.Stopping.{Stopping}
use Rattle.cd_history.specs.declared.given.Given.TheVariants.{Now, Word}
use Rattle.cd_history.specs.declared.given.Given.{Given}
use Rattle.cd_serve.proofs.Gifts.{gave_as, gave_moment, gave_words}
use Rattle.cd_serve.proofs.Flushing.{begun_ok, may_end}
use Rattle.cd_serve.proofs.Keeping.{accept_quiet, begin_quiet, end_quiet, query_quiet, runs_step, stands_as}
use Rattle.cd_serve.proofs.Steps.{begin, until}
use Rattle.cd_serve.specs.Tells.{Pairs}
use Rattle.cd_serve.specs.Working.Outside.{GaveAllUpTo}
use Rattle.cd_serve.specs.Working.Progress.{Asks, Finishes, Flushes, FlushesAs, HasServed, HasServedOneMore, HasWorked, IsRefused, Puts, Seen, with_moment}
use Rattle.cd_serve.specs.Working.Standing.{RunsOn}
use Rattle.cd_sock.specs.Lines.{Cut}
use Rattle.cd_sock.specs.Replies.{reply_text}
use Rattle.cd_sock.specs.declared.command.Command.TheVariants as command
use Rattle.cd_sock.specs.declared.fault.LineFault.{LineFault}
use Rattle.cd_transcript.proofs.Events.{Writes, blank_writes, flushed_writes, got_writes, listed_writes, put_writes, refused_writes, written_more}
use Rattle.cd_transcript.proofs.Fronts.{works_front}
use Rattle.cd_transcript.specs.LineRuns.{ServesLine, ServesLines, blank, flushed, got, listed, one_more, put, refused}
use Rattle.cd_transcript.specs.Transcripts.{found_reply, line_says, offered_reply}
use Rattle.cd_value.specs.Identifier.{Fields, name_of}
use Rattle.cd_value.specs.declared.data.FlushRequest.{FlushRequest}
use Rattle.cd_value.specs.declared.data.Offered.{Offered}
use Rattle.cd_value.specs.declared.data.ValueList.{ValueList}
use Rattle.std.proofs.Common.{Err, IfSome, List, None, Ok, Option, Result, Some, [], ap, append_assoc, false, map, subst, sym, ℕ, ◌++◌, ◌∙◌, ◌∷◌, ◌≡◌}
use Rattle.std.proofs.lemmas.List.{append-nil}

module _ (K : Opening) (begun : Pairs) (opened : History) (lines : List Cut) (text : List ℕ) (old : Seen) (h : HasServed K begun opened lines text old) (line : Cut) where
  -- one line more
  abbrev More : List ℕ → Seen → Type 0
  More reply new = HasServedOneMore h line reply new

  more : (reply : List ℕ) (new : Seen) (R : History) (given : List Given) → ServesLine K (line_says K) line h.past given R → new.given ≡ old.given ++ given
      → Writes (line_says K) line h.past R reply → RunsOn K false new.core R → GaveAllUpTo begun new.pairs new.given → IsFrontOf h.past R → More reply new
  more reply new R given serves is writes runs gave front =
      let S : List Given → Type 0 = λ gifts. ServesLines K (line_says K) (lines ++ line ∷ []) opened gifts R in
      record {
        served = record {
          past = R;
          runs = runs;
          serves = subst S (sym is) (one_more h.serves serves);
          written = written_more (line_says K) h.written writes;
          gave = gave;
        };
        front = front;
      }

  -- a blank line changes nothing
  pub served_blank : line_says K line 0 ≡ Ok command.Blank → More [] old
  served_blank is = more [] old h.past [] (blank is) (sym (append-nil old.given)) (blank_writes (line_says K) line h.past is) h.runs h.gave (front-refl h.past)

  module _ (now : ℕ) (at : IfSome old.pairs.clock (λ pair. now ≡ pair.0)) where
    gave_then : GaveAllUpTo begun (with_moment now old).pairs (with_moment now old).given
    gave_then = gave_moment begun old.pairs old.given now h.gave at

    -- what was given since the moment
    since : (given : List Given) → (old.given ++ Now now ∷ []) ++ given ≡ old.given ++ (Now now ∷ given)
    since given = append_assoc old.given (Now now ∷ []) given

    -- a line is refused
    pub served_refused : (fault : LineFault) (answer : List ℕ) (new : Seen) → line_says K line 0 ≡ Err fault → IsRefused fault answer (with_moment now old) new → More answer new
    served_refused fault answer new is refuses =
        let w : HasWorked K false begun h.past (with_moment now old).given new = refuses.works K false begun h.past (with_moment now old).given (begin h.runs gave_then) in
        let A : List ℕ → Type 0 = λ a. Writes (line_says K) line h.past w.working.past a in
        more answer new w.working.past (Now now ∷ w.working.given) (refused is (until w)) (w.working.follows ∙ since w.working.given)
        (subst A (sym refuses.text_is) (refused_writes (line_says K) {K = K} line h.past w.working.past fault is w.working.works))
        w.working.runs w.working.gave (works_front w.working.works)

    -- a name is asked for, or all
    module _ (name : Option (List ℕ)) (answer : List ℕ) (new : Seen) (asks : Asks name answer (with_moment now old) new) where
      asked_is : asks.asked.answer ≡ query_answer K h.past name
      asked_is = let s : Stands K old.core (h.past ▸ entry.Query 0 name asks.asked.answer) = asks.asked.makes K h.past h.runs.stands tt in s.legal.1

      abbrev asked_start : History
      asked_start = h.past ▸ entry.Query 0 name (query_answer K h.past name)

      asked_runs : RunsOn K false old.core asked_start
      asked_runs =
          let S : Found → Type 0 = λ found. Stands K old.core (h.past ▸ entry.Query 0 name found) in
          runs_step (entry.Query 0 name (query_answer K h.past name)) (query_quiet 0 name (query_answer K h.past name)) h.runs (subst S asked_is (asks.asked.makes K h.past h.runs.stands tt))

      asked_works : HasWorked K false begun asked_start (with_moment now old).given new
      asked_works = asks.works K false begun asked_start (with_moment now old).given (begin asked_runs gave_then)

      asked_text : answer ≡ reply_text (found_reply (query_answer K h.past name))
      asked_text = asks.asked.text_is ∙ ap (λ (found : Found). reply_text (found_reply found)) asked_is

      asked_front : IsFrontOf h.past asked_works.working.past
      asked_front = front-trans (front-more (entry.Query 0 name (query_answer K h.past name)) (front-refl h.past)) (works_front asked_works.working.works)

    pub served_got : (id : Fields) (answer : List ℕ) (new : Seen) → line_says K line 0 ≡ Ok (command.GetVal id) → Asks (Some (name_of id)) answer (with_moment now old) new → More answer new
    served_got id answer new is asks =
        let w = asked_works (Some (name_of id)) answer new asks in
        let A : List ℕ → Type 0 = λ a. Writes (line_says K) line h.past w.working.past a in
        more answer new w.working.past (Now now ∷ w.working.given) (got is (until w)) (w.working.follows ∙ since w.working.given)
        (subst A (sym (asked_text (Some (name_of id)) answer new asks)) (got_writes (line_says K) {K = K} line h.past w.working.past 0 id (query_answer K h.past (Some (name_of id))) is w.working.works))
        w.working.runs w.working.gave (asked_front (Some (name_of id)) answer new asks)

    pub served_listed : (answer : List ℕ) (new : Seen) → line_says K line 0 ≡ Ok command.ListVal → Asks None answer (with_moment now old) new → More answer new
    served_listed answer new is asks =
        let w = asked_works None answer new asks in
        let A : List ℕ → Type 0 = λ a. Writes (line_says K) line h.past w.working.past a in
        more answer new w.working.past (Now now ∷ w.working.given) (listed is (until w)) (w.working.follows ∙ since w.working.given)
        (subst A (sym (asked_text None answer new asks)) (listed_writes (line_says K) {K = K} line h.past w.working.past 0 (query_answer K h.past None) is w.working.works))
        w.working.runs w.working.gave (asked_front None answer new asks)

    -- lists are offered
    module _ (lists at_zero : List ValueList) (answer : List ℕ) (new : Seen) (puts : Puts lists now answer (with_moment now old) new) where
      abbrev offered : Result (List Offered) Stopping
      offered = puts.accepts.answer

      stood : Stands K puts.mid.core h.past
      stood = stands_as (ap (λ (s : Seen). s.core) puts.rolls.seen) h.runs.stands

      put_stands : Stands K puts.accepted.core (h.past ▸ entry.Accept 0 lists puts.rolled now offered)
      put_stands = puts.accepts.made.makes K h.past stood tt

      put_is : offered ≡ accept_answer K h.past puts.rolled
      put_is = put_stands.legal.1.0

      abbrev put_start : History
      put_start = h.past ▸ entry.Accept 0 lists puts.rolled now (accept_answer K h.past puts.rolled)

      put_runs : RunsOn K false puts.accepted.core put_start
      put_runs =
          let S : Result (List Offered) Stopping → Type 0 = λ fates. Stands K puts.accepted.core (h.past ▸ entry.Accept 0 lists puts.rolled now fates) in
          runs_step (entry.Accept 0 lists puts.rolled now (accept_answer K h.past puts.rolled)) (accept_quiet 0 lists puts.rolled now (accept_answer K h.past puts.rolled)) h.runs (subst S put_is put_stands)

      put_gave : GaveAllUpTo begun puts.accepted.pairs puts.accepted.given
      put_gave =
          gave_as (puts.accepts.made.pairs ∙ ap (λ (s : Seen). s.pairs) puts.rolls.seen) (puts.accepts.made.given ∙ ap (λ (s : Seen). s.given) puts.rolls.seen)
          (gave_words begun (with_moment now old).pairs puts.mid.pairs.dice (with_moment now old).given puts.rolled gave_then puts.rolls.gave)

      put_works : HasWorked K false begun put_start puts.accepted.given new
      put_works = puts.works K false begun put_start puts.accepted.given (begin put_runs put_gave)

      put_given : new.given ≡ old.given ++ (Now now ∷ map Word puts.rolled ++ put_works.working.given)
      put_given =
          put_works.working.follows
          ∙ ap (λ (given : List Given). given ++ put_works.working.given) (puts.accepts.made.given ∙ ap (λ (s : Seen). s.given) puts.rolls.seen)
          ∙ append_assoc (old.given ++ Now now ∷ []) (map Word puts.rolled) put_works.working.given
          ∙ append_assoc old.given (Now now ∷ []) (map Word puts.rolled ++ put_works.working.given)

      put_text : answer ≡ reply_text (offered_reply (accept_answer K h.past puts.rolled))
      put_text = puts.text_is ∙ ap reply_text puts.accepts.reply_is ∙ ap (λ (fates : Result (List Offered) Stopping). reply_text (offered_reply fates)) put_is

      pub served_put : line_says K line 0 ≡ Ok (command.PutVal at_zero) → line_says K line now ≡ Ok (command.PutVal lists) → More answer new
      served_put zero is =
          let A : List ℕ → Type 0 = λ a. Writes (line_says K) line h.past put_works.working.past a in
          more answer new put_works.working.past (Now now ∷ map Word puts.rolled ++ put_works.working.given) (put zero is puts.rolls.many (until put_works)) put_given
          (subst A (sym put_text) (put_writes (line_says K) {K = K} line h.past put_works.working.past 0 now lists puts.rolled (accept_answer K h.past puts.rolled) is put_works.working.works))
          put_works.working.runs put_works.working.gave
          (front-trans (front-more (entry.Accept 0 lists puts.rolled now (accept_answer K h.past puts.rolled)) (front-refl h.past)) (works_front put_works.working.works))

    -- a flush is begun, and ends
    module _ (request : FlushRequest) (answer : List ℕ) (new : Seen) (flushes : Flushes request answer (with_moment now old) new) where
      abbrev number : ℕ
      number = flushes_begun h.past

      open_is : flush_open_answer h.past ≡ Ok number
      open_is = begun_ok h.past h.runs.is_so

      begun_stands : Stands K flushes.begun.core (h.past ▸ entry.FlushOpen 0 request flushes.answer)
      begun_stands = flushes.made.makes K h.past h.runs.stands tt

      begun_is : flushes.answer ≡ flush_open_answer h.past
      begun_is = begun_stands.legal.1

      finishes : Finishes number answer flushes.begun new
      finishes = let F : Result ℕ Stopping → Type 0 = λ a. FlushesAs request answer (with_moment now old) new a flushes.begun in subst F (begun_is ∙ open_is) flushes.finishes

      abbrev flush_start : History
      flush_start = h.past ▸ entry.FlushOpen 0 request (flush_open_answer h.past)

      flush_runs : RunsOn K false flushes.begun.core flush_start
      flush_runs =
          let S : Result ℕ Stopping → Type 0 = λ a. Stands K flushes.begun.core (h.past ▸ entry.FlushOpen 0 request a) in
          runs_step (entry.FlushOpen 0 request (flush_open_answer h.past)) (begin_quiet 0 request (flush_open_answer h.past)) h.runs (subst S begun_is begun_stands)

      flush_works : HasWorked K false begun flush_start flushes.begun.given finishes.worked
      flush_works = finishes.works K false begun flush_start flushes.begun.given (begin flush_runs (gave_as flushes.made.pairs flushes.made.given gave_then))

      abbrev done : History
      done = flush_works.working.past

      abbrev counts : FlushEnd
      counts = endings.Counts finishes.counts.0 finishes.counts.1

      ended_stands : Stands K new.core (done ▸ entry.FlushClose 0 number counts)
      ended_stands = finishes.ended K done flush_works.working.runs.stands (may_end request number (flush_open_answer h.past) open_is flush_works.working.works)

      counts_are : counts ≡ flush_close_answer done number
      counts_are = ended_stands.legal.1.0

      abbrev end : History
      end = done ▸ entry.FlushClose 0 number (flush_close_answer done number)

      flush_given : new.given ≡ old.given ++ (Now now ∷ flush_works.working.given)
      flush_given =
          finishes.given ∙ flush_works.working.follows ∙ ap (λ (given : List Given). given ++ flush_works.working.given) flushes.made.given
          ∙ since flush_works.working.given

      pub served_flushed : line_says K line 0 ≡ Ok (command.Flush request) → More answer new
      served_flushed is =
          let A : List ℕ → Type 0 = λ a. Writes (line_says K) line h.past end a in
          let S : FlushEnd → Type 0 = λ reply. Stands K new.core (done ▸ entry.FlushClose 0 number reply) in
          more answer new end (Now now ∷ flush_works.working.given) (flushed is open_is (until flush_works)) flush_given
          (subst A (sym finishes.text_is)
          (flushed_writes (line_says K) {K = K} line h.past done 0 0 number finishes.counts.0 finishes.counts.1 request (flush_open_answer h.past) (flush_close_answer done number) open_is (sym counts_are) is flush_works.working.works))
          (runs_step (entry.FlushClose 0 number (flush_close_answer done number)) (end_quiet 0 number (flush_close_answer done number)) flush_works.working.runs (subst S counts_are ended_stands))
          (gave_as finishes.pairs finishes.given flush_works.working.gave)
          (front-more _ (front-trans (front-more (entry.FlushOpen 0 request (flush_open_answer h.past)) (front-refl h.past)) (works_front flush_works.working.works)))
