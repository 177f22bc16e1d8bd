-- Which events of lines a run's parts leave, and what a line that was served writes.
use Rattle.cd_daemon.specs.declared.Opening.{Opening}
use Rattle.cd_history.specs.History.{Event, History, ◌▸◌}
use Rattle.cd_history.specs.declared.entry.Entry.TheVariants as entry
use Rattle.cd_history.specs.declared.entry.FlushEnd.TheVariants as ends
use Rattle.cd_history.specs.declared.entry.FlushEnd.{FlushEnd}
use Rattle.cd_history.specs.declared.entry.Found.{Found}
use Rattle.cd_history.specs.declared.entry.Stopping.{Stopping}
use Rattle.cd_history.specs.declared.given.Given.{Given}
use Rattle.cd_sock.specs.Replies.{reply_text}
use Rattle.cd_sock.specs.declared.command.Command.TheVariants as command
use Rattle.cd_sock.specs.declared.fault.LineFault.{LineFault}
use Rattle.cd_sock.specs.declared.reply.Reply.TheVariants as reply
use Rattle.cd_transcript.proofs.Transcripts.{as_text, joined}
use Rattle.cd_transcript.specs.LineRuns.{Loaded, Opens, Works, called, handled, none, nothing as no_work, plug_in}
use Rattle.cd_transcript.specs.Transcripts.{IsTranscript, Said, blank, flushed, found_reply, got, is_of_a_line, listed, nothing, of_lines, offered_reply, put, refused}
use Rattle.cd_value.specs.Identifier.{Fields, name_of}
use Rattle.cd_value.specs.declared.data.FlushRequest.{FlushRequest}
use Rattle.cd_value.specs.declared.data.Offered.{Offered}
use Rattle.cd_value.specs.declared.data.ValueList.{ValueList}
use Rattle.std.proofs.Common.{Bool, Err, List, None, Ok, Result, Some, [], ap, append_assoc, false, refl, subst, sym, true, ℕ, ◌++◌, ◌∙◌, ◌∷◌, ◌≡◌}
use Rattle.std.proofs.lemmas.List.{append-nil, reverse-append}
use Rattle.std.specs.List.{filter}

-- work uses no line
pub works-of_lines : {K : Opening} {Moment : ℕ → List Given → Type 0} {P Q : History} {given : List Given} → Works K Moment P given Q → of_lines Q ≡ of_lines P
works-of_lines no_work = refl
works-of_lines (called w is next) = works-of_lines w
works-of_lines (handled w is within at) = works-of_lines w

pub opens-of_lines : {loaded : List Loaded} {P Q : History} {given : List Given} → Opens loaded P given Q → of_lines Q ≡ of_lines P
opens-of_lines none = refl
opens-of_lines (plug_in opens) = opens-of_lines opens

one_event : (Q : History) (e : Event) → of_lines (Q ▸ e) ≡ of_lines Q ++ of_lines ([] ▸ e)
one_event Q e = by (is_of_a_line e) refl
  where
    by : (t : Bool) → is_of_a_line e ≡ t → of_lines (Q ▸ e) ≡ of_lines Q ++ of_lines ([] ▸ e)
    by true is = rw is (reverse-append (e ∷ []) (filter is_of_a_line Q))
    by false is = rw is (sym (append-nil (of_lines Q)))

module _ {Line : Type 0} (says : Line → ℕ → Said) where
  -- a line uses these events, and this text is written for it
  pub record Writes (l : Line) (Q R : History) (text : List ℕ) : Type 0 where
    pub events : List Event
    pub more : of_lines R ≡ of_lines Q ++ events
    pub transcript : IsTranscript says (l ∷ []) events text

  pub blank_writes : (l : Line) (Q : History) → says l 0 ≡ Ok command.Blank → Writes l Q Q []
  blank_writes l Q is = record { events = []; more = sym (append-nil (of_lines Q)); transcript = blank is nothing }

  alone : {l : Line} {events : List Event} {text : List ℕ} → IsTranscript says (l ∷ []) events (text ++ []) → IsTranscript says (l ∷ []) events text
  alone {text = text} t = as_text says t (append-nil text)

  module _ {K : Opening} {Moment : ℕ → List Given → Type 0} (l : Line) (Q R : History) {given : List Given} where
    pub refused_writes : (fault : LineFault) → says l 0 ≡ Err fault → Works K Moment Q given R → Writes l Q R (reply_text (reply.Fault fault))
    refused_writes fault is w = record { events = []; more = works-of_lines w ∙ sym (append-nil (of_lines Q)); transcript = alone (refused is nothing) }

    pub put_writes : (a now : ℕ) (lists : List ValueList) (words : List ℕ) (answer : Result (List Offered) Stopping)
        → says l now ≡ Ok (command.PutVal lists) → Works K Moment (Q ▸ entry.Accept a lists words now answer) given R → Writes l Q R (reply_text (offered_reply answer))
    put_writes a now lists words answer is w = record {
      events = entry.Accept a lists words now answer ∷ [];
      more = works-of_lines w ∙ one_event Q (entry.Accept a lists words now answer);
      transcript = alone (put is nothing);
    }

    pub got_writes : (a : ℕ) (id : Fields) (answer : Found)
        → says l 0 ≡ Ok (command.GetVal id) → Works K Moment (Q ▸ entry.Query a (Some (name_of id)) answer) given R → Writes l Q R (reply_text (found_reply answer))
    got_writes a id answer is w = record {
      events = entry.Query a (Some (name_of id)) answer ∷ [];
      more = works-of_lines w ∙ one_event Q (entry.Query a (Some (name_of id)) answer);
      transcript = alone (got is nothing);
    }

    pub listed_writes : (a : ℕ) (answer : Found)
        → says l 0 ≡ Ok command.ListVal → Works K Moment (Q ▸ entry.Query a None answer) given R → Writes l Q R (reply_text (found_reply answer))
    listed_writes a answer is w = record {
      events = entry.Query a None answer ∷ [];
      more = works-of_lines w ∙ one_event Q (entry.Query a None answer);
      transcript = alone (listed is nothing);
    }

    -- a flush that was begun, and ended with its counts after the work
    pub flushed_writes : (a b number successful errors : ℕ) (request : FlushRequest) (opened : Result ℕ Stopping) (ended : FlushEnd)
        → opened ≡ Ok number → ended ≡ ends.Counts successful errors → says l 0 ≡ Ok (command.Flush request)
        → Works K Moment (Q ▸ entry.FlushOpen a request opened) given R
        → Writes l Q (R ▸ entry.FlushClose b number ended) (reply_text (reply.Flushed successful errors))
    flushed_writes a b number successful errors request opened ended begun counts is w =
        let first : of_lines R ≡ of_lines Q ++ entry.FlushOpen a request (Ok number) ∷ [] =
        works-of_lines w ∙ one_event Q (entry.FlushOpen a request opened) ∙ ap (λ (reply : Result ℕ Stopping). of_lines Q ++ entry.FlushOpen a request reply ∷ []) begun in
        let last : Event = entry.FlushClose b number (ends.Counts successful errors) in
        record {
          events = entry.FlushOpen a request (Ok number) ∷ last ∷ [];
          more =
              ap (λ (reply : FlushEnd). of_lines (R ▸ entry.FlushClose b number reply)) counts
              ∙ one_event R last
              ∙ ap (λ (events : List Event). events ++ last ∷ []) first
              ∙ append_assoc (of_lines Q) (entry.FlushOpen a request (Ok number) ∷ []) (last ∷ []);
          transcript = alone (flushed is nothing);
        }

  pub written_more : {lines : List Line} {l : Line} {Q R : History} {text more : List ℕ} → IsTranscript says lines (of_lines Q) text → Writes l Q R more
      → IsTranscript says (lines ++ l ∷ []) (of_lines R) (text ++ more)
  written_more {lines = lines} {l = l} {text = text} {more = more} t w =
      subst (λ (events : List Event). IsTranscript says (lines ++ l ∷ []) events (text ++ more)) (sym w.more) (joined says t w.transcript)
