-- Transcripts go on, and lines and events have one alone.
use Rattle.cd_history.specs.History.{Event}
use Rattle.cd_history.specs.declared.entry.Entry.TheVariants as entry
use Rattle.cd_history.specs.declared.entry.FlushEnd.TheVariants as ends
use Rattle.cd_history.specs.declared.entry.Found.{Found}
use Rattle.cd_history.specs.declared.entry.Stopping.{Stopping}
use Rattle.cd_sock.specs.Replies.{reply_text}
use Rattle.cd_sock.specs.declared.command.Command.TheVariants as command
use Rattle.cd_sock.specs.declared.fault.LineFault.{LineFault}
use Rattle.cd_sock.specs.declared.reply.Reply.TheVariants as reply
use Rattle.cd_transcript.specs.Transcripts.{IsTranscript, Said, blank, flush_refused, flushed, found_reply, got, listed, nothing, offered_reply, put, refused}
use Rattle.cd_value.specs.Identifier.{Fields, name_of}
use Rattle.cd_value.specs.declared.data.FlushRequest.{FlushRequest}
use Rattle.cd_value.specs.declared.data.Offered.{Offered}
use Rattle.cd_value.specs.declared.data.ValueList.{ValueList}
use Rattle.std.proofs.Common.{Err, List, None, Ok, Result, Some, ap, append_assoc, refl, subst, sym, ℕ, ◌++◌, ◌∙◌, ◌∷◌, ◌≡◌}

module _ {Line : Type 0} (says : Line → ℕ → Said) where
  pub as_text : {lines : List Line} {events : List Event} {text other : List ℕ} → IsTranscript says lines events text → text ≡ other → IsTranscript says lines events other
  as_text {lines = lines} {events = events} t is = subst (IsTranscript says lines events) is t

  -- a transcript and then another
  pub joined : {lines later : List Line} {events more : List Event} {text rest : List ℕ} → IsTranscript says lines events text → IsTranscript says later more rest
      → IsTranscript says (lines ++ later) (events ++ more) (text ++ rest)
  joined nothing u = u
  joined (blank is t) u = blank is (joined t u)
  joined {rest = rest} (refused {text = text} {fault = fault} is t) u =
      as_text (refused is (joined t u)) (sym (append_assoc (reply_text (reply.Fault fault)) text rest))
  joined {rest = rest} (put {text = text} {answer = answer} is t) u =
      as_text (put is (joined t u)) (sym (append_assoc (reply_text (offered_reply answer)) text rest))
  joined {rest = rest} (got {text = text} {answer = answer} is t) u =
      as_text (got is (joined t u)) (sym (append_assoc (reply_text (found_reply answer)) text rest))
  joined {rest = rest} (listed {text = text} {answer = answer} is t) u =
      as_text (listed is (joined t u)) (sym (append_assoc (reply_text (found_reply answer)) text rest))
  joined {rest = rest} (flushed {text = text} {successful = successful} {errors = errors} is t) u =
      as_text (flushed is (joined t u)) (sym (append_assoc (reply_text (reply.Flushed successful errors)) text rest))
  joined {rest = rest} (flush_refused {text = text} is t) u =
      as_text (flush_refused is (joined t u)) (sym (append_assoc (reply_text reply.Stopping) text rest))

  -- ---- one transcript alone

  -- whether a line offers lists doesn't depend on the moment
  abbrev pub IsSteady : Type 0
  IsSteady = (l : Line) (now : ℕ) (lists : List ValueList) → says l now ≡ Ok (command.PutVal lists)
      → (at_zero : List ValueList) × (says l 0 ≡ Ok (command.PutVal at_zero))

  module _ (steady : IsSteady) where
    -- a line and more, without what the line uses and writes
    record Rest (lines : List Line) (events : List Event) (text front : List ℕ) : Type 0 where
      rest : List ℕ
      is : text ≡ front ++ rest
      holds : IsTranscript says lines events rest

    not_put : {X : Type 0} (l : Line) (now : ℕ) (lists : List ValueList) (other : Said) → says l now ≡ Ok (command.PutVal lists) → says l 0 ≡ other
        → ((at_zero : List ValueList) → other ≡ Ok (command.PutVal at_zero) → ⊥) → X
    not_put l now lists other is so never = let z = steady l now lists is in absurd (never z.0 (sym so ∙ z.1))

    without_blank : {lines : List Line} {events : List Event} {text : List ℕ} (l : Line) → says l 0 ≡ Ok command.Blank → IsTranscript says (l ∷ lines) events text → IsTranscript says lines events text
    without_blank l so (blank is t) = t
    without_blank l so (refused is t) = absurd (cc)
    without_blank l so (put {now = now} {lists = lists} is t) = not_put l now lists (Ok command.Blank) is so (λ z e. cc)
    without_blank l so (got is t) = absurd (cc)
    without_blank l so (listed is t) = absurd (cc)
    without_blank l so (flushed is t) = absurd (cc)
    without_blank l so (flush_refused is t) = absurd (cc)

    without_refused : {lines : List Line} {events : List Event} {text : List ℕ} (l : Line) (fault : LineFault) → says l 0 ≡ Err fault → IsTranscript says (l ∷ lines) events text
        → Rest lines events text (reply_text (reply.Fault fault))
    without_refused l fault so (blank is t) = absurd (cc)
    without_refused l fault so (refused {text = text} {fault = other} is t) =
        let same : other ≡ fault = cc in record { rest = text; is = ap (λ (f : LineFault). reply_text (reply.Fault f) ++ text) same; holds = t }
    without_refused l fault so (put {now = now} {lists = lists} is t) = not_put l now lists (Err fault) is so (λ z e. cc)
    without_refused l fault so (got is t) = absurd (cc)
    without_refused l fault so (listed is t) = absurd (cc)
    without_refused l fault so (flushed is t) = absurd (cc)
    without_refused l fault so (flush_refused is t) = absurd (cc)

    without_put : {lines : List Line} {events : List Event} {text : List ℕ} (l : Line) (a now : ℕ) (lists : List ValueList) (words : List ℕ) (answer : Result (List Offered) Stopping)
        → says l now ≡ Ok (command.PutVal lists) → IsTranscript says (l ∷ lines) (entry.Accept a lists words now answer ∷ events) text
        → Rest lines events text (reply_text (offered_reply answer))
    without_put l a now lists words answer so (blank is t) = not_put l now lists (Ok command.Blank) so is (λ z e. cc)
    without_put l a now lists words answer so (refused {fault = fault} is t) = not_put l now lists (Err fault) so is (λ z e. cc)
    without_put l a now lists words answer so (put {text = text} is t) = record { rest = text; is = refl; holds = t }

    without_got : {lines : List Line} {events : List Event} {text : List ℕ} (l : Line) (a : ℕ) (id : Fields) (name : List ℕ) (answer : Found)
        → says l 0 ≡ Ok (command.GetVal id) → IsTranscript says (l ∷ lines) (entry.Query a (Some name) answer ∷ events) text
        → Rest lines events text (reply_text (found_reply answer))
    without_got l a id name answer so (blank is t) = absurd (cc)
    without_got l a id name answer so (refused is t) = absurd (cc)
    without_got l a id name answer so (got {text = text} is t) = record { rest = text; is = refl; holds = t }

    without_listed : {lines : List Line} {events : List Event} {text : List ℕ} (l : Line) (a : ℕ) (answer : Found)
        → says l 0 ≡ Ok command.ListVal → IsTranscript says (l ∷ lines) (entry.Query a None answer ∷ events) text
        → Rest lines events text (reply_text (found_reply answer))
    without_listed l a answer so (blank is t) = absurd (cc)
    without_listed l a answer so (refused is t) = absurd (cc)
    without_listed l a answer so (listed {text = text} is t) = record { rest = text; is = refl; holds = t }

    -- the numbers of the beginning and of the end are the same one
    without_flushed : {lines : List Line} {events : List Event} (l : Line) (a b number ended successful errors : ℕ) (request : FlushRequest) {text : List ℕ}
        → says l 0 ≡ Ok (command.Flush request)
        → IsTranscript says (l ∷ lines) (entry.FlushOpen a request (Ok number) ∷ entry.FlushClose b ended (ends.Counts successful errors) ∷ events) text
        → Rest lines events text (reply_text (reply.Flushed successful errors))
    without_flushed l a b number ended successful errors request so (blank is t) = absurd (cc)
    without_flushed l a b number ended successful errors request so (refused is t) = absurd (cc)
    without_flushed l a b number ended successful errors request so (flushed {text = text} is t) = record { rest = text; is = refl; holds = t }

    without_flush_refused : {lines : List Line} {events : List Event} {text : List ℕ} (l : Line) (a : ℕ) (request : FlushRequest) (stopping : Stopping)
        → says l 0 ≡ Ok (command.Flush request) → IsTranscript says (l ∷ lines) (entry.FlushOpen a request (Err stopping) ∷ events) text
        → Rest lines events text (reply_text reply.Stopping)
    without_flush_refused l a request stopping so (blank is t) = absurd (cc)
    without_flush_refused l a request stopping so (refused is t) = absurd (cc)
    without_flush_refused l a request stopping so (flush_refused {text = text} is t) = record { rest = text; is = refl; holds = t }

    pub one_transcript : {lines : List Line} {events : List Event} {text other : List ℕ} → IsTranscript says lines events text → IsTranscript says lines events other → text ≡ other
    one_transcript nothing nothing = refl
    one_transcript (blank {l = l} is t) u = one_transcript t (without_blank l is u)
    one_transcript (refused {l = l} {fault = fault} is t) u =
        let r = without_refused l fault is u in ap (λ (x : List ℕ). reply_text (reply.Fault fault) ++ x) (one_transcript t r.holds) ∙ sym r.is
    one_transcript (put {l = l} {a = a} {now = now} {lists = lists} {words = words} {answer = answer} is t) u =
        let r = without_put l a now lists words answer is u in ap (λ (x : List ℕ). reply_text (offered_reply answer) ++ x) (one_transcript t r.holds) ∙ sym r.is
    one_transcript (got {l = l} {a = a} {id = id} {answer = answer} is t) u =
        let r = without_got l a id (name_of id) answer is u in ap (λ (x : List ℕ). reply_text (found_reply answer) ++ x) (one_transcript t r.holds) ∙ sym r.is
    one_transcript (listed {l = l} {a = a} {answer = answer} is t) u =
        let r = without_listed l a answer is u in ap (λ (x : List ℕ). reply_text (found_reply answer) ++ x) (one_transcript t r.holds) ∙ sym r.is
    one_transcript (flushed {l = l} {a = a} {b = b} {number = number} {successful = successful} {errors = errors} {request = request} is t) u =
        let r = without_flushed l a b number number successful errors request is u in
        ap (λ (x : List ℕ). reply_text (reply.Flushed successful errors) ++ x) (one_transcript t r.holds) ∙ sym r.is
    one_transcript (flush_refused {l = l} {a = a} {request = request} {stopping = stopping} is t) u =
        let r = without_flush_refused l a request stopping is u in ap (λ (x : List ℕ). reply_text reply.Stopping ++ x) (one_transcript t r.holds) ∙ sym r.is
