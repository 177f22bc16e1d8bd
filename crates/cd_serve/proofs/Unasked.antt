-- What a run did that was asked nothing: all its lines were blank, and the calls that waited at first wait yet.
use Rattle.cd_core.specs.Seen.{CoreSeen}
use Rattle.cd_core.specs.Stands.{Stands}
use Rattle.cd_daemon.specs.Answers.{flush_close_answer, is_idle, may_be_taken, ready}
use Rattle.cd_daemon.specs.Calls.{calls_to}
use Rattle.cd_daemon.specs.declared.Opening.{Opening}
use Rattle.cd_history.specs.History.{Event, History, handles, kept, ◌▸◌}
use Rattle.cd_history.specs.Leases.{taken_by, takes}
use Rattle.cd_history.specs.Registrations.{Registration, is_plug, is_retired, registrations}
use Rattle.cd_history.specs.declared.entry.Entry.TheVariants as entry
use Rattle.cd_history.specs.declared.entry.FlushEnd.{FlushEnd}
use Rattle.cd_history.specs.declared.entry.Why.{Why}
use Rattle.cd_history.specs.declared.given.Given.{Given}
use Rattle.cd_registry.specs.declared.calls.Call.{Call}
use Rattle.cd_serve.specs.Working.Progress.{HasCall, HasWork}
use Rattle.cd_sock.specs.Lines.{Cut}
use Rattle.cd_sock.specs.declared.command.Command.TheVariants as command
use Rattle.cd_transcript.proofs.Ends.{idle_handled, idle_none}
use Rattle.cd_transcript.proofs.Steady.{one_of_lines}
use Rattle.cd_transcript.proofs.Transcripts.{joined}
use Rattle.cd_transcript.specs.LineRuns.{ServesLine, ServesLines, blank, flushed, got, listed, none, one_more, put, refused}
use Rattle.cd_transcript.specs.Transcripts.{IsTranscript, Said, blank as blank_line, line_says, nothing, of_lines}
use Rattle.cd_value.specs.declared.data.ValueList.{ValueList}
use Rattle.std.proofs.Common.{Bool, Err, IsTrue, List, Ok, OnErr, Option, Result, Some, [], ap, ap₂, arith, drop, inl, inr, is_some, length, length-drop, nat_eq, nat_le, not, refl, subst, sym, ℕ, ◌&&◌, ◌++◌, ◌-◌, ◌<◌, ◌∙◌, ◌∷◌, ◌≡◌, ◌⊎◌}
use Rattle.std.proofs.lemmas.List.{append-nil}
use Rattle.std.specs.List.{find}
use Rattle.std.specs.Option.{option_map}
use Rattle.std.specs.Prelude.{if◌then◌else◌}

pub on_err : {T E A : Type 0} (r : Result T E) → A → OnErr r A
on_err (Ok x) a = tt
on_err (Err e) a = a

pub call_is_work : (core : CoreSeen) → HasCall core → HasWork core
call_is_work core call K P stands idle = call K P stands (idle_none K P idle)

pub list_is_work : (core : CoreSeen) → 0 < length core.queue → HasWork core
list_is_work core some K P stands idle =
    let all : handles P ≡ length (kept P) = idle_handled K P stands.legal idle in
    let many : length core.queue ≡ length (drop (handles P) (kept P)) = ap length stands.queue in
    let left = length-drop (handles P) (kept P) in
    omega (arith, all, some, many, left)

-- ---- events that call nobody leave an idle daemon idle

find_alike : {X : Type 0} (p q : X → Bool) → ((x : X) → p x ≡ q x) → (xs : List X) → find p xs ≡ find q xs
find_alike p q same [] = refl
find_alike p q same (x ∷ xs) = ap₂ (λ (b : Bool) rest. if b then Some x else rest) (same x) (find_alike p q same xs)

idle_as : (K : Opening) (P Q : History) → kept Q ≡ kept P → handles Q ≡ handles P → registrations Q ≡ registrations P
    → ((g : Registration) → may_be_taken K Q g ≡ may_be_taken K P g) → is_idle K Q ≡ is_idle K P
idle_as K P Q lists handled registered alike =
    let found : find (may_be_taken K Q) (registrations Q) ≡ find (may_be_taken K P) (registrations P) =
    ap (find (may_be_taken K Q)) registered ∙ find_alike (may_be_taken K Q) (may_be_taken K P) alike (registrations P) in
    let none : ready K Q ≡ ready K P = ap (λ (o : Option Registration). option_map (λ g. g.number) o) found in
    ap₂ (λ (l : List ValueList) (n : ℕ). nat_le (length l) n && not (is_some (ready K Q))) lists handled
    ∙ ap (λ (o : Option ℕ). nat_le (length (kept P)) (handles P) && not (is_some o)) none

may_be_taken_by : History → Registration → ℕ → Bool
may_be_taken_by P g n = is_plug g.joining && not (is_retired g.number P) && not (is_some (taken_by g.number P)) && not (nat_eq n 0)

-- after a stop
pub idle_stopped : (K : Opening) (P : History) (a : ℕ) (why : Why) → IsTrue (is_idle K P) → IsTrue (is_idle K (P ▸ entry.Stop a why))
unfolding may_be_taken_by
idle_stopped K P a why idle =
    idle_as K P (P ▸ entry.Stop a why) refl refl refl
    (λ g. ap (λ (calls : List Call). may_be_taken_by P g (length calls - takes g.number P)) (append-nil (calls_to K g.number P))) ∙ idle

-- .. and after a flush ended
idle_flushed : (K : Opening) (P : History) (a f : ℕ) (reply : FlushEnd) → IsTrue (is_idle K P) → IsTrue (is_idle K (P ▸ entry.FlushClose a f reply))
unfolding may_be_taken_by
idle_flushed K P a f reply idle =
    idle_as K P (P ▸ entry.FlushClose a f reply) refl refl refl
    (λ g. ap (λ (calls : List Call). may_be_taken_by P g (length calls - takes g.number P)) (append-nil (calls_to K g.number P))) ∙ idle

-- ---- lines that ask for nothing

-- Lines were served from P to Q and asked for nothing: nothing was done, and nothing written.
pub record WereBlank {Line : Type 0} (says : Line → ℕ → Said) (lines : List Line) (P Q : History) : Type 0 where
  pub same : Q ≡ P
  pub silent : IsTranscript says lines [] []

module _ {Line : Type 0} {says : Line → ℕ → Said} where
  blank_too : {lines : List Line} {P Q : History} (l : Line) → says l 0 ≡ Ok command.Blank → WereBlank says lines P Q → WereBlank says (lines ++ l ∷ []) P Q
  blank_too l is w = record { same = w.same; silent = joined says w.silent (blank_line is nothing) }

module _ {Line : Type 0} {K : Opening} {says : Line → ℕ → Said} where
  -- behind a line that isn't blank the daemon is idle
  pub idle_or_blank : {lines : List Line} {P Q : History} {given : List Given} → ServesLines K says lines P given Q → IsTrue (is_idle K Q) ⊎ WereBlank says lines P Q
  idle_or_blank none = inr (record { same = refl; silent = nothing })
  idle_or_blank (one_more {l = l} s (blank is)) = elim (idle_or_blank s) [
    | inl idle ↦ inl idle
    | inr w ↦ inr (blank_too l is w)
  ]
  idle_or_blank (one_more s (refused is w)) = inl w.idle
  idle_or_blank (one_more s (put is at many w)) = inl w.idle
  idle_or_blank (one_more s (got is w)) = inl w.idle
  idle_or_blank (one_more s (listed is w)) = inl w.idle
  idle_or_blank (one_more s (flushed {Q = Q} {number = number} is begun w)) = inl (idle_flushed K Q 0 number (flush_close_answer Q number) w.idle)

-- so nothing was written where no event of a line was there before
pub blank_text : (K : Opening) (lines : List Cut) (P Q : History) (text : List ℕ) → WereBlank (line_says K) lines P Q → of_lines P ≡ []
    → IsTranscript (line_says K) lines (of_lines Q) text → text ≡ []
blank_text K lines P Q text w before t =
    let T : List Event → Type 0 = λ events. IsTranscript (line_says K) lines events text in
    one_of_lines K lines [] text [] (subst T (ap of_lines w.same ∙ before) t) w.silent
