-- The service of a whole input, step by step.
use Rattle.cd_dialogue.proofs.Breaking.{begins_none, lines_then, none_served, off_then}
use Rattle.cd_dialogue.proofs.Closing.{closed_later}
use Rattle.cd_dialogue.proofs.Exchanging.{exchanged_nothing}
use Rattle.cd_dialogue.proofs.Going.{went_then}
use Rattle.cd_dialogue.proofs.Serving.{closed_then, gave_up_then, served_then, served_then_last}
use Rattle.cd_dialogue.specs.Dialogues.{Broke, BrokeHearing, BrokeOff, FailedToHear, Finished, LeftOff, ServesInput, StepBroke, Steps, Waited, WasClosed, WentOn, ended_in}
use Rattle.cd_dialogue.specs.Inputs.{AllServed, AreFirstOf, ClosedEarly, HearingFailed, IsOver, TooMuch}
use Rattle.cd_dialogue.specs.Served.{ClosedAt, Served}
use Rattle.cd_dialogue.specs.declared.ends.DialogueFault.TheVariants.{Link, Memory}
use Rattle.cd_dialogue.specs.declared.ends.DialogueFault.{DialogueFault}
use Rattle.cd_dialogue.specs.declared.ends.InputEnd.{InputEnd}
use Rattle.cd_dialogue.specs.declared.ends.Step.TheVariants.{Closed, Ended, Heard, Quiet, TooLong}
use Rattle.cd_dialogue.specs.declared.ends.Step.{Step}
use Rattle.cd_dialogue.specs.declared.server.Next.TheVariants as next
use Rattle.cd_dialogue.specs.declared.server.Next.{Next}
use Rattle.cd_io.proofs.Rises.{later_rose, rose_later}
use Rattle.cd_io.proofs.Speaking.{spoke_then_nothing, spoke_then_said, still_ended}
use Rattle.cd_io.specs.Link.{LinkTells, Spoke}
use Rattle.cd_sock.specs.Lines.{BeginsWith, Cut, HasCut, cut, cut_lines, whole_lines}
use Rattle.std.proofs.Common.{Err, IsErrAnd, List, Ok, Result, [], ap, append_assoc, arith, inl, inr, length, length-append, map, refl, subst, sym, take, ℕ, ◌++◌, ◌+◌, ◌-◌, ◌∙◌, ◌∷◌, ◌≡◌, ◌≤◌, ◌⊎◌}
use Rattle.std.proofs.Math.Seq.{take-append-add}
use Rattle.std.proofs.lemmas.List.{append-nil, take_all}
use Rattle.std.specs.Option.{option_to_list}

-- what is taken of more bytes, where some were taken already
take_more : (done more : List ℕ) (limit room : ℕ) → length done + room ≡ limit → take limit (done ++ more) ≡ done ++ take room more
take_more done more limit room size = ap (λ (n : ℕ). take n (done ++ more)) (sym size) ∙ take-append-add done more room

-- an input that was over is so after more of a dialogue in which nothing was heard and no call was quiet
over_later : (text : List ℕ) (start link after end : LinkTells) → link.quiets ≡ start.quiets → IsOver link after → Spoke [] text after end → end.quiets ≡ after.quiets
    → IsOver start end
over_later text start link after end first (inl (none, quiets)) s then = inl (still_ended text after end s none, then ∙ quiets ∙ first)
over_later text start link after end first (inr rose) s then =
    inr (rose_later start.quiets after.quiets end.quiets (later_rose start.quiets link.quiets after.quiets (omega (arith, first)) rose) (omega (arith, then)))

module _ {S : Type 0} (serves : Next → Cut → List ℕ → S → S → Type 0) (gives_up : Cut → S → S → Type 0) (old new : S) (before after : LinkTells) where
  -- it broke off in the service of an input
  left : (limit : ℕ) (fault : DialogueFault) (heard : List ℕ) (lines : List Cut) → AreFirstOf limit before after heard lines
      → BrokeOff serves gives_up old new before after heard lines fault → LeftOff serves gives_up old new before after limit fault
  left limit Link heard lines first b = inr (record {
    heard = heard;
    earlier = b.earlier;
    last = b.last;
    first = subst (AreFirstOf limit before after heard) b.lines_are first;
    replies = b.replies;
    said = b.said;
    unsaid = b.unsaid;
    some = b.some;
    served = b.served;
    spoke = b.spoke;
    rose = b.rose;
  })
  left limit Memory heard lines first b = record {
    heard = heard;
    lines = b.earlier;
    given_up = b.given_up;
    first = subst (AreFirstOf limit before after heard) b.lines_are first;
    text = b.text;
    served = b.served;
    spoke = b.exchanged.spoke;
    faults = b.exchanged.faults;
  }

  -- no call was quiet before it broke off
  never_quiet : (heard : List ℕ) (lines : List Cut) (fault : DialogueFault) → BrokeOff serves gives_up old new before after heard lines fault → after.quiets ≡ before.quiets
  never_quiet heard lines Link b = b.quiets
  never_quiet heard lines Memory b = b.exchanged.quiets

  -- what was said before it broke off
  said_then : (heard : List ℕ) (lines : List Cut) (fault : DialogueFault) → BrokeOff serves gives_up old new before after heard lines fault → (text : List ℕ) × Spoke heard text before after
  said_then heard lines Link b = (b.replies ++ b.said, b.spoke)
  said_then heard lines Memory b = (b.text, b.exchanged.spoke)

  -- the fault that a `?` hands on
  pub handed_input : (limit : ℕ) (r : Result InputEnd DialogueFault) (fault : DialogueFault) → IsErrAnd r (λ e. e ≡ fault) → LeftOff serves gives_up old new before after limit fault
      → ServesInput serves gives_up old new before after limit r
  handed_input limit (Ok end) fault is off = absurd is
  handed_input limit (Err e) fault is off =
      let L : DialogueFault → Type 0 = λ f. LeftOff serves gives_up old new before after limit f in subst L (sym is) off

-- memory was lacking before anything was heard
pub none_heard : {S : Type 0} (serves : Next → Cut → List ℕ → S → S → Type 0) (gives_up : Cut → S → S → Type 0) (server : S) (link : LinkTells) (limit : ℕ)
    → LeftOff serves gives_up server server link link limit Memory
none_heard serves gives_up server link limit =
    left serves gives_up server server link link limit Memory [] [] (inl (refl, begins_none _)) (none_served serves gives_up server link link [] (exchanged_nothing link))

-- what a step did that answered so
pub step_was : {S : Type 0} (serves : Next → Cut → List ℕ → S → S → Type 0) (held held' : Cut) (old new : S) (before after : LinkTells) (room : ℕ) (step is : Step)
    → step ≡ is → Steps serves held held' old new before after room step → Steps serves held held' old new before after room is
step_was serves held held' old new before after room step is e s =
    let P : Step → Type 0 = Steps serves held held' old new before after room in subst P e s

-- the last line was served, and the dialogue went so
pub finished_as : {S : Type 0} (serves : Next → Cut → List ℕ → S → S → Type 0) (held held' : Cut) (old new : S) (before after : LinkTells) (goes is : Next)
    → goes ≡ is → Finished serves held held' old new before after goes → Finished serves held held' old new before after is
finished_as serves held held' old new before after goes is e f =
    let P : Next → Type 0 = Finished serves held held' old new before after in subst P e f

-- the input ended or the link was quiet
pub step_waited : {S : Type 0} (serves : Next → Cut → List ℕ → S → S → Type 0) (held held' : Cut) (old new : S) (before after : LinkTells) (room : ℕ) (step : Step)
    → (step ≡ Ended) ⊎ (step ≡ Quiet) → Steps serves held held' old new before after room step
    → Waited serves held held' old new before after × IsOver before after
step_waited serves held held' old new before after room step (inl e) s =
    let w = step_was serves held held' old new before after room step Ended e s in (w.0, inl (w.1, w.2))
step_waited serves held held' old new before after room step (inr e) s =
    let w = step_was serves held held' old new before after room step Quiet e s in (w.0, inr w.1)

module _ {S : Type 0} (serves : Next → Cut → List ℕ → S → S → Type 0) (first held : Cut) (begins : HasCut [] [] first)
    (old now : S) (start link : LinkTells) (done : List ℕ) (limit room : ℕ) (size : length done + room ≡ limit)
    (w : WentOn serves first held old now start link done done) where
  -- what was cut so far
  cut_now : HasCut done w.lines held
  cut_now = w.cuts [] [] begins

  -- a step heard more
  pub more_heard : (held' : Cut) (new : S) (after : LinkTells) (count : ℕ) → Steps serves held held' now new link after room (Heard count)
      → (all : List ℕ) × (length all + (room - count) ≡ limit) × WentOn serves first held' old new start after all all
  more_heard held' new after count (heard, many, some, fits, bound, s) =
      (done ++ heard, omega (arith, size, many, fits, length-append done heard), went_then serves first held held' old now new start link after done done heard heard w s)

  -- more came than is taken
  pub exceeded : (held' : Cut) (new : S) (after : LinkTells) → Steps serves held held' now new link after room TooLong
      → TooMuch (λ lines text. Served (serves next.GoOn) lines text old new) limit start after
  exceeded held' new after (heard, long, bound, s) =
      let all : WentOn serves first held' old new start after (done ++ heard) (done ++ take room heard)
      = went_then serves first held held' old now new start link after done done heard (take room heard) w s in
      let T : List ℕ → Type 0 = λ bytes. all.lines ≡ map cut (whole_lines bytes) in
      let L : List Cut → Type 0 = λ ls. Served (serves next.GoOn) ls all.text old new in
      record {
        heard = done ++ heard;
        text = all.text;
        long = omega (arith, size, long, length-append done heard);
        served = subst L (subst T (sym (take_more done heard limit room size)) (all.cuts [] [] begins).whole) all.served;
        exchanged = all.exchanged;
      }

  -- the lines that end in what is taken are among those within the limit
  first_taken : (heard : List ℕ) (lines : List Cut) → BeginsWith (map cut (whole_lines (done ++ take room heard))) lines → BeginsWith (map cut (whole_lines (take limit (done ++ heard)))) lines
  first_taken heard lines b =
      let B : List ℕ → Type 0 = λ bytes. BeginsWith (map cut (whole_lines bytes)) lines in
      subst B (sym (take_more done heard limit room size)) b

  -- the server closed it
  pub closed_early : (held' : Cut) (new : S) (after : LinkTells) → Steps serves held held' now new link after room Closed
      → ClosedEarly (λ lines text. ClosedAt serves lines text old new) limit start after
  closed_early held' new after (heard, bound, c) =
      let all : WasClosed serves first held' old new start after (ended_in (done ++ take room heard)) (done ++ heard)
      = closed_later serves first held held' old now new start link after done done heard (take room heard) w c in
      record {
        heard = done ++ heard;
        lines = all.lines;
        first = inl (all.exchanged.quiets, first_taken heard all.lines (all.first [] [] begins));
        text = all.text;
        served = all.closed;
        spoke = all.exchanged.spoke;
        faults = all.exchanged.faults;
      }

  -- it broke off in what a step heard
  heard_and_left : (gives_up : Cut → S → S → Type 0) (fault : DialogueFault) (new : S) (after : LinkTells)
      → BrokeHearing serves gives_up held now new link after room fault → LeftOff serves gives_up old new start after limit fault
  heard_and_left gives_up fault new after (heard, b) =
      let off : BrokeOff serves gives_up old new start after (done ++ heard) (w.lines ++ b.lines) fault
      = off_then serves gives_up old now new start link after done heard w.lines b.lines w.text fault w.served w.exchanged b.broke in
      left serves gives_up old new start after limit fault (done ++ heard) (w.lines ++ b.lines)
      (inl (never_quiet serves gives_up old new start after (done ++ heard) (w.lines ++ b.lines) fault off, first_taken heard (w.lines ++ b.lines) (b.first done w.lines cut_now)))
      off

  -- all lines that were heard were served when a call of `hear` failed
  left_hearing : (new : S) (after : LinkTells) → FailedToHear serves now new link after
      → HearingFailed (λ lines text. Served (serves next.GoOn) lines text old new) limit start after
  left_hearing new after f =
      let L : List Cut → Type 0 = λ ls. Served (serves next.GoOn) ls w.text old new in
      let N : S → Type 0 = λ server. Served (serves next.GoOn) w.lines w.text old server in
      let within : length done ≤ limit = omega (arith, size) in
      record {
        heard = done;
        text = w.text;
        short = within;
        served = subst L (cut_now.whole ∙ ap (λ (bytes : List ℕ). map cut (whole_lines bytes)) (sym (take_all limit done within))) (subst N (sym f.server) w.served);
        spoke = spoke_then_nothing done w.text start link after w.exchanged.spoke f.spoke;
        rose = later_rose start.faults link.faults after.faults w.exchanged.spoke.faults f.rose;
        quiets = f.quiets ∙ w.exchanged.quiets;
      }

  -- it broke off in a step
  pub left_off : (gives_up : Cut → S → S → Type 0) (fault : DialogueFault) (new : S) (after : LinkTells)
      → StepBroke serves gives_up held now new link after room fault → LeftOff serves gives_up old new start after limit fault
  left_off gives_up Link new after (inl f) = inl (left_hearing new after f)
  left_off gives_up Link new after (inr b) = heard_and_left gives_up Link new after b
  left_off gives_up Memory new after b = heard_and_left gives_up Memory new after b

  -- ---- the end of the input

  module _ (held' : Cut) (new : S) (after : LinkTells) (s : Waited serves held held' now new link after) (over : IsOver link after) where
    -- nothing changed but for the link
    cut_then : HasCut done w.lines held'
    cut_then = let H : Cut → Type 0 = HasCut done w.lines in subst H (sym s.holds) cut_now

    served_so_far : Served (serves next.GoOn) w.lines w.text old new
    served_so_far = let F : S → Type 0 = λ server. Served (serves next.GoOn) w.lines w.text old server in subst F (sym s.server) w.served

    spoke_so_far : Spoke done w.text start after
    spoke_so_far = spoke_then_nothing done w.text start link after w.exchanged.spoke s.spoke

    over_so_far : (text : List ℕ) (end : LinkTells) → Spoke [] text after end → end.quiets ≡ after.quiets → IsOver start end
    over_so_far text end spoke quiets = over_later text start link after end w.exchanged.quiets over spoke quiets

    -- the last line was served
    pub served_all : (held'' : Cut) (last : S) (end : LinkTells) → Finished serves held' held'' new last after end next.GoOn
        → AllServed (λ lines text. Served (serves next.GoOn) lines text old last) limit start end
    served_all held'' last end c = record {
      heard = done;
      text = w.text ++ c.text;
      short = omega (arith, size);
      served =
          let L : List Cut → Type 0 = λ ls. Served (serves next.GoOn) ls (w.text ++ c.text) old last in
          subst L (c.last done w.lines cut_then) (served_then (serves next.GoOn) w.lines c.lines w.text c.text old new last served_so_far c.served);
      spoke = spoke_then_said done w.text c.text start after end spoke_so_far c.exchanged.spoke;
      faults = c.exchanged.faults ∙ s.faults ∙ w.exchanged.faults;
      over = over_so_far c.text end c.exchanged.spoke c.exchanged.quiets;
    }

    -- .. and with it the server closed the dialogue
    pub closed_last : (held'' : Cut) (last : S) (end : LinkTells) → Finished serves held' held'' new last after end next.Close
        → ClosedEarly (λ lines text. ClosedAt serves lines text old last) limit start end
    closed_last held'' last end c = record {
      heard = done;
      lines = w.lines ++ c.lines;
      first = inr (over_so_far c.text end c.exchanged.spoke c.exchanged.quiets, omega (arith, size), ([], sym (c.last done w.lines cut_then) ∙ sym (append-nil (w.lines ++ c.lines))));
      text = w.text ++ c.text;
      served = closed_then serves w.lines c.lines w.text c.text old new last served_so_far c.served;
      spoke = spoke_then_said done w.text c.text start after end spoke_so_far c.exchanged.spoke;
      faults = c.exchanged.faults ∙ s.faults ∙ w.exchanged.faults;
    }

    -- it broke off at the last line
    pub left_off_last : (gives_up : Cut → S → S → Type 0) (fault : DialogueFault) (last : S) (end : LinkTells) → Broke serves gives_up fault cut_lines held' new last after end []
        → LeftOff serves gives_up old last start end limit fault
    left_off_last gives_up fault last end b =
        let said = said_then serves gives_up new last after end [] b.lines fault b.broke in
        left_last gives_up fault last end b.lines
        (inr (over_so_far said.0 end said.1 (never_quiet serves gives_up new last after end [] b.lines fault b.broke), omega (arith, size), b.first done w.lines cut_then))
        b.broke
      where
        left_last : (gives_up : Cut → S → S → Type 0) (fault : DialogueFault) (last : S) (end : LinkTells) (lines : List Cut)
            → AreFirstOf limit start end done (w.lines ++ lines) → BrokeOff serves gives_up new last after end [] lines fault → LeftOff serves gives_up old last start end limit fault
        left_last gives_up Link last end lines first b = inr (record {
          heard = done;
          earlier = w.lines ++ b.earlier;
          last = b.last;
          first = subst (AreFirstOf limit start end done) (lines_then w.lines lines b.earlier (b.last ∷ []) b.lines_are) first;
          replies = w.text ++ b.replies;
          said = b.said;
          unsaid = b.unsaid;
          some = b.some;
          served = served_then_last serves w.lines b.earlier w.text b.replies b.last (b.said ++ b.unsaid) old new last served_so_far b.served;
          spoke = let T : List ℕ → Type 0 = λ t. Spoke done t start end in
              subst T (sym (append_assoc w.text b.replies b.said)) (spoke_then_said done w.text (b.replies ++ b.said) start after end spoke_so_far b.spoke);
          rose = later_rose start.faults after.faults end.faults spoke_so_far.faults b.rose;
        })
        left_last gives_up Memory last end lines first b = record {
          heard = done;
          lines = w.lines ++ b.earlier;
          given_up = b.given_up;
          first = subst (AreFirstOf limit start end done) (lines_then w.lines lines b.earlier (option_to_list b.given_up) b.lines_are) first;
          text = w.text ++ b.text;
          served = gave_up_then serves gives_up w.lines b.earlier b.given_up w.text b.text old new last served_so_far b.served;
          spoke = spoke_then_said done w.text b.text start after end spoke_so_far b.exchanged.spoke;
          faults = b.exchanged.faults ∙ s.faults ∙ w.exchanged.faults;
        }
