-- A dialogue that the server closed.
use Rattle.cd_dialogue.proofs.Breaking.{begins_self, begins_then, whole_first}
use Rattle.cd_dialogue.proofs.Exchanging.{exchanged_then, exchanged_then_said}
use Rattle.cd_dialogue.proofs.Going.{went_front}
use Rattle.cd_dialogue.proofs.Serving.{closed_then}
use Rattle.cd_dialogue.specs.Dialogues.{WasClosed, Went, WentOn, ended_in}
use Rattle.cd_dialogue.specs.Exchanges.{Exchanged}
use Rattle.cd_dialogue.specs.Served.{ClosedAt, ServedTo}
use Rattle.cd_dialogue.specs.declared.server.Next.TheVariants as next
use Rattle.cd_dialogue.specs.declared.server.Next.{Next}
use Rattle.cd_io.specs.Link.{LinkTells}
use Rattle.cd_sock.specs.Lines.{BeginsWith, Cut, Takes, cut, whole_lines}
use Rattle.std.proofs.Common.{List, Option, [], ap, append_assoc, drop, map, subst, sym, take, ℕ, ◌++◌, ◌∙◌, ◌≡◌}
use Rattle.std.proofs.lemmas.List.{take-append-drop}
use Rattle.std.specs.Option.{option_to_list}

module _ {S : Type 0} (serves : Next → Cut → List ℕ → S → S → Type 0) (held held' : Cut) where
  -- .. at the line that the front of a piece ended
  closed_at_front : (old new : S) (before after : LinkTells) (piece : List ℕ) (used : ℕ) (line : Option Cut)
      → Takes held piece used line held' → (text : List ℕ) × ClosedAt serves (option_to_list line) text old new × Exchanged [] text before after
      → WasClosed serves held held' old new before after (ended_in (take used piece)) []
  closed_at_front old new before after piece used line t (text, closed, exchanged) = record {
    lines = option_to_list line;
    text = text;
    first = λ earlier given h.
        let B : List Cut → Type 0 = λ all. BeginsWith all (given ++ option_to_list line) in
        subst B (t.cuts earlier given h).whole (begins_self (given ++ option_to_list line));
    closed = closed;
    exchanged = exchanged;
  }

  -- the front of a piece was taken, and the line that it ended, if it did, was served
  pub front_went : (goes : Next) (old new : S) (before after : LinkTells) (piece : List ℕ) (used : ℕ) (line : Option Cut)
      → Takes held piece used line held' → (text : List ℕ) × ServedTo serves goes (option_to_list line) text old new × Exchanged [] text before after
      → Went serves held held' old new before after goes [] (take used piece)
  front_went next.GoOn = went_front serves held held'
  front_went next.Close = closed_at_front

  -- what went so is as it goes
  pub went_as : (goes is : Next) (old new : S) (before after : LinkTells) (heard taken : List ℕ) → goes ≡ is
      → Went serves held held' old new before after goes heard taken → Went serves held held' old new before after is heard taken
  went_as goes is old new before after heard taken e w =
      let G : Next → Type 0 = λ n. Went serves held held' old new before after n heard taken in subst G e w

  -- .. in what was heard
  pub closed_heard : (all : List ℕ → List Cut) (old new : S) (before then after : LinkTells) (heard : List ℕ)
      → Exchanged heard [] before then → WasClosed serves held held' old new then after all []
      → WasClosed serves held held' old new before after all heard
  closed_heard all old new before then after heard p c = record {
    lines = c.lines;
    text = c.text;
    first = c.first;
    closed = c.closed;
    exchanged = exchanged_then_said heard c.text before then after p c.exchanged;
  }

-- .. after a part that went on
module _ {S : Type 0} (serves : Next → Cut → List ℕ → S → S → Type 0) (held mid held' : Cut) (old between new : S) (before then after : LinkTells) where
  pub closed_later : (heard taken more most : List ℕ) → WentOn serves held mid old between before then heard taken
      → WasClosed serves mid held' between new then after (ended_in most) more
      → WasClosed serves held held' old new before after (ended_in (taken ++ most)) (heard ++ more)
  closed_later heard taken more most w c = record {
    lines = w.lines ++ c.lines;
    text = w.text ++ c.text;
    first = λ earlier given h.
        let B : List ℕ → List Cut → Type 0 = λ bytes lines. BeginsWith (map cut (whole_lines bytes)) lines in
        let L : List Cut → Type 0 = B (earlier ++ (taken ++ most)) in
        let W : List ℕ → Type 0 = λ bytes. B bytes ((given ++ w.lines) ++ c.lines) in
        subst L (append_assoc given w.lines c.lines) (subst W (append_assoc earlier taken most) (c.first (earlier ++ taken) (given ++ w.lines) (w.cuts earlier given h)));
    closed = closed_then serves w.lines c.lines w.text c.text old between new w.served c.closed;
    exchanged = exchanged_then heard more w.text c.text before then after w.exchanged c.exchanged;
  }

  -- .. in the rest of a piece
  pub closed_in_piece : (piece done rest : List ℕ) (used : ℕ) → piece ≡ done ++ rest
      → WentOn serves held mid old between before then [] done → WasClosed serves mid held' between new then after (ended_in (take used rest)) []
      → WasClosed serves held held' old new before after (ended_in piece) []
  closed_in_piece piece done rest used parts w c =
      let part : WasClosed serves held held' old new before after (ended_in (done ++ take used rest)) [] = closed_later [] done [] (take used rest) w c in
      record {
        lines = part.lines;
        text = part.text;
        first = λ earlier given h.
            let W : List ℕ → Type 0 = λ bytes. BeginsWith (map cut (whole_lines bytes)) (given ++ part.lines) in
            let bytes : (earlier ++ (done ++ take used rest)) ++ drop used rest ≡ earlier ++ piece
            = append_assoc earlier (done ++ take used rest) (drop used rest)
            ∙ ap (λ (b : List ℕ). earlier ++ b) (append_assoc done (take used rest) (drop used rest) ∙ ap (λ (b : List ℕ). done ++ b) (take-append-drop used rest) ∙ sym parts) in
            subst W bytes (begins_then _ _ (given ++ part.lines) (whole_first (earlier ++ (done ++ take used rest)) (drop used rest)) (part.first earlier given h));
        closed = part.closed;
        exchanged = part.exchanged;
      }
