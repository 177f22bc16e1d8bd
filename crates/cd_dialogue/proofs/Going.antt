-- A dialogue that goes on, part by part.
use Rattle.cd_dialogue.proofs.Exchanging.{exchanged_nothing, exchanged_then, exchanged_then_said}
use Rattle.cd_dialogue.proofs.Serving.{served_none, served_then}
use Rattle.cd_dialogue.specs.Dialogues.{WentOn}
use Rattle.cd_dialogue.specs.Exchanges.{Exchanged}
use Rattle.cd_dialogue.specs.Served.{Served}
use Rattle.cd_dialogue.specs.declared.server.Next.TheVariants as next
use Rattle.cd_dialogue.specs.declared.server.Next.{Next}
use Rattle.cd_io.specs.Link.{LinkTells}
use Rattle.cd_sock.specs.Lines.{Cut, HasCut, Takes}
use Rattle.std.proofs.Common.{List, Option, [], ap, append_assoc, arith, drop, length, subst, sym, take, true, ℕ, ◌++◌, ◌<◌, ◌∙◌, ◌∷◌, ◌≡◌, ◌≤◌}
use Rattle.std.proofs.lemmas.Bool.{eqb-true}
use Rattle.std.proofs.lemmas.List.{append-nil, take-append-drop}
use Rattle.std.specs.Option.{option_to_list}
use Rattle.std.specs.Prelude.{◌==◌}

-- a call of `take` uses some of a piece
pub some_used : (held held' : Cut) (piece : List ℕ) (used : ℕ) (line : Option Cut) → Takes held piece used line held'
    → (used ≤ length piece) × (0 < length piece → 0 < used)
some_used held held' piece used line t = let is = t.through in (omega (arith, is), λ some. omega (arith, is, some))

-- cutting bytes and then more
pub cuts_then : (held mid held' : Cut) (lines more : List Cut) (first next : List ℕ)
    → ((earlier : List ℕ) (given : List Cut) → HasCut earlier given held → HasCut (earlier ++ first) (given ++ lines) mid)
    → ((earlier : List ℕ) (given : List Cut) → HasCut earlier given mid → HasCut (earlier ++ next) (given ++ more) held')
    → (earlier : List ℕ) (given : List Cut) → HasCut earlier given held → HasCut (earlier ++ (first ++ next)) (given ++ (lines ++ more)) held'
cuts_then held mid held' lines more first next a b earlier given h =
    let B : List ℕ → Type 0 = λ bytes. HasCut bytes (given ++ (lines ++ more)) held' in
    let L : List Cut → Type 0 = λ ls. HasCut ((earlier ++ first) ++ next) ls held' in
    subst B (append_assoc earlier first next) (subst L (append_assoc given lines more) (b (earlier ++ first) (given ++ lines) (a earlier given h)))

module _ {S : Type 0} (serves : Next → Cut → List ℕ → S → S → Type 0) where
  -- before anything was heard
  pub went_none : (held : Cut) (server : S) (link : LinkTells) → WentOn serves held held server server link link [] []
  went_none held server link = record {
    lines = [];
    text = [];
    cuts = λ earlier given h.
        let B : List ℕ → Type 0 = λ bytes. HasCut bytes (given ++ []) held in
        let L : List Cut → Type 0 = λ ls. HasCut earlier ls held in
        subst B (sym (append-nil earlier)) (subst L (sym (append-nil given)) h);
    served = served_none (serves next.GoOn) server;
    exchanged = exchanged_nothing link;
  }

  -- two parts, one after the other
  pub went_then : (held mid held' : Cut) (old between new : S) (before then after : LinkTells) (heard taken more most : List ℕ)
      → WentOn serves held mid old between before then heard taken → WentOn serves mid held' between new then after more most
      → WentOn serves held held' old new before after (heard ++ more) (taken ++ most)
  went_then held mid held' old between new before then after heard taken more most a b = record {
    lines = a.lines ++ b.lines;
    text = a.text ++ b.text;
    cuts = cuts_then held mid held' a.lines b.lines taken most a.cuts b.cuts;
    served = served_then (serves next.GoOn) a.lines b.lines a.text b.text old between new a.served b.served;
    exchanged = exchanged_then heard more a.text b.text before then after a.exchanged b.exchanged;
  }

  -- the front of a piece was taken, and the line that it ended, if it did, was served
  pub went_front : (held held' : Cut) (old new : S) (before after : LinkTells) (piece : List ℕ) (used : ℕ) (line : Option Cut)
      → Takes held piece used line held' → (text : List ℕ) × Served (serves next.GoOn) (option_to_list line) text old new × Exchanged [] text before after
      → WentOn serves held held' old new before after [] (take used piece)
  went_front held held' old new before after piece used line t (text, served, exchanged) =
      record { lines = option_to_list line; text = text; cuts = t.cuts; served = served; exchanged = exchanged }

  -- the first part of a piece was taken, and more of it
  pub went_more : (held mid held' : Cut) (old between new : S) (before then after : LinkTells) (done rest : List ℕ) (used : ℕ)
      → WentOn serves held mid old between before then [] done → WentOn serves mid held' between new then after [] (take used rest)
      → WentOn serves held held' old new before after [] (done ++ take used rest)
  went_more held mid held' old between new before then after done rest used a b =
      went_then held mid held' old between new before then after [] done [] (take used rest) a b

  -- all of it was taken
  pub went_all : (held held' : Cut) (old new : S) (before after : LinkTells) (piece done rest : List ℕ) → piece ≡ done ++ rest → (length rest == 0) ≡ true
      → WentOn serves held held' old new before after [] done → WentOn serves held held' old new before after [] piece
  went_all held held' old new before after piece done [] parts empty w =
      let W : List ℕ → Type 0 = λ bytes. WentOn serves held held' old new before after [] bytes in subst W (sym (parts ∙ append-nil done)) w
  went_all held held' old new before after piece done (x ∷ rest) parts empty w =
      absurd (let e : length (x ∷ rest) ≡ 0 = eqb-true (length (x ∷ rest)) 0 empty in omega (arith, e))

  -- bytes were heard, and of them some were taken
  pub went_heard : (held held' : Cut) (old new : S) (before then after : LinkTells) (heard taken : List ℕ)
      → Exchanged heard [] before then → WentOn serves held held' old new then after [] taken → WentOn serves held held' old new before after heard taken
  went_heard held held' old new before then after heard taken p w = record {
    lines = w.lines;
    text = w.text;
    cuts = w.cuts;
    served = w.served;
    exchanged = exchanged_then_said heard w.text before then after p w.exchanged;
  }

-- what stays of a piece
pub piece_parts : (piece done rest back : List ℕ) (used : ℕ) → piece ≡ done ++ rest → back ≡ drop used rest → piece ≡ (done ++ take used rest) ++ back
piece_parts piece done rest back used parts is =
    parts ∙ ap (λ (w : List ℕ). done ++ w) (sym (take-append-drop used rest))
    ∙ sym (append_assoc done (take used rest) (drop used rest))
    ∙ ap (λ (w : List ℕ). (done ++ take used rest) ++ w) (sym is)
