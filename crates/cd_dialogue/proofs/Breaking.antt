-- A dialogue that broke off.
use Rattle.cd_dialogue.proofs.Exchanging.{exchanged_nothing, exchanged_then}
use Rattle.cd_dialogue.proofs.Serving.{gave_up_then, served_none, served_then_last}
use Rattle.cd_dialogue.specs.Dialogues.{AreFirst, Broke, BrokeHearing, BrokeOff, StepBroke, WentOn, ended_in}
use Rattle.cd_dialogue.specs.Exchanges.{Exchanged}
use Rattle.cd_dialogue.specs.Served.{Served}
use Rattle.cd_dialogue.specs.declared.ends.DialogueFault.TheVariants.{Link, Memory}
use Rattle.cd_dialogue.specs.declared.ends.DialogueFault.{DialogueFault}
use Rattle.cd_dialogue.specs.declared.server.Next.TheVariants as next
use Rattle.cd_dialogue.specs.declared.server.Next.{Next}
use Rattle.cd_io.proofs.Rises.{later_rose}
use Rattle.cd_io.proofs.Speaking.{spoke_then}
use Rattle.cd_io.specs.Link.{LinkTells, SaidInPart, Spoke}
use Rattle.cd_sock.proofs.Pieces.{whole_joined}
use Rattle.cd_sock.specs.Lines.{BeginsWith, Cut, Finishes, Takes, cut, cut_lines, unfinished, whole_lines}
use Rattle.std.proofs.Common.{Err, IfErr, IsErrAnd, List, None, Ok, Option, Result, Some, [], ap, append_assoc, drop, inr, map, refl, subst, sym, take, ℕ, ◌++◌, ◌∙◌, ◌∷◌, ◌≡◌}
use Rattle.std.proofs.lemmas.List.{append-nil, map-append, take-append-drop}
use Rattle.std.specs.Option.{option_to_list}

-- the fault that a `?` hands on
pub handed_on : {T E : Type 0} (r : Result T E) (fault : E) (P : E → Type 0) → IsErrAnd r (λ e. e ≡ fault) → P fault → IfErr r P
handed_on (Ok x) fault P is p = absurd is
handed_on (Err e) fault P is p = subst P (sym is) p

-- ---- the first of lines

pub begins_self : (lines : List Cut) → BeginsWith lines lines
begins_self lines = ([], sym (append-nil lines))

pub begins_none : (lines : List Cut) → BeginsWith lines []
begins_none lines = (lines, refl)

pub begins_then : (all most lines : List Cut) → BeginsWith all most → BeginsWith most lines → BeginsWith all lines
begins_then all most lines (rest, is) (others, parts) =
    (others ++ rest, is ∙ ap (λ (ls : List Cut). ls ++ rest) parts ∙ append_assoc lines others rest)

-- behind the same lines
pub begins_behind : (given lines first : List Cut) → BeginsWith lines first → BeginsWith (given ++ lines) (given ++ first)
begins_behind given lines first (rest, is) = (rest, ap (λ (ls : List Cut). given ++ ls) is ∙ sym (append_assoc given first rest))

-- lines, and then others in two parts
pub lines_then : (lines most earlier last : List Cut) → most ≡ earlier ++ last → lines ++ most ≡ (lines ++ earlier) ++ last
lines_then lines most earlier last are = ap (λ (ls : List Cut). lines ++ ls) are ∙ sym (append_assoc lines earlier last)

-- what ends in bytes is the first of what ends in more bytes
pub whole_first : (bytes more : List ℕ) → BeginsWith (map cut (whole_lines (bytes ++ more))) (map cut (whole_lines bytes))
whole_first bytes more =
    (map cut (whole_lines (unfinished bytes ++ more)), ap (map cut) (whole_joined bytes more) ∙ map-append cut (whole_lines bytes) (whole_lines (unfinished bytes ++ more)))

module _ {S : Type 0} (serves : Next → Cut → List ℕ → S → S → Type 0) (gives_up : Cut → S → S → Type 0) where
  -- ---- a line

  -- its reply was said in part
  pub reply_cut_short : (goes : Next) (old new : S) (before after : LinkTells) (line : Cut) (reply : List ℕ) → serves goes line reply old new → SaidInPart reply before after
      → after.quiets ≡ before.quiets → BrokeOff serves gives_up old new before after [] (line ∷ []) Link
  reply_cut_short goes old new before after line reply s p quiets = record {
    earlier = [];
    last = line;
    lines_are = refl;
    replies = [];
    said = p.written;
    unsaid = p.unwritten;
    some = p.some;
    served = record {
      between = old;
      goes = goes;
      served = served_none (serves next.GoOn) old;
      then = let T : List ℕ → Type 0 = λ w. serves goes line w old new in subst T p.parts s;
    };
    spoke = p.spoke;
    rose = p.rose;
    quiets = quiets;
  }

  -- where a line was cut, this holds of it
  pub at_cut : (fault : DialogueFault) (end : Option Cut) (line : Cut) (old new : S) (before after : LinkTells) → end ≡ Some line
      → BrokeOff serves gives_up old new before after [] (line ∷ []) fault
      → (lines : List Cut) × BeginsWith (option_to_list end) lines × BrokeOff serves gives_up old new before after [] lines fault
  at_cut fault end line old new before after is b =
      let E : Option Cut → Type 0 = λ o. BeginsWith (option_to_list o) (line ∷ []) in
      (line ∷ [], subst E (sym is) (begins_self (line ∷ [])), b)

  -- it was given up
  pub line_given_up : (line : Cut) (old new : S) (link : LinkTells) → gives_up line old new → BrokeOff serves gives_up old new link link [] (line ∷ []) Memory
  line_given_up line old new link g = record {
    earlier = [];
    given_up = Some line;
    lines_are = refl;
    text = [];
    served = record { last = old; served = served_none (serves next.GoOn) old; then = g };
    exchanged = exchanged_nothing link;
  }

  -- memory was lacking before any line
  pub none_served : (server : S) (before after : LinkTells) (heard : List ℕ) → Exchanged heard [] before after → BrokeOff serves gives_up server server before after heard [] Memory
  none_served server before after heard p = record {
    earlier = [];
    given_up = None;
    lines_are = refl;
    text = [];
    served = record { last = server; served = served_none (serves next.GoOn) server; then = refl };
    exchanged = p;
  }

  -- ---- after a part that went on

  pub off_then : (old between new : S) (before then after : LinkTells) (heard more : List ℕ) (lines most : List Cut) (text : List ℕ) (fault : DialogueFault)
      → Served (serves next.GoOn) lines text old between → Exchanged heard text before then → BrokeOff serves gives_up between new then after more most fault
      → BrokeOff serves gives_up old new before after (heard ++ more) (lines ++ most) fault
  off_then old between new before then after heard more lines most text Link s p b = record {
    earlier = lines ++ b.earlier;
    last = b.last;
    lines_are = lines_then lines most b.earlier (b.last ∷ []) b.lines_are;
    replies = text ++ b.replies;
    said = b.said;
    unsaid = b.unsaid;
    some = b.some;
    served = served_then_last serves lines b.earlier text b.replies b.last (b.said ++ b.unsaid) old between new s b.served;
    spoke = let T : List ℕ → Type 0 = λ w. Spoke (heard ++ more) w before after in
        subst T (sym (append_assoc text b.replies b.said)) (spoke_then heard more text (b.replies ++ b.said) before then after p.spoke b.spoke);
    rose = later_rose before.faults then.faults after.faults p.spoke.faults b.rose;
    quiets = b.quiets ∙ p.quiets;
  }
  off_then old between new before then after heard more lines most text Memory s p b = record {
    earlier = lines ++ b.earlier;
    given_up = b.given_up;
    lines_are = lines_then lines most b.earlier (option_to_list b.given_up) b.lines_are;
    text = text ++ b.text;
    served = gave_up_then serves gives_up lines b.earlier b.given_up text b.text old between new s b.served;
    exchanged = exchanged_then heard more text b.text before then after p b.exchanged;
  }

  -- ---- parts of a dialogue

  -- no line was served yet, of those that end in some bytes
  pub none_first : (held : Cut) (bytes : List ℕ) → AreFirst (ended_in bytes) [] held
  none_first held bytes earlier given h =
      let B : List Cut → Type 0 = BeginsWith (ended_in bytes earlier) in
      subst B (sym (append-nil given ∙ h.whole)) (whole_first earlier bytes)

  -- memory was lacking before a line ended
  pub lacked_first : (held : Cut) (server : S) (link : LinkTells) (bytes : List ℕ) → Broke serves gives_up Memory (ended_in bytes) held server server link link []
  lacked_first held server link bytes = record {
    lines = [];
    first = none_first held bytes;
    broke = none_served server link link [] (exchanged_nothing link);
  }

  -- it broke off at the line that the front of a piece ended
  pub broke_at_front : (fault : DialogueFault) (held held' : Cut) (old new : S) (before after : LinkTells) (piece : List ℕ) (used : ℕ) (line : Option Cut)
      → Takes held piece used line held'
      → (lines : List Cut) × BeginsWith (option_to_list line) lines × BrokeOff serves gives_up old new before after [] lines fault
      → Broke serves gives_up fault (ended_in piece) held old new before after []
  broke_at_front fault held held' old new before after piece used line t (lines, begins, b) = record {
    lines = lines;
    first = λ earlier given h.
        let whole : List ℕ → Type 0 = λ bytes. BeginsWith (map cut (whole_lines bytes)) (map cut (whole_lines (earlier ++ take used piece))) in
        let bytes : (earlier ++ take used piece) ++ drop used piece ≡ earlier ++ piece
        = append_assoc earlier (take used piece) (drop used piece) ∙ ap (λ (w : List ℕ). earlier ++ w) (take-append-drop used piece) in
        let all : BeginsWith (ended_in piece earlier) (map cut (whole_lines (earlier ++ take used piece)))
        = subst whole bytes (whole_first (earlier ++ take used piece) (drop used piece)) in
        let B : List Cut → Type 0 = BeginsWith (ended_in piece earlier) in
        begins_then _ (given ++ option_to_list line) (given ++ lines) (subst B (sym (t.cuts earlier given h).whole) all) (begins_behind given (option_to_list line) lines begins);
    broke = b;
  }

  -- it broke off at the last line
  pub broke_at_last : (fault : DialogueFault) (held held' : Cut) (old new : S) (before after : LinkTells) (line : Option Cut)
      → Finishes held line held'
      → (lines : List Cut) × BeginsWith (option_to_list line) lines × BrokeOff serves gives_up old new before after [] lines fault
      → Broke serves gives_up fault cut_lines held old new before after []
  broke_at_last fault held held' old new before after line f (lines, begins, b) = record {
    lines = lines;
    first = λ earlier given h.
        let B : List Cut → Type 0 = λ all. BeginsWith all (given ++ lines) in
        subst B (f.last earlier given h) (begins_behind given (option_to_list line) lines begins);
    broke = b;
  }

  -- it broke off after a part that went on
  pub broke_then : (fault : DialogueFault) (held mid : Cut) (old between new : S) (before then after : LinkTells) (heard taken more most : List ℕ)
      → WentOn serves held mid old between before then heard taken → Broke serves gives_up fault (ended_in most) mid between new then after more
      → Broke serves gives_up fault (ended_in (taken ++ most)) held old new before after (heard ++ more)
  broke_then fault held mid old between new before then after heard taken more most w b = record {
    lines = w.lines ++ b.lines;
    first = λ earlier given h.
        let B : List ℕ → List Cut → Type 0 = λ bytes lines. BeginsWith (map cut (whole_lines bytes)) lines in
        let L : List Cut → Type 0 = B (earlier ++ (taken ++ most)) in
        let W : List ℕ → Type 0 = λ bytes. B bytes ((given ++ w.lines) ++ b.lines) in
        subst L (append_assoc given w.lines b.lines) (subst W (append_assoc earlier taken most) (b.first (earlier ++ taken) (given ++ w.lines) (w.cuts earlier given h)));
    broke = off_then old between new before then after heard more w.lines b.lines w.text fault w.served w.exchanged b.broke;
  }

  -- it broke off in the rest of a piece
  pub broke_in_piece : (fault : DialogueFault) (held mid : Cut) (old between new : S) (before then after : LinkTells) (piece done rest : List ℕ)
      → piece ≡ done ++ rest → WentOn serves held mid old between before then [] done → Broke serves gives_up fault (ended_in rest) mid between new then after []
      → Broke serves gives_up fault (ended_in piece) held old new before after []
  broke_in_piece fault held mid old between new before then after piece done rest parts w b =
      let B : List ℕ → Type 0 = λ bytes. Broke serves gives_up fault (ended_in bytes) held old new before after [] in
      subst B (sym parts) (broke_then fault held mid old between new before then after [] done [] rest w b)

  -- it broke off in what was heard
  pub broke_heard : (fault : DialogueFault) (held : Cut) (old new : S) (before then after : LinkTells) (heard taken : List ℕ)
      → Exchanged heard [] before then → Broke serves gives_up fault (ended_in taken) held old new then after []
      → Broke serves gives_up fault (ended_in taken) held old new before after heard
  broke_heard fault held old new before then after heard taken p b = record {
    lines = b.lines;
    first = b.first;
    broke =
        let O : List ℕ → Type 0 = λ h. BrokeOff serves gives_up old new before after h b.lines fault in
        subst O (append-nil heard) (off_then old old new before then after heard [] [] b.lines [] fault (served_none (serves next.GoOn) old) p b.broke);
  }

  -- .. and a step with it
  pub broke_in_step : (fault : DialogueFault) (held : Cut) (old new : S) (before after : LinkTells) (room : ℕ)
      → BrokeHearing serves gives_up held old new before after room fault → StepBroke serves gives_up held old new before after room fault
  broke_in_step Link held old new before after room b = inr b
  broke_in_step Memory held old new before after room b = b
