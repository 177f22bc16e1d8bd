-- Lines that were served, one after another.
use Rattle.cd_dialogue.specs.Dialogues.{GaveUp, ServedLast}
use Rattle.cd_dialogue.specs.Exchanges.{Exchanged}
use Rattle.cd_dialogue.specs.Served.{ClosedAt, Served, ServedTo}
use Rattle.cd_dialogue.specs.declared.server.Next.TheVariants as next
use Rattle.cd_dialogue.specs.declared.server.Next.{Next}
use Rattle.cd_io.specs.Link.{LinkTells}
use Rattle.cd_sock.specs.Lines.{Cut}
use Rattle.std.proofs.Common.{List, Option, Some, [], ap, append_assoc, refl, subst, sym, ℕ, ◌++◌, ◌∙◌, ◌∷◌, ◌≡◌}
use Rattle.std.proofs.lemmas.List.{append-nil}
use Rattle.std.specs.Option.{option_to_list}

module _ {S : Type 0} (serves : Cut → List ℕ → S → S → Type 0) where
  pub served_none : (server : S) → Served serves [] [] server server
  served_none server = (refl, refl)

  pub served_one : (line : Cut) (reply : List ℕ) (old new : S) → serves line reply old new → Served serves (line ∷ []) reply old new
  served_one line reply old new s = (new, reply, [], sym (append-nil reply), s, (refl, refl))

  -- lines and then more
  pub served_then : (lines more : List Cut) (text most : List ℕ) (old mid new : S)
      → Served serves lines text old mid → Served serves more most mid new → Served serves (lines ++ more) (text ++ most) old new
  served_then [] more text most old mid new s t =
      let T : List ℕ → Type 0 = λ w. Served serves more (w ++ most) old new in
      let F : S → Type 0 = λ server. Served serves more most server new in
      subst T (sym s.0) (subst F s.1 t)
  served_then (line ∷ lines) more text most old mid new (next, reply, others, parts, s, rest) t = (
    next,
    reply,
    others ++ most,
    ap (λ (w : List ℕ). w ++ most) parts ∙ append_assoc reply others most,
    s,
    served_then lines more others most next mid new rest t,
  )

  -- What every service of a line keeps, the service of lines keeps.
  pub served_keeps : {K : Type 0} (kept : S → K) → ((line : Cut) (reply : List ℕ) (old new : S) → serves line reply old new → kept new ≡ kept old)
      → (lines : List Cut) (text : List ℕ) (old new : S) → Served serves lines text old new → kept new ≡ kept old
  served_keeps kept keeps [] text old new s = ap kept s.1
  served_keeps kept keeps (line ∷ lines) text old new (next, reply, others, parts, s, rest) =
      served_keeps kept keeps lines others next new rest ∙ keeps line reply old next s

module _ {S : Type 0} (serves : Next → Cut → List ℕ → S → S → Type 0) where
  -- one line, whatever comes after it
  pub served_to : (goes : Next) (line : Cut) (reply : List ℕ) (old new : S) → serves goes line reply old new → ServedTo serves goes (line ∷ []) reply old new
  served_to next.GoOn line reply old new s = served_one (serves next.GoOn) line reply old new s
  served_to next.Close line reply old new s = record {
    earlier = [];
    last = line;
    lines_are = refl;
    replies = [];
    reply = reply;
    text_is = refl;
    between = old;
    served = served_none (serves next.GoOn) old;
    closed = s;
  }

  -- the line that was cut was served, and its reply said
  pub reply_said : (goes : Next) (end : Option Cut) (line : Cut) (reply said : List ℕ) (old new : S) (before after : LinkTells) → end ≡ Some line → said ≡ reply
      → serves goes line reply old new → Exchanged [] said before after → (text : List ℕ) × ServedTo serves goes (option_to_list end) text old new × Exchanged [] text before after
  reply_said goes end line reply said old new before after is same s e =
      let O : Option Cut → Type 0 = λ o. ServedTo serves goes (option_to_list o) reply old new in
      let X : List ℕ → Type 0 = λ t. Exchanged [] t before after in
      (reply, subst O (sym is) (served_to goes line reply old new s), subst X same e)

  -- lines, and then those at whose last one the server closed the dialogue
  pub closed_then : (lines more : List Cut) (text most : List ℕ) (old mid new : S)
      → Served (serves next.GoOn) lines text old mid → ClosedAt serves more most mid new → ClosedAt serves (lines ++ more) (text ++ most) old new
  closed_then lines more text most old mid new s c = record {
    earlier = lines ++ c.earlier;
    last = c.last;
    lines_are = ap (λ (ls : List Cut). lines ++ ls) c.lines_are ∙ sym (append_assoc lines c.earlier (c.last ∷ []));
    replies = text ++ c.replies;
    reply = c.reply;
    text_is = ap (λ (t : List ℕ). text ++ t) c.text_is ∙ sym (append_assoc text c.replies c.reply);
    between = c.between;
    served = served_then (serves next.GoOn) lines c.earlier text c.replies old mid c.between s c.served;
    closed = c.closed;
  }

  -- .. and then those of whose last one's reply all or a part was said
  pub served_then_last : (lines more : List Cut) (text most : List ℕ) (line : Cut) (reply : List ℕ) (old mid new : S)
      → Served (serves next.GoOn) lines text old mid → ServedLast serves mid new more most line reply
      → ServedLast serves old new (lines ++ more) (text ++ most) line reply
  served_then_last lines more text most line reply old mid new s l = record {
    between = l.between;
    goes = l.goes;
    served = served_then (serves next.GoOn) lines more text most old mid l.between s l.served;
    then = l.then;
  }

  -- .. and then those before one that may have been given up
  pub gave_up_then : (gives_up : Cut → S → S → Type 0) (lines more : List Cut) (given_up : Option Cut) (text most : List ℕ) (old mid new : S)
      → Served (serves next.GoOn) lines text old mid → GaveUp serves gives_up mid new more given_up most
      → GaveUp serves gives_up old new (lines ++ more) given_up (text ++ most)
  gave_up_then gives_up lines more given_up text most old mid new s g = record {
    last = g.last;
    served = served_then (serves next.GoOn) lines more text most old mid g.last s g.served;
    then = g.then;
  }

  -- all lines are served, where they are and the last one is
  pub served_all_of : (earlier : List Cut) (replies : List ℕ) (last : Cut) (reply : List ℕ) (old mid new : S)
      → Served (serves next.GoOn) earlier replies old mid → serves next.GoOn last reply mid new
      → Served (serves next.GoOn) (earlier ++ last ∷ []) (replies ++ reply) old new
  served_all_of earlier replies last reply old mid new s l =
      served_then (serves next.GoOn) earlier (last ∷ []) replies reply old mid new s (served_one (serves next.GoOn) last reply mid new l)
