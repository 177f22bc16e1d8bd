-- A word with quotes, as it is read character by character.
use Rattle.cd_text.specs.Cutting.{IsReadOn, Reads, State, empty_word, fed, is_blank_byte, opened, outside, part_adds, used_up, within}
use Rattle.cd_text.specs.Quoting.{adds, quoting_after}
use Rattle.cd_text.specs.declared.cutter.OpenWord.{OpenWord}
use Rattle.cd_text.specs.declared.cutter.Part.TheVariants.{Blank, Letter, Mark}
use Rattle.cd_text.specs.declared.cutter.Part.{Part}
use Rattle.cd_text.specs.declared.cutter.Quoting.TheVariants.{Escaped, Inside, Outside}
use Rattle.cd_text.specs.declared.cutter.Quoting.{Quoting}
use Rattle.cd_text.specs.declared.word.Word.{Word}
use Rattle.std.proofs.Common.{Bool, List, None, Option, Some, [], add-one, ap, append-nil, arith, cond, drop, drop-cons, false, get_or, is_some, length, length-append, refl, string_bytes, sym, take, true, true≢false, ℕ, ◌++◌, ◌+◌, ◌<◌, ◌∙◌, ◌∷◌, ◌≡◌, ◌≤◌}
use Rattle.std.proofs.lemmas.List.Sums.{fold-append}
use Rattle.std.proofs.lemmas.List.{take-append-drop}
use Rattle.std.proofs.lemmas.Str.{encodes-append, encodes-chars, length-encode}
use Rattle.std.specs.Char.{len_utf8}
use Rattle.std.specs.Prelude.{encode_utf8 as encode, unwrap_or, ◌==◌, ◌||◌}
use Rattle.std.specs.Str.{IsUtf8, chars, encode_utf8_all}

-- a character that is no blank adds something
pub part_some : (part : Part) (c : ℕ) → (part ≡ Blank → ⊥) → part_adds part c ≡ Some (unwrap_or (part_adds part c) [])
part_some Blank c never = absurd (never refl)
part_some Mark c never = refl
part_some Letter c never = refl

-- only outside quotes a character is a blank
either_some : (b : Bool) (x y : List ℕ) → cond b (Some x) (Some y) ≡ None → ⊥
either_some true x y e = true≢false (ap is_some e)
either_some false x y e = true≢false (ap is_some e)

blank_or_some : (b : Bool) (o : Option (List ℕ)) → (o ≡ None → ⊥) → cond b None o ≡ None → b ≡ true
blank_or_some true o some e = refl
blank_or_some false o some e = absurd (some e)

pub blank_outside : (q : Quoting) (c : ℕ) → adds q c ≡ None → (q ≡ Outside) × (is_blank_byte c ≡ true)
blank_outside Outside c e =
    (refl, blank_or_some (is_blank_byte c) (cond (c == 34) (Some []) (Some (encode c))) (either_some (c == 34) [] (encode c)) e)
blank_outside Inside c e = absurd (either_some (c == 34 || c == 92) [] (encode c) e)
blank_outside Escaped c e = absurd (true≢false (ap is_some e))

abbrev word_at : List Word → ℕ → List ℕ → ℕ → Quoting → State
word_at ws start t place q = within ws (record { text = t; start = start }) (record { place = place; quoting = q })

pub reads_none : (o : OpenWord) → string_bytes o.text ≡ [] → o.used ≡ 0 → o.quoting ≡ Outside → Reads o []
reads_none o text used out = λ ws place.
    ap (λ (t : List ℕ). word_at ws place t place Outside) (sym text)
    ∙ ap (λ (n : ℕ). word_at ws place (string_bytes o.text) n Outside) (omega (arith, used))
    ∙ ap (λ (q : Quoting). word_at ws place (string_bytes o.text) (place + o.used) q) (sym out)

one_more : (ws : List Word) (place : ℕ) (o n : OpenWord) (c : ℕ) (x : List ℕ) → adds o.quoting c ≡ Some x → string_bytes n.text ≡ string_bytes o.text ++ x
    → n.used ≡ o.used + len_utf8 c → n.quoting ≡ quoting_after o.quoting c → fed (within ws (opened place o) (used_up place o)) c ≡ within ws (opened place n) (used_up place n)
unfolding fed
one_more ws place o n c x e text used quoting =
    rw e
    (ap (λ (t : List ℕ). word_at ws place t (place + o.used + len_utf8 c) (quoting_after o.quoting c)) (sym text)
    ∙ ap (λ (p : ℕ). word_at ws place (string_bytes n.text) p (quoting_after o.quoting c)) (omega (arith, used))
    ∙ ap (λ (q : Quoting). word_at ws place (string_bytes n.text) (place + n.used) q) (sym quoting))

pub reads_more : (o n : OpenWord) (taken : List ℕ) (c : ℕ) (x : List ℕ) → Reads o taken → adds o.quoting c ≡ Some x → string_bytes n.text ≡ string_bytes o.text ++ x
    → n.used ≡ o.used + len_utf8 c → n.quoting ≡ quoting_after o.quoting c → Reads n (taken ++ c ∷ [])
reads_more o n taken c x so_far e text used quoting = λ ws place.
    fold-append fed (within ws (empty_word place) (outside place)) taken (c ∷ [])
    ∙ ap (λ (s : State). fed s c) (so_far ws place) ∙ one_more ws place o n c x e text used quoting

pub used_more : (taken : List ℕ) (c used more : ℕ) → used ≡ length (encode_utf8_all taken) → more ≡ used + len_utf8 c → more ≡ length (encode_utf8_all (taken ++ c ∷ []))
used_more taken c used more e is =
    omega (arith, e, is, ap length (encodes-append taken (c ∷ [])), length-append (encode_utf8_all taken) (encode c ++ []), ap length (append-nil (encode c)), length-encode c)

-- the characters before one, that one, and those behind it
pub parts_here : (cs taken : List ℕ) (n c : ℕ) → n < length cs → c ≡ get_or cs n c → taken ≡ take n cs → cs ≡ taken ++ c ∷ drop (n + 1) cs
parts_here cs taken n c lt e is =
    let cut : take n cs ++ (c ∷ drop (n + 1) cs) ≡ cs
    = ap (λ (x : ℕ). take n cs ++ (x ∷ drop (n + 1) cs)) e ∙ ap (λ (xs : List ℕ). take n cs ++ xs) (rw add-one (sym (drop-cons cs n c lt))) ∙ take-append-drop n cs in
    sym cut ∙ ap (λ (xs : List ℕ). xs ++ c ∷ drop (n + 1) cs) (sym is)

pub fits : (text taken : List ℕ) (n c used : ℕ) → IsUtf8 text → n < length (chars text) → c ≡ get_or (chars text) n c → taken ≡ take n (chars text) → used ≡ length (encode_utf8_all taken)
    → used + len_utf8 c ≤ length text
fits text taken n c used utf8 lt e is so_far =
    let behind = drop (n + 1) (chars text) in
    let bytes : text ≡ encode_utf8_all taken ++ (encode c ++ encode_utf8_all behind)
    = sym (encodes-chars text utf8) ∙ ap encode_utf8_all (parts_here (chars text) taken n c lt e is) ∙ encodes-append taken (c ∷ behind) in
    omega (arith, so_far, ap length bytes, length-append (encode_utf8_all taken) (encode c ++ encode_utf8_all behind), length-append (encode c) (encode_utf8_all behind), length-encode c)

pub read_to_blank : (text taken : List ℕ) (n c : ℕ) (o : OpenWord) → IsUtf8 text → n < length (chars text) → c ≡ get_or (chars text) n c → taken ≡ take n (chars text)
    → o.used ≡ length (encode_utf8_all taken) → Reads o taken → adds o.quoting c ≡ None → IsReadOn text o
read_to_blank text taken n c o utf8 lt e is used reads none =
    let blank = blank_outside o.quoting c none in record {
      utf8 = utf8;
      taken = taken;
      left = c ∷ drop (n + 1) (chars text);
      parts = parts_here (chars text) taken n c lt e is;
      used = used;
      reads = reads;
      unended = λ never. absurd (never blank.0);
      ends = blank.1;
    }

pub read_to_end : (text taken : List ℕ) (o : OpenWord) → IsUtf8 text → taken ≡ chars text → o.used ≡ length (encode_utf8_all taken) → Reads o taken → IsReadOn text o
read_to_end text taken o utf8 is used reads = record {
  utf8 = utf8;
  taken = taken;
  left = [];
  parts = sym is ∙ sym (append-nil taken);
  used = used;
  reads = reads;
  unended = λ never. refl;
  ends = tt;
}
