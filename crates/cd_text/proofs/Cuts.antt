-- What is cut off what is left of a line.
use Rattle.cd_text.proofs.Slices.{Heads, back_heads, begins_left, begins_text, blanks, cut_off, ends_left, never_ends, not_both, outcome_none, outcome_of_line, run_boundary, run_cut, run_some, seam, skipped}
use Rattle.cd_text.specs.Cutting.{BeginsWord, EndsWord, IsAtWord, IsCutOff, IsReadOn, begins_word, between, empty_word, ends_run, fed, left, opened, outcome, outside, used_up, within}
use Rattle.cd_text.specs.Quoting.{words_of}
use Rattle.cd_text.specs.declared.cutter.OpenWord.{OpenWord}
use Rattle.cd_text.specs.declared.cutter.Quoting.TheVariants.{Outside}
use Rattle.cd_text.specs.declared.cutter.Quoting.{Quoting}
use Rattle.cd_text.specs.declared.cutter.Rest.{Rest}
use Rattle.cd_text.specs.declared.word.Word.{Word}
use Rattle.cd_text.specs.declared.word.WordFault.TheVariants.{Unterminated}
use Rattle.std.proofs.Common.{Err, List, Ok, [], ap, arith, drop, length, length-append, subst, sym, take, ℕ, ◌++◌, ◌+◌, ◌<◌, ◌==◌, ◌∙◌, ◌∷◌, ◌≡◌}
use Rattle.std.proofs.Common.{false, slice_index}
use Rattle.std.proofs.lemmas.Str.{IsUtf8-drop, IsUtf8-take, chars-nil, len_utf8_bounds, length-encode}
use Rattle.std.specs.List.{fold, position_or_len}
use Rattle.std.specs.Prelude.{encode_utf8 as encode}
use Rattle.std.specs.Str.{IsUtf8, chars, encode_utf8_all}

pub at_word : (old new : Rest) (n : ℕ) → n ≡ blanks old.text.now → new.text.now ≡ drop n old.text.now → new.place ≡ old.place + n → length new.text.now + n ≡ length old.text.now
    → IsAtWord old new
at_word old new n is text place len =
    let back : new.text.now ≡ drop (blanks old.text.now) old.text.now = text ∙ ap (λ (m : ℕ). drop m old.text.now) is in record {
      same = λ ws. skipped ws old.place old.text.now ∙ ap (λ (m : ℕ). outcome (between ws m) (chars (drop (blanks old.text.now) old.text.now))) (ap (λ (m : ℕ). old.place + m) (sym is) ∙ sym place)
          ∙ ap (λ (xs : List ℕ). outcome (between ws new.place) (chars xs)) (sym back);
      sum = omega (arith, place, len);
      shorter = omega (arith, len);
      begins = λ some. begins_left new.text.now some (subst (λ (xs : List ℕ). Heads begins_word xs) (sym back) (back_heads begins_word old.text.now));
    }

pub cut_run : (old new : Rest) (w : Word) (n : ℕ) → IsUtf8 old.text.now → BeginsWord old.text.now → n ≡ position_or_len ends_run old.text.now
    → w ≡ record { text = take n old.text.now; start = old.place } → new.text.now ≡ drop n old.text.now → new.place ≡ old.place + n → length new.text.now + n ≡ length old.text.now
    → (slice_index new.text.now 0 == 34) ≡ false → IsCutOff old w new
cut_run old new w n utf8 first is word text place len none =
    let m = position_or_len ends_run old.text.now in
    let rest : new.text.now ≡ drop m old.text.now = text ∙ ap (λ (k : ℕ). drop k old.text.now) is in
    let cut : w ≡ record { text = take m old.text.now; start = old.place } = word ∙ ap (λ (k : ℕ). at k) is in
    let last : EndsWord new.text.now = ends_left new.text.now (subst (λ (xs : List ℕ). Heads ends_run xs) (sym rest) (back_heads ends_run old.text.now)) none in
    let ends : EndsWord (drop m old.text.now) = subst EndsWord rest last in record {
      same = λ ws. run_cut ws old.place old.text.now utf8 (IsUtf8-take old.text.now m utf8 (run_boundary old.text.now)) (IsUtf8-drop old.text.now m utf8 (run_boundary old.text.now)) first ends
          ∙ ap (λ (x : Word). outcome (between (ws ++ x ∷ []) (old.place + m)) (chars (drop m old.text.now))) (sym cut)
          ∙ ap (λ (k : ℕ). outcome (between (ws ++ w ∷ []) k) (chars (drop m old.text.now))) (ap (λ (k : ℕ). old.place + k) (sym is) ∙ sym place)
          ∙ ap (λ (xs : List ℕ). outcome (between (ws ++ w ∷ []) new.place) (chars xs)) (sym rest);
      sum = omega (arith, place, len);
      shorter = omega (arith, len, is, run_some old.text.now m first ends);
    } where
      at : ℕ → Word
      at k = record { text = take k old.text.now; start = old.place }

-- something is read
reads_some : (cs taken left : List ℕ) → cs ≡ taken ++ left → BeginsWord cs → EndsWord left → 0 < length (encode_utf8_all taken)
reads_some cs [] left parts first last = absurd (not_both left (subst BeginsWord parts first) last)
reads_some cs (c ∷ taken) left parts first last =
    omega (arith, length-append (encode c) (encode_utf8_all taken), length-encode c, (len_utf8_bounds c).0)

pub cut_quotes : (old new : Rest) (w : Word) (o : OpenWord) → BeginsWord old.text.now → IsReadOn old.text.now o → o.quoting ≡ Outside → w ≡ opened old.place o
    → new.text.now ≡ drop o.used old.text.now → new.place ≡ old.place + o.used → length new.text.now + o.used ≡ length old.text.now → IsCutOff old w new
cut_quotes old new w o first read out word text place len =
    let cs = chars old.text.now in
    let begins : BeginsWord cs = begins_text old.text.now read.utf8 first in
    let s = seam old.text.now read.taken read.left o.used read.utf8 read.parts read.used in
    let to : (ws : List Word) → fold fed (within ws (empty_word old.place) (outside old.place)) read.taken ≡ within ws w (outside new.place)
    = λ ws. read.reads ws old.place ∙ ap (λ (q : Quoting). within ws (opened old.place o) (record { place = old.place + o.used; quoting = q })) out
    ∙ ap (λ (k : ℕ). within ws (opened old.place o) (outside k)) (sym place) ∙ ap (λ (x : Word). within ws x (outside new.place)) (sym word) in record {
      same = λ ws. cut_off ws old.place new.place w cs read.taken read.left read.parts begins read.ends (to ws)
          ∙ ap (outcome (between (ws ++ w ∷ []) new.place)) (sym s.rest ∙ ap chars (sym text));
      sum = omega (arith, place, len);
      shorter = omega (arith, len, read.used, reads_some cs read.taken read.left read.parts begins read.ends);
    }

pub open_quotes : (old : Rest) (o : OpenWord) → BeginsWord old.text.now → IsReadOn old.text.now o → (o.quoting ≡ Outside → ⊥) → (ws : List Word) → left ws old ≡ Err Unterminated
open_quotes old o first read never ws =
    never_ends ws old.place (opened old.place o) (used_up old.place o) (chars old.text.now) read.taken read.left read.parts (begins_text old.text.now read.utf8 first) (read.unended never) never (read.reads ws old.place)

no_bytes : (xs : List ℕ) → length xs ≡ 0 → chars xs ≡ []
no_bytes [] e = chars-nil
no_bytes (x ∷ xs) e = absurd (not_empty e) where
  not_empty : length (x ∷ xs) ≡ 0 → ⊥
  not_empty f = omega (arith, f)

pub nothing_left : (ws : List Word) (rest : Rest) → length rest.text.now ≡ 0 → left ws rest ≡ Ok ws
nothing_left ws rest e = ap (outcome (between ws rest.place)) (no_bytes rest.text.now e) ∙ outcome_none ws rest.place

pub whole_left : (ws : List Word) (line : Rest) (rest : Rest) → ws ≡ [] → line.place ≡ 0 → IsAtWord line rest → left ws rest ≡ words_of line.text.now
whole_left ws line rest none first skipped =
    ap (λ (xs : List Word). left xs rest) none ∙ sym (skipped.same [])
    ∙ ap (λ (k : ℕ). outcome (between [] k) (chars line.text.now)) first ∙ outcome_of_line line.text.now
