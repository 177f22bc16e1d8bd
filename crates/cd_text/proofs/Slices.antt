-- Words that are cut off a line at once are those of its characters.
use Rattle.cd_text.proofs.Runs.{all_words, at_fold, nothing}
use Rattle.cd_text.specs.Cutting.{BeginsWord, EndsWord, State, begins_word, between, empty_word, ends_run, fed, grown, is_blank_byte, outcome, outside, within}
use Rattle.cd_text.specs.Quoting.{Position, adds, is_outside, next, quoting_after, start, words_of}
use Rattle.cd_text.specs.declared.cutter.Quoting.TheVariants.{Escaped, Inside, Outside}
use Rattle.cd_text.specs.declared.cutter.Quoting.{Quoting}
use Rattle.cd_text.specs.declared.word.Word.{Word}
use Rattle.cd_text.specs.declared.word.WordFault.TheVariants.{Unterminated}
use Rattle.cd_text.specs.declared.word.WordFault.{WordFault}
use Rattle.std.proofs.Common.{Bool, Err, List, None, Ok, Option, Result, Some, [], ap, append_assoc, arith, cond, false, inl, inr, length, refl, subst, sym, true, ℕ, ◌++◌, ◌+◌, ◌-◌, ◌<◌, ◌∙◌, ◌∷◌, ◌≡◌, ◌≤◌}
use Rattle.std.proofs.Common.{drop, get_or, length-append, one-add, take, true≢false}
use Rattle.std.proofs.Math.Seq.{drop-append_seam}
use Rattle.std.proofs.Math.Utf8.{scalar, scalars}
use Rattle.std.proofs.lemmas.Bool.{and_parts, cases_eq, eqb-true, or_cases, or_parts}
use Rattle.std.proofs.lemmas.List.Folds.{length-prefix_len, list_all-append}
use Rattle.std.proofs.lemmas.List.Sums.{fails_before_first, passes_at_first, prefix_len-le-length}
use Rattle.std.proofs.lemmas.List.{append-nil, take-append-drop}
use Rattle.std.proofs.lemmas.Str.Ascii.{IsAscii-cons}
use Rattle.std.proofs.lemmas.Str.{IsCharBoundary-after_ascii, IsCharBoundary-at_seam, IsCharBoundary-before_ascii, IsCharBoundary-end, IsCharBoundary-start, IsUtf8-from_ascii, byte_from_char, chars-IsAscii, chars-append, chars-encodes, chars-nil, chars_past_char, encode_ascii, encodes-append, encodes-chars, length-encode, scalars-chars}
use Rattle.std.specs.Char.{len_utf8}
use Rattle.std.specs.List.{fold, list_all, position_or_len, prefix_len}
use Rattle.std.specs.Option.{option_to_list}
use Rattle.std.specs.Prelude.{encode_utf8 as encode, not, slice_index, ◌==◌, ◌||◌}
use Rattle.std.specs.Str.{IsAscii, IsCharBoundary, IsUtf8, chars, encode_utf8_all}

-- ---- the outcome

abbrev outcome_at : State → Quoting → List Word → Result (List Word) WordFault
outcome_at s q ws = cond (is_outside q) (Ok ws) (Err Unterminated)

pub outcome_of_line : (line : List ℕ) → outcome nothing (chars line) ≡ words_of line
unfolding outcome words_of
outcome_of_line line =
    let e = fold fed nothing (chars line) in
    ap (λ (p : Position). outcome_at e p.quoting (e.words ++ option_to_list e.current)) (at_fold (chars line) nothing)
    ∙ ap (λ (ws : List Word). outcome_at e (fold next start (chars line)).quoting ws) (all_words (chars line))

pub outcome_none : (ws : List Word) (p : ℕ) → outcome (between ws p) [] ≡ Ok ws
unfolding outcome
outcome_none ws p = ap (λ (xs : List Word). Ok xs) (append-nil ws)

pub outcome_one : (s : State) (c : ℕ) (cs : List ℕ) → outcome s (c ∷ cs) ≡ outcome (fed s c) cs
unfolding outcome
outcome_one s c cs = refl

pub outcome_after : (s : State) (xs ys : List ℕ) → outcome s (xs ++ ys) ≡ outcome (fold fed s xs) ys
outcome_after s [] ys = refl
outcome_after s (x ∷ xs) ys = outcome_one s x (xs ++ ys) ∙ outcome_after (fed s x) xs ys

outcome_open : (ws : List Word) (w : Word) (p : Position) → (p.quoting ≡ Outside → ⊥) → outcome (within ws w p) [] ≡ Err Unterminated
unfolding outcome
outcome_open ws w p never = is_never p.quoting never where
  is_never : (q : Quoting) → (q ≡ Outside → ⊥) → cond {A = Result (List Word) WordFault} (is_outside q) (Ok (ws ++ w ∷ [])) (Err Unterminated) ≡ Err Unterminated
  is_never Outside never = absurd (never refl)
  is_never Inside never = refl
  is_never Escaped never = refl

-- ---- blanks

blank_adds : (c : ℕ) → is_blank_byte c ≡ true → adds Outside c ≡ None
blank_adds c e = rw e refl

-- between words a blank is passed over
blank_between : (ws : List Word) (p c : ℕ) → is_blank_byte c ≡ true → fed (between ws p) c ≡ between ws (p + 1)
unfolding fed
blank_between ws p c e =
    let at : ℕ → Type 0 = λ x. grown (between ws p) (adds Outside x) (next (outside p) x) ≡ between ws (p + 1) in
    let same : List Word → State = λ xs. record { words = xs; current = None; position = outside (p + 1) } in
    elim (or_cases (c == 32) (c == 9) e) [
      | inl a ↦ subst at (sym (eqb-true c 32 a)) (ap same (append-nil ws))
      | inr b ↦ subst at (sym (eqb-true c 9 b)) (ap same (append-nil ws))
    ]

pub past_blanks : (bs : List ℕ) (ws : List Word) (p : ℕ) (cs : List ℕ) → list_all is_blank_byte bs ≡ true → outcome (between ws p) (bs ++ cs) ≡ outcome (between ws (p + length bs)) cs
past_blanks [] ws p cs all = ap (λ (q : ℕ). outcome (between ws q) cs) (omega arith)
past_blanks (b ∷ bs) ws p cs all =
    let both = and_parts (is_blank_byte b) (list_all is_blank_byte bs) all in
    outcome_one (between ws p) b (bs ++ cs) ∙ ap (λ (s : State). outcome s (bs ++ cs)) (blank_between ws p b both.0)
    ∙ past_blanks bs ws (p + 1) cs both.1 ∙ ap (λ (q : ℕ). outcome (between ws q) cs) (omega arith)

-- ---- a word

-- a character that isn't blank adds something
adds_some : (c : ℕ) → is_blank_byte c ≡ false → (x : List ℕ) × (adds Outside c ≡ Some x)
adds_some c e = rw e (either (c == 34)) where
  either : (b : Bool) → (x : List ℕ) × (cond b (Some []) (Some (encode c)) ≡ Some x)
  either true = ([], refl)
  either false = (encode c, refl)

-- it goes on with a word as yet without text, or begins one
begins_some : (ws : List Word) (p c : ℕ) (x : List ℕ) → adds Outside c ≡ Some x → fed (between ws p) c ≡ fed (within ws (empty_word p) (outside p)) c
unfolding fed
begins_some ws p c x e = rw e refl

begins : (ws : List Word) (p : ℕ) (cs : List ℕ) → BeginsWord cs → outcome (between ws p) cs ≡ outcome (within ws (empty_word p) (outside p)) cs
begins ws p [] e = absurd e
begins ws p (c ∷ cs) e =
    let some = adds_some c e in
    outcome_one (between ws p) c cs ∙ ap (λ (s : State). outcome s cs) (begins_some ws p c some.0 some.1)
    ∙ sym (outcome_one (within ws (empty_word p) (outside p)) c cs)

-- a blank ends it, and so does the end of the line
ends_none : (ws : List Word) (w : Word) (p c : ℕ) → adds Outside c ≡ None → fed (within ws w (outside p)) c ≡ fed (between (ws ++ w ∷ []) p) c
unfolding fed
ends_none ws w p c e =
    let same : List Word → State = λ xs. record { words = xs; current = None; position = next (outside p) c } in
    rw e (ap same (sym (append-nil (ws ++ w ∷ []))))

ends : (ws : List Word) (w : Word) (p : ℕ) (cs : List ℕ) → EndsWord cs → outcome (within ws w (outside p)) cs ≡ outcome (between (ws ++ w ∷ []) p) cs
unfolding outcome
ends ws w p [] e = ap (λ (xs : List Word). Ok xs) (sym (append-nil (ws ++ w ∷ [])))
ends ws w p (c ∷ cs) e =
    ap (λ (s : State). outcome s cs) (ends_none ws w p c (blank_adds c e))

-- characters that were read into a word are cut off where it ends
pub cut_off : (ws : List Word) (p q : ℕ) (w : Word) (cs taken left : List ℕ) → cs ≡ taken ++ left → BeginsWord cs → EndsWord left
    → fold fed (within ws (empty_word p) (outside p)) taken ≡ within ws w (outside q) → outcome (between ws p) cs ≡ outcome (between (ws ++ w ∷ []) q) left
cut_off ws p q w cs taken left parts first last read =
    let s : State = within ws (empty_word p) (outside p) in
    begins ws p cs first ∙ ap (outcome s) parts ∙ outcome_after s taken left
    ∙ ap (λ (t : State). outcome t left) read ∙ ends ws w q left last

pub never_ends : (ws : List Word) (p : ℕ) (w : Word) (a : Position) (cs taken left : List ℕ) → cs ≡ taken ++ left → BeginsWord cs → left ≡ [] → (a.quoting ≡ Outside → ⊥)
    → fold fed (within ws (empty_word p) (outside p)) taken ≡ within ws w a → outcome (between ws p) cs ≡ Err Unterminated
never_ends ws p w a cs taken left parts first none never read =
    let s : State = within ws (empty_word p) (outside p) in
    begins ws p cs first ∙ ap (outcome s) parts ∙ outcome_after s taken left
    ∙ ap (λ (t : State). outcome t left) read ∙ ap (outcome (within ws w a)) none ∙ outcome_open ws w a never

-- ---- a run of characters that stand for themselves

abbrev pub is_run : ℕ → Bool
is_run c = not (ends_run c)

not_true : (b : Bool) → not b ≡ true → b ≡ false
not_true true e = sym e
not_true false e = refl

adds_itself : (c : ℕ) → ends_run c ≡ false → adds Outside c ≡ Some (encode c)
adds_itself c e = let both = or_parts (is_blank_byte c) (c == 34) e in rw (both.0, both.1) refl

stays_outside : (c : ℕ) → ends_run c ≡ false → quoting_after Outside c ≡ Outside
stays_outside c e = let both = or_parts (is_blank_byte c) (c == 34) e in rw both.1 refl

abbrev in_word : List Word → ℕ → List ℕ → ℕ → Quoting → State
in_word ws st t p q = within ws (record { text = t; start = st }) (record { place = p; quoting = q })

run_one : (ws : List Word) (st : ℕ) (t : List ℕ) (p c : ℕ) → ends_run c ≡ false → fed (in_word ws st t p Outside) c ≡ in_word ws st (t ++ encode c) (p + len_utf8 c) Outside
unfolding fed
run_one ws st t p c e =
    ap (λ (o : Option (List ℕ)). grown (in_word ws st t p Outside) o (next (outside p) c)) (adds_itself c e)
    ∙ ap (λ (q : Quoting). in_word ws st (t ++ encode c) (p + len_utf8 c) q) (stays_outside c e)

run_read : (cs : List ℕ) (ws : List Word) (st : ℕ) (t : List ℕ) (p : ℕ) → list_all is_run cs ≡ true
    → fold fed (in_word ws st t p Outside) cs ≡ in_word ws st (t ++ encode_utf8_all cs) (p + length (encode_utf8_all cs)) Outside
run_read [] ws st t p all =
    ap (λ (xs : List ℕ). in_word ws st xs p Outside) (sym (append-nil t))
    ∙ ap (λ (n : ℕ). in_word ws st (t ++ []) n Outside) (omega arith)
run_read (c ∷ cs) ws st t p all =
    let both = and_parts (is_run c) (list_all is_run cs) all in
    ap (λ (s : State). fold fed s cs) (run_one ws st t p c (not_true (ends_run c) both.0))
    ∙ run_read cs ws st (t ++ encode c) (p + len_utf8 c) both.1
    ∙ ap (λ (xs : List ℕ). in_word ws st xs (p + len_utf8 c + length (encode_utf8_all cs)) Outside) (append_assoc t (encode c) (encode_utf8_all cs))
    ∙ ap (λ (n : ℕ). in_word ws st (t ++ (encode c ++ encode_utf8_all cs)) n Outside) (omega (arith, length-append (encode c) (encode_utf8_all cs), length-encode c))

small : (c : ℕ) → is_blank_byte c ≡ true → c < 128
small c e =
    elim (or_cases (c == 32) (c == 9) e) [
      | inl a ↦ omega (arith, eqb-true c 32 a)
      | inr b ↦ omega (arith, eqb-true c 9 b)
    ]

small_end : (c : ℕ) → ends_run c ≡ true → c < 128
small_end c e =
    elim (or_cases (is_blank_byte c) (c == 34) e) [
      | inl a ↦ small c a
      | inr b ↦ omega (arith, eqb-true c 34 b)
    ]

-- the characters of bytes that stand for themselves do so
run_one_char : (c : ℕ) (b : Bool) → ends_run c ≡ b → list_all is_run (encode c) ≡ true → not b ≡ true
run_one_char c false e all = refl
run_one_char c true e all =
    let none : list_all is_run (c ∷ []) ≡ false = rw e refl in
    sym none ∙ ap (list_all is_run) (sym (encode_ascii c (small_end c e))) ∙ all

run_chars : (cs : List ℕ) → list_all is_run (encode_utf8_all cs) ≡ true → list_all is_run cs ≡ true
run_chars [] all = refl
run_chars (c ∷ cs) all =
    let both = and_parts (list_all is_run (encode c)) (list_all is_run (encode_utf8_all cs)) (sym (list_all-append is_run (encode c) (encode_utf8_all cs)) ∙ all) in
    rw (run_one_char c (ends_run c) refl both.0, run_chars cs both.1) refl

-- ---- bytes

-- what passes from the front on
passes_one : (p : ℕ → Bool) (x : ℕ) (xs : List ℕ) (n : ℕ) (b : Bool) → p x ≡ b → list_all p (take n xs) ≡ true → list_all p (take (cond b (1 + n) 0) (x ∷ xs)) ≡ true
passes_one p x xs n true e all = rw one-add (rw (e, all) refl)
passes_one p x xs n false e all = refl

front_passes : (p : ℕ → Bool) (xs : List ℕ) → list_all p (take (prefix_len p xs) xs) ≡ true
front_passes p [] = refl
front_passes p (x ∷ xs) = passes_one p x xs (prefix_len p xs) (p x) refl (front_passes p xs)

-- the first of what is left passes
abbrev pub Heads : (ℕ → Bool) → List ℕ → Type 0
Heads p [] = Unit {0}
Heads p (x ∷ xs) = p x ≡ true

heads_one : (p : ℕ → Bool) (x : ℕ) (xs : List ℕ) (n : ℕ) (b : Bool) → p x ≡ b → Heads p (drop n xs) → Heads p (drop (cond (not b) (1 + n) 0) (x ∷ xs))
heads_one p x xs n true e rest = e
heads_one p x xs n false e rest = rw one-add rest

pub back_heads : (p : ℕ → Bool) (xs : List ℕ) → Heads p (drop (position_or_len p xs) xs)
back_heads p [] = tt
back_heads p (x ∷ xs) = heads_one p x xs (position_or_len p xs) (p x) refl (back_heads p xs)

not_not : (b : Bool) → not b ≡ false → b ≡ true
not_not true e = refl
not_not false e = sym e

not_false : (b : Bool) → not b ≡ true → b ≡ false
not_false true e = sym e
not_false false e = refl

-- ---- bytes and characters

pub ends_text : (xs : List ℕ) → IsUtf8 xs → EndsWord xs → EndsWord (chars xs)
ends_text [] utf8 e = subst EndsWord (sym chars-nil) tt
ends_text (x ∷ xs) utf8 e =
    let one : x ∷ xs ≡ encode x ++ xs = ap (λ (ys : List ℕ). ys ++ xs) (sym (encode_ascii x (small x e))) in
    subst EndsWord (sym (chars_past_char (x ∷ xs) xs x utf8 one)) e

begins_first : (ys : List ℕ) → BeginsWord ys → is_blank_byte (get_or ys 0 0) ≡ false
begins_first [] f = absurd f
begins_first (y ∷ ys) f = f

begins_one : (c : ℕ) (cs xs : List ℕ) (b : Bool) → encode_utf8_all (c ∷ cs) ≡ xs → BeginsWord xs → is_blank_byte c ≡ b → b ≡ false
begins_one c cs xs false is e f = refl
begins_one c cs xs true is e f =
    let same : get_or xs 0 0 ≡ c = byte_from_char xs (encode_utf8_all cs) c (sym is) (small c f) in
    sym f ∙ ap is_blank_byte (sym same) ∙ begins_first xs e

begins_chars : (cs xs : List ℕ) → encode_utf8_all cs ≡ xs → BeginsWord xs → BeginsWord cs
begins_chars [] xs is e = subst BeginsWord (sym is) e
begins_chars (c ∷ cs) xs is e = begins_one c cs xs (is_blank_byte c) is e refl

pub begins_text : (xs : List ℕ) → IsUtf8 xs → BeginsWord xs → BeginsWord (chars xs)
begins_text xs utf8 e = begins_chars (chars xs) xs (encodes-chars xs utf8) e

blanks_ascii : (xs : List ℕ) → list_all is_blank_byte xs ≡ true → IsAscii xs
blanks_ascii [] all = λ i. omega arith
blanks_ascii (x ∷ xs) all =
    let both = and_parts (is_blank_byte x) (list_all is_blank_byte xs) all in
    IsAscii-cons x xs (small x both.0) (blanks_ascii xs both.1)

-- a run ends between characters
pub run_boundary : (text : List ℕ) → IsCharBoundary text (position_or_len ends_run text)
run_boundary text =
    let n = position_or_len ends_run text in
    elim (cases_eq n (length text)) [
      | inl e ↦ subst (λ (m : ℕ). IsCharBoundary text m) (sym e) (IsCharBoundary-end text)
      | inr f ↦ let lt : n < length text = omega (arith, f, prefix_len-le-length is_run text) in
          IsCharBoundary-before_ascii text n lt (small_end (get_or text n 0) (passes_at_first ends_run text 0 lt))
    ]

-- the blanks that a text begins with
abbrev pub blanks : List ℕ → ℕ
blanks xs = position_or_len begins_word xs

blanks_one : (x : ℕ) (xs : List ℕ) (n : ℕ) (b : Bool) → is_blank_byte x ≡ b → list_all is_blank_byte (take n xs) ≡ true → list_all is_blank_byte (take (cond (not (not b)) (1 + n) 0) (x ∷ xs)) ≡ true
blanks_one x xs n true e all = rw one-add (rw (e, all) refl)
blanks_one x xs n false e all = refl

blanks_front : (xs : List ℕ) → list_all is_blank_byte (take (blanks xs) xs) ≡ true
blanks_front [] = refl
blanks_front (x ∷ xs) = blanks_one x xs (blanks xs) (is_blank_byte x) refl (blanks_front xs)

-- they end between characters
pub blanks_boundary : (text : List ℕ) → IsUtf8 text → IsCharBoundary text (blanks text)
blanks_boundary text utf8 =
    let n = blanks text in
    elim (cases_eq n 0) [
      | inl e ↦ subst (λ (m : ℕ). IsCharBoundary text m) (sym e) (IsCharBoundary-start text utf8)
      | inr f ↦ let before : n - 1 < n = omega (arith, f) in
          let lt : n - 1 < length text = omega (arith, before, prefix_len-le-length (λ x. not (begins_word x)) text) in
          let blank : is_blank_byte (get_or text (n - 1) 0) ≡ true = not_not (is_blank_byte (get_or text (n - 1) 0)) (fails_before_first begins_word text (n - 1) 0 before) in
          let one : n - 1 + 1 ≡ n = omega (arith, f) in
          subst (λ (m : ℕ). IsCharBoundary text m) one (IsCharBoundary-after_ascii text (n - 1) utf8 lt (small (get_or text (n - 1) 0) blank))
    ]

pub skipped : (ws : List Word) (p : ℕ) (text : List ℕ) → outcome (between ws p) (chars text) ≡ outcome (between ws (p + blanks text)) (chars (drop (blanks text) text))
skipped ws p text =
    let n = blanks text in
    let ascii : IsAscii (take n text) = blanks_ascii (take n text) (blanks_front text) in
    let parts : chars text ≡ take n text ++ chars (drop n text)
    = ap chars (sym (take-append-drop n text)) ∙ chars-append (take n text) (drop n text) (IsUtf8-from_ascii (take n text) ascii)
    ∙ ap (λ (xs : List ℕ). xs ++ chars (drop n text)) (chars-IsAscii (take n text) ascii) in
    ap (outcome (between ws p)) parts ∙ past_blanks (take n text) ws p (chars (drop n text)) (blanks_front text)
    ∙ ap (λ (m : ℕ). outcome (between ws (p + m)) (chars (drop n text))) (length-prefix_len (λ x. not (begins_word x)) text)

pub begins_left : (xs : List ℕ) → (length xs ≡ 0 → ⊥) → Heads begins_word xs → BeginsWord xs
begins_left [] some e = absurd (some refl)
begins_left (x ∷ xs) some e = not_false (is_blank_byte x) e

-- where a run ends, and no quote stands, a word ends
not_quote : (b q : Bool) → q ≡ false → (b || q) ≡ true → b ≡ true
not_quote true q none e = refl
not_quote false q none e = sym none ∙ e

pub ends_left : (xs : List ℕ) → Heads ends_run xs → (slice_index xs 0 == 34) ≡ false → EndsWord xs
ends_left [] e none = tt
ends_left (x ∷ xs) e none = not_quote (is_blank_byte x) (x == 34) none e

pub run_cut : (ws : List Word) (p : ℕ) (text : List ℕ) → IsUtf8 text → IsUtf8 (take (position_or_len ends_run text) text) → IsUtf8 (drop (position_or_len ends_run text) text)
    → BeginsWord text → EndsWord (drop (position_or_len ends_run text) text)
    → outcome (between ws p) (chars text) ≡ outcome (between (ws ++ record { text = take (position_or_len ends_run text) text; start = p } ∷ []) (p + position_or_len ends_run text)) (chars (drop (position_or_len ends_run text) text))
run_cut ws p text utf8 front back first last =
    let n = position_or_len ends_run text in
    let run = take n text in
    let same : encode_utf8_all (chars run) ≡ run = encodes-chars run front in
    let plain : list_all is_run (chars run) ≡ true = run_chars (chars run) (ap (list_all is_run) same ∙ front_passes is_run text) in
    let read = run_read (chars run) ws p [] p plain in
    let to : fold fed (within ws (empty_word p) (outside p)) (chars run) ≡ within ws (record { text = run; start = p }) (outside (p + n))
    = read ∙ ap (λ (xs : List ℕ). in_word ws p xs (p + length xs) Outside) same
    ∙ ap (λ (m : ℕ). in_word ws p run (p + m) Outside) (length-prefix_len is_run text) in
    cut_off ws p (p + n) (record { text = run; start = p }) (chars text) (chars run) (chars (drop n text))
    (ap chars (sym (take-append-drop n text)) ∙ chars-append run (drop n text) front) (begins_text text utf8 first) (ends_text (drop n text) back last) to

-- no text both begins and ends a word
pub not_both : (xs : List ℕ) → BeginsWord xs → EndsWord xs → ⊥
not_both [] first last = first
not_both (x ∷ xs) first last = true≢false (sym last ∙ first)

-- something is cut off
pub run_some : (text : List ℕ) (n : ℕ) → BeginsWord text → EndsWord (drop n text) → 0 < n
run_some text n first last =
    elim (cases_eq n 0) [
      | inl e ↦ absurd (not_both text first (subst (λ (k : ℕ). EndsWord (drop k text)) e last))
      | inr f ↦ omega (arith, f)
    ]

-- ---- a seam between characters

scalars_back : (xs ys : List ℕ) → scalars (xs ++ ys) ≡ true → scalars ys ≡ true
scalars_back [] ys good = good
scalars_back (x ∷ xs) ys good = scalars_back xs ys (and_parts (scalar x) (scalars (xs ++ ys)) good).1

-- the text is cut where its characters are
pub record Seam (text left : List ℕ) (n : ℕ) : Type 0 where
  pub boundary : IsCharBoundary text n
  pub rest : chars (drop n text) ≡ left
  pub few : n ≤ length text

pub seam : (text taken left : List ℕ) (n : ℕ) → IsUtf8 text → chars text ≡ taken ++ left → n ≡ length (encode_utf8_all taken) → Seam text left n
seam text taken left n utf8 parts is =
    let bytes : text ≡ encode_utf8_all taken ++ encode_utf8_all left
    = sym (encodes-chars text utf8) ∙ ap encode_utf8_all parts ∙ encodes-append taken left in
    let good : scalars left ≡ true = scalars_back taken left (ap scalars (sym parts) ∙ scalars-chars text utf8) in
    let boundary : IsCharBoundary text (length (encode_utf8_all taken)) = IsCharBoundary-at_seam text (encode_utf8_all taken) (encode_utf8_all left) bytes (left, (good, refl)) in
    record {
      boundary = subst (λ (m : ℕ). IsCharBoundary text m) (sym is) boundary;
      rest = ap (λ (m : ℕ). chars (drop m text)) is ∙ ap (λ (xs : List ℕ). chars (drop (length (encode_utf8_all taken)) xs)) bytes
          ∙ ap chars (drop-append_seam (encode_utf8_all taken) (encode_utf8_all left)) ∙ chars-encodes left good;
      few = omega (arith, ap length bytes, length-append (encode_utf8_all taken) (encode_utf8_all left), is);
    }
