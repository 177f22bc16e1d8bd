-- What is true of the statements that were read.
use Rattle.cd_conf.proofs.CharacterRuns.{front_more, front_none}
use Rattle.cd_conf.proofs.Magnitudes.{within}
use Rattle.cd_conf.proofs.PrintedValues.{AllReadable, IsReadable, passes_apart, word_is_ascii}
use Rattle.cd_conf.specs.Blanks.{after_blanks, behind_blanks, is_blank, is_newline, line_after, skip_while}
use Rattle.cd_conf.specs.Characters.{after_run, front_run, is_in_word, may_stand}
use Rattle.cd_conf.specs.Numbers.{Digits, at_most, digits_of, is_false_word, is_true_word, magnitude, millionths, millionths_limit, number_arg, plain_arg, with_sign, word_arg}
use Rattle.cd_conf.specs.Position.{Position, at}
use Rattle.cd_conf.specs.Quotes.{by_role, is_one_line, quoted_at, quoted_from, role_of, with_text}
use Rattle.cd_conf.specs.Repeated.{go_on, repeated}
use Rattle.cd_conf.specs.Values.{quoted_arg, some_value, value_at, value_from, word_at}
use Rattle.cd_conf.specs.declared.fault.ConfFault.{ConfFault}
use Rattle.cd_conf.specs.declared.item.Arg.TheVariants.{Flag, Number, Words}
use Rattle.cd_conf.specs.declared.item.Arg.{Arg}
use Rattle.cd_conf.specs.declared.limits.TheConstants.{DECIMALS_LIMIT}
use Rattle.cd_conf.specs.declared.quotes.Quoting.TheVariants.{Escaped, Inside, Joined}
use Rattle.cd_conf.specs.declared.quotes.Quoting.{Quoting}
use Rattle.cd_conf.specs.declared.quotes.Role.TheVariants.{Break, Close, Letter, Mark}
use Rattle.cd_conf.specs.declared.quotes.Role.{Role}
use Rattle.cd_conf.specs.declared.runs.Kind.TheVariants.{Word}
use Rattle.cd_conf.specs.declared.runs.Kind.{Kind}
use Rattle.cd_reading.specs.First.{◌>>=◌}
use Rattle.std.proofs.Common.{Bool, Err, List, None, Ok, Option, Result, Some, [], ap, arith, false, if◌then◌else◌, length, refl, subst, suc, sym, true, zero, ℕ, ◌&&◌, ◌++◌, ◌+◌, ◌==◌, ◌∙◌, ◌∷◌, ◌≡◌, ◌≤◌}
use Rattle.std.proofs.Math.Utf8.{scalar, scalars}
use Rattle.std.proofs.lemmas.Bool.{and_from, and_parts, ne_eqb, not_from_false}
use Rattle.std.proofs.lemmas.Str.{IsUtf8-from_ascii, chars-IsAscii, chars-encodes, encodes-IsAscii}
use Rattle.std.specs.Char.{encode_utf8}
use Rattle.std.specs.List.{list_all}
use Rattle.std.specs.Prelude.{nat_abs, nat_le, not}
use Rattle.std.specs.Str.Parse.{starts_with_minus, without_leading_sign}
use Rattle.std.specs.Str.{chars, encode_utf8_all}

-- ---- results

pub bound : {A B F : Type 0} (r : Result A F) (f : A → Result B F) (y : B) → (r >>= f) ≡ Ok y → (x : A) × (r ≡ Ok x) × (f x ≡ Ok y)
bound (Ok x) f y e = (x, refl, e)
bound (Err z) f y e = absurd (cc e)

pub ok_same : {A F : Type 0} (x y : A) → ◌≡◌ {A = Result A F} (Ok x) (Ok y) → x ≡ y
ok_same x y e = cc e

pub found_same : {A F : Type 0} (x y : A) → ◌≡◌ {A = Result (Option A) F} (Ok (Some x)) (Ok (Some y)) → x ≡ y
found_same x y e = cc e

-- ---- what is left are characters

pub skip_scalars : (p : ℕ → Bool) (cs : List ℕ) → scalars cs ≡ true → scalars (skip_while p cs) ≡ true
unfolding skip_while
skip_scalars p [] h = refl
skip_scalars p (c ∷ cs) h = by (p c) refl (skip_scalars p cs (and_parts (scalar c) (scalars cs) h).1)
  where
    by : (t : Bool) → p c ≡ t → scalars (skip_while p cs) ≡ true → scalars (skip_while p (c ∷ cs)) ≡ true
    by true e so_far = rw e so_far
    by false e so_far = rw e h

pub blanks_scalars : (line : ℕ) (cs : List ℕ) → scalars cs ≡ true → scalars (after_blanks line cs).rest ≡ true
unfolding after_blanks
blanks_scalars line [] h = refl
blanks_scalars line (c ∷ []) h = by (is_blank c) refl
  where
    by : (t : Bool) → is_blank c ≡ t → scalars (after_blanks line (c ∷ [])).rest ≡ true
    by true e = rw e refl
    by false e = rw e h
blanks_scalars line (c ∷ d ∷ cs) h =
    let more = and_parts (scalar c) (scalars (d ∷ cs)) h in
    let last = and_parts (scalar d) (scalars cs) more.1 in
    by (is_blank c) (c == 92 && d == 10) refl refl (blanks_scalars line (d ∷ cs) more.1) (blanks_scalars (line + 1) cs last.1)
  where
    by : (t u : Bool) → is_blank c ≡ t → (c == 92 && d == 10) ≡ u → scalars (after_blanks line (d ∷ cs)).rest ≡ true → scalars (after_blanks (line + 1) cs).rest ≡ true
        → scalars (after_blanks line (c ∷ d ∷ cs)).rest ≡ true
    by true u e f one two = rw e one
    by false true e f one two = rw (e, f) two
    by false false e f one two = rw (e, f) h

-- ---- quoted strings

-- a text of characters in one line, and what is left
pub record Quoted (t : List ℕ) (q : Position) : Type 0 where
  pub letters : List ℕ
  pub text : t ≡ encode_utf8_all letters
  pub good : scalars letters ≡ true
  pub one_line : is_one_line letters ≡ true
  pub left : scalars q.rest ≡ true

letter_line : (quoting : Quoting) (c : ℕ) → role_of quoting c ≡ Letter → (c == 10) ≡ false
letter_line quoting c e = ne_eqb c 10 (λ same. at_newline quoting (subst (λ (n : ℕ). role_of quoting n ≡ Letter) same e))
  where
    at_newline : (q : Quoting) → role_of q 10 ≡ Letter → ⊥
    at_newline Inside f = cc f
    at_newline Escaped f = cc f
    at_newline Joined f = cc f

pair_quoted : (u t : List ℕ) (r q : Position) → ◌≡◌ {A = Option (List ℕ × Position)} (Some (u, r)) (Some (t, q)) → Quoted u r → Quoted t q
pair_quoted u t r q e h = let same : ◌≡◌ {A = List ℕ × Position} (u, r) (t, q) = cc e in subst (λ (v : List ℕ × Position). Quoted v.0 v.1) same h

one_more : (c : ℕ) (t : List ℕ) (q : Position) → scalar c ≡ true → (c == 10) ≡ false → Quoted t q → Quoted (encode_utf8 c ++ t) q
one_more c t q s n h = record {
  letters = c ∷ h.letters;
  text = ap (λ (xs : List ℕ). encode_utf8 c ++ xs) h.text;
  good = and_from (scalar c) (scalars h.letters) s h.good;
  one_line = and_from (not (is_newline c)) (is_one_line h.letters) (not_from_false (c == 10) n) h.one_line;
  left = h.left;
}

letter_quoted : (c : ℕ) (found : Option (List ℕ × Position)) (t : List ℕ) (q : Position) → scalar c ≡ true → (c == 10) ≡ false
    → ((u : List ℕ) (r : Position) → found ≡ Some (u, r) → Quoted u r) → with_text (encode_utf8 c) found ≡ Some (t, q) → Quoted t q
letter_quoted c None t q s n h e = absurd (cc e)
letter_quoted c (Some found) t q s n h e = pair_quoted (encode_utf8 c ++ found.0) t found.1 q e (one_more c found.0 found.1 s n (h found.0 found.1 refl))

pub quoted_good : (cs : List ℕ) (quoting : Quoting) (line : ℕ) (t : List ℕ) (q : Position) → scalars cs ≡ true → quoted_from cs quoting line ≡ Some (t, q) → Quoted t q
unfolding quoted_from
quoted_good [] quoting line t q h e = absurd (cc e)
quoted_good (c ∷ cs) quoting line t q h e =
    by (role_of quoting c) refl e (λ next u s g. quoted_good cs next (line_after line c) u s (and_parts (scalar c) (scalars cs) h).1 g)
  where
    by : (role : Role) → role_of quoting c ≡ role → by_role role c (at (line_after line c) cs) (λ next. quoted_from cs next (line_after line c)) ≡ Some (t, q)
        → ((next : Quoting) (u : List ℕ) (s : Position) → quoted_from cs next (line_after line c) ≡ Some (u, s) → Quoted u s) → Quoted t q
    by Close r f more =
        pair_quoted [] t (at (line_after line c) cs) q f (record { letters = []; text = refl; good = refl; one_line = refl; left = (and_parts (scalar c) (scalars cs) h).1 })
    by Break r f more = absurd (cc f)
    by (Mark next) r f more = more next t q f
    by Letter r f more = letter_quoted c (quoted_from cs Inside (line_after line c)) t q (and_parts (scalar c) (scalars cs) h).0 (letter_line quoting c r) (more Inside) f

words_readable : (t : List ℕ) (q : Position) → Quoted t q → IsReadable (Words t)
words_readable t q h =
    let all : chars t ≡ h.letters = ap chars h.text ∙ chars-encodes h.letters h.good in
    ((h.letters, (h.good, sym h.text)), ap is_one_line all ∙ h.one_line)

-- ---- words

-- the characters of a run
pub record Run (kind : Kind) (t : List ℕ) : Type 0 where
  pub letters : List ℕ
  pub text : t ≡ encode_utf8_all letters
  pub all : list_all (may_stand kind) letters ≡ true

pub run_is : (kind : Kind) (cs : List ℕ) → Run kind (front_run kind cs)
run_is kind [] = record { letters = []; text = refl; all = refl }
run_is kind (c ∷ cs) = by (may_stand kind c) refl (run_is kind cs)
  where
    by : (b : Bool) → may_stand kind c ≡ b → Run kind (front_run kind cs) → Run kind (front_run kind (c ∷ cs))
    by true e h = record {
      letters = c ∷ h.letters;
      text = front_more kind c cs e ∙ ap (λ (xs : List ℕ). encode_utf8 c ++ xs) h.text;
      all = and_from (may_stand kind c) (list_all (may_stand kind) h.letters) e h.all;
    }
    by false e h = record { letters = []; text = front_none kind c cs e; all = refl }

word_one_line : (cs : List ℕ) → list_all is_in_word cs ≡ true → is_one_line cs ≡ true
word_one_line [] h = refl
word_one_line (c ∷ cs) h =
    let both = and_parts (is_in_word c) (list_all is_in_word cs) h in
    and_from (not (is_newline c)) (is_one_line cs) (not_from_false (c == 10) (passes_apart is_in_word c 10 both.0 refl)) (word_one_line cs both.1)

word_is : (word : List ℕ) → Run Word word → IsReadable (Words word)
word_is word r =
    let same : word ≡ r.letters = r.text ∙ encodes-IsAscii r.letters (word_is_ascii r.letters r.all) in
    subst (λ (t : List ℕ). IsReadable (Words t)) (sym same) (
      IsUtf8-from_ascii r.letters (word_is_ascii r.letters r.all),
      ap is_one_line (chars-IsAscii r.letters (word_is_ascii r.letters r.all)) ∙ word_one_line r.letters r.all,
    )

size_signed : (is_negative : Bool) (n : ℕ) → nat_abs (with_sign is_negative n) ≡ n
size_signed true zero = refl
size_signed true (suc n) = refl
size_signed false n = refl

magnitude_small : (ds : Digits) (n : ℕ) → magnitude ds ≡ Some n → n ≤ millionths_limit
unfolding magnitude
magnitude_small ds n e = by (nat_le (length ds.decimals) DECIMALS_LIMIT) e
  where
    by : (t : Bool) → (if t then at_most millionths_limit (millionths ds) else None) ≡ Some n → n ≤ millionths_limit
    by true f = let w = within millionths_limit (millionths ds) n f in omega (arith, w.0, w.1)
    by false f = absurd (cc f)

number_readable : (line : ℕ) (is_negative : Bool) (found : Option ℕ) (arg : Arg) → ((n : ℕ) → found ≡ Some n → n ≤ millionths_limit) → number_arg line is_negative found ≡ Ok arg → IsReadable arg
number_readable line is_negative None arg h e = absurd (cc e)
number_readable line is_negative (Some n) arg h e =
    let small = h n refl in
    let size = size_signed is_negative n in
    subst IsReadable (ok_same (Number (with_sign is_negative n)) arg e) (omega (arith, small, size))

plain_readable : (line : ℕ) (word : List ℕ) (found : Option Digits) (arg : Arg) → IsReadable (Words word) → plain_arg line word found ≡ Ok arg → IsReadable arg
plain_readable line word None arg h e = subst IsReadable (ok_same (Words word) arg e) h
plain_readable line word (Some ds) arg h e = number_readable line (starts_with_minus word) (magnitude ds) arg (magnitude_small ds) e

word_readable : (line : ℕ) (word : List ℕ) (arg : Arg) → IsReadable (Words word) → word_arg line word ≡ Ok arg → IsReadable arg
unfolding word_arg
word_readable line word arg h e = by (is_true_word word) (is_false_word word) e
  where
    by : (t f : Bool) → (if t then Ok (Flag true) else (if f then Ok (Flag false) else plain_arg line word (digits_of (without_leading_sign word)))) ≡ Ok arg → IsReadable arg
    by true f g = subst IsReadable (ok_same (Flag true) arg g) tt
    by false true g = subst IsReadable (ok_same (Flag false) arg g) tt
    by false false g = plain_readable line word (digits_of (without_leading_sign word)) arg h g

-- ---- values

pub record Good (args : List Arg) (q : Position) : Type 0 where
  pub readable : AllReadable args
  pub left : scalars q.rest ≡ true

good_same : (args more : List Arg) (q r : Position) → ◌≡◌ {A = Result (Option (List Arg × Position)) ConfFault} (Ok (Some (more, r))) (Ok (Some (args, q))) → Good more r → Good args q
good_same args more q r e h = subst (λ (v : List Arg × Position). Good v.0 v.1) (found_same (more, r) (args, q) e) h

quoted_value : (line : ℕ) (found : Option (List ℕ × Position)) (args : List Arg) (q : Position) → ((t : List ℕ) (r : Position) → found ≡ Some (t, r) → Quoted t r)
    → (quoted_arg line found >>= some_value) ≡ Ok (Some (args, q)) → Good args q
quoted_value line None args q h e = absurd (cc e)
quoted_value line (Some found) args q h e =
    let k = h found.0 found.1 refl in
    good_same args (Words found.0 ∷ []) q (behind_blanks found.1) e (record { readable = (words_readable found.0 found.1 k, tt); left = blanks_scalars found.1.line found.1.rest k.left })

word_value : (line : ℕ) (cs : List ℕ) (args : List Arg) (q : Position) → scalars cs ≡ true → (word_at (at line cs) >>= some_value) ≡ Ok (Some (args, q)) → Good args q
word_value line cs args q h e =
    let b = bound (word_at (at line cs)) some_value (Some (args, q)) e in
    let behind : Position = behind_blanks (at line (after_run Word cs)) in
    let w = bound (word_arg line (front_run Word cs)) (λ arg. Ok (arg, behind)) b.0 b.1 in
    let one : Good (w.0 ∷ []) behind = record {
      readable = (word_readable line (front_run Word cs) w.0 (word_is (front_run Word cs) (run_is Word cs)) w.1, tt);
      left = blanks_scalars line (after_run Word cs) (skip_scalars (may_stand Word) cs h);
    } in
    good_same args (b.0.0 ∷ []) q b.0.1 b.2 (subst (λ (v : Arg × Position). Good (v.0 ∷ []) v.1) (ok_same (w.0, behind) b.0 w.2) one)

value_good : (line : ℕ) (cs : List ℕ) (args : List Arg) (q : Position) → scalars cs ≡ true → value_from line cs ≡ Ok (Some (args, q)) → Good args q
value_good line [] args q h e = absurd (cc e)
value_good line (c ∷ cs) args q h e = by (c == 34) (is_in_word c) e
  where
    by : (t w : Bool)
        → (if t then quoted_arg line (quoted_at (at line cs)) >>= some_value else (if w then word_at (at line (c ∷ cs)) >>= some_value else Ok None)) ≡ Ok (Some (args, q)) → Good args q
    by true w f = quoted_value line (quoted_at (at line cs)) args q (λ t r g. quoted_good cs Inside line t r (and_parts (scalar c) (scalars cs) h).1 g) f
    by false true f = word_value line (c ∷ cs) args q h f
    by false false f = absurd (cc f)

both_readable : (args more : List Arg) → AllReadable args → AllReadable more → AllReadable (args ++ more)
both_readable [] more h g = g
both_readable (arg ∷ args) more h g = (h.0, both_readable args more h.1 g)

pub values_good : (n : ℕ) (p : Position) (args : List Arg) (q : Position) → scalars p.rest ≡ true → repeated value_at n p ≡ Ok (args, q) → Good args q
unfolding repeated value_at
values_good zero p args q h e = subst (λ (v : List Arg × Position). Good v.0 v.1) (ok_same ([], p) (args, q) e) (record { readable = tt; left = h })
values_good (suc n) p args q h e =
    let b = bound (value_from p.line p.rest) (go_on p (repeated value_at n)) (args, q) e in by b.0 b.1 b.2 (λ r xs s g f. values_good n r xs s g f)
  where
    by : (found : Option (List Arg × Position)) → value_from p.line p.rest ≡ Ok found → go_on p (repeated value_at n) found ≡ Ok (args, q)
        → ((r : Position) (xs : List Arg) (s : Position) → scalars r.rest ≡ true → repeated value_at n r ≡ Ok (xs, s) → Good xs s) → Good args q
    by None f g further = subst (λ (v : List Arg × Position). Good v.0 v.1) (ok_same ([], p) (args, q) g) (record { readable = tt; left = h })
    by (Some given) f g further =
        let one = value_good p.line p.rest given.0 given.1 h f in
        let more = bound (repeated value_at n given.1) (λ r. Ok (given.0 ++ r.0, r.1)) (args, q) g in
        let rest = further given.1 more.0.0 more.0.1 one.left more.1 in
        subst (λ (v : List Arg × Position). Good v.0 v.1) (ok_same (given.0 ++ more.0.0, more.0.1) (args, q) more.2)
        (record { readable = both_readable given.0 more.0.0 one.readable rest.readable; left = rest.left })
