-- The values that are printed behind a key are read as themselves.
use Rattle.cd_conf.proofs.BlankRuns.{blanks_shrink, no_blank, past_blank}
use Rattle.cd_conf.proofs.CharacterRuns.{after_end, after_more, after_none, front_more, front_none}
use Rattle.cd_conf.proofs.PrintedNumbers.{number_in_word, number_reads}
use Rattle.cd_conf.proofs.PrintedQuotes.{chars_quoted, quoted_utf8, text_reads}
use Rattle.cd_conf.proofs.Repeating.{Going, begins, goes_on, stops}
use Rattle.cd_conf.specs.Blanks.{after_blanks, behind_blanks, is_blank}
use Rattle.cd_conf.specs.Canonical.{number_text, spaced, value_text}
use Rattle.cd_conf.specs.Characters.{after_run, front_run, is_in_word, may_stand}
use Rattle.cd_conf.specs.Numbers.{millionths_limit, word_arg}
use Rattle.cd_conf.specs.Position.{Position, at}
use Rattle.cd_conf.specs.Quotes.{is_one_line, quoted_at}
use Rattle.cd_conf.specs.Repeated.{repeated}
use Rattle.cd_conf.specs.Values.{quoted_arg, some_value, value_at, values_at, word_at}
use Rattle.cd_conf.specs.declared.fault.ConfFault.{ConfFault}
use Rattle.cd_conf.specs.declared.item.Arg.TheVariants.{Flag, Number, Words}
use Rattle.cd_conf.specs.declared.item.Arg.{Arg}
use Rattle.cd_conf.specs.declared.runs.Kind.TheVariants.{Word}
use Rattle.cd_conf.specs.declared.runs.Kind.{Kind}
use Rattle.cd_reading.specs.First.{◌>>=◌}
use Rattle.cd_text.specs.Quoting.{escaped}
use Rattle.std.proofs.Common.{Bool, List, None, Ok, Result, Some, [], ap, append_assoc, arith, false, if◌then◌else◌, length, length-append, refl, subst, sym, true, ℕ, ◌++◌, ◌<◌, ◌==◌, ◌||◌, ◌∙◌, ◌∷◌, ◌≡◌, ◌≤◌}
use Rattle.std.proofs.lemmas.Bool.Decides.{nat_tests}
use Rattle.std.proofs.lemmas.Bool.{and_parts, both_ways, ne_eqb, not-true, not_from_false, or_parts}
use Rattle.std.proofs.lemmas.List.{append-nil}
use Rattle.std.proofs.lemmas.Str.Ascii.{IsAscii-cons, IsAscii-nil}
use Rattle.std.proofs.lemmas.Str.{IsUtf8-append, IsUtf8-from_ascii, IsUtf8-nil, chars-IsAscii, chars-append, chars-nil, encodes-IsAscii}
use Rattle.std.specs.Char.{encode_utf8}
use Rattle.std.specs.List.{flat_map, list_all}
use Rattle.std.specs.Prelude.{codes, nat_abs, not, suc}
use Rattle.std.specs.Str.{IsAscii, IsUtf8, chars, encode_utf8_all}

-- what is true of a value that was read
abbrev pub IsReadable : Arg → Type 0
IsReadable (Words t) = IsUtf8 t × (is_one_line (chars t) ≡ true)
IsReadable (Number z) = nat_abs z ≤ millionths_limit
IsReadable (Flag b) = Unit {0}

abbrev pub AllReadable : List Arg → Type 0
AllReadable [] = Unit {0}
AllReadable (arg ∷ args) = IsReadable arg × AllReadable args

-- ---- characters of a word

in_word_ascii : (c : ℕ) → is_in_word c ≡ true → c < 128
in_word_ascii c h = grind (arith, nat_tests)

pub word_is_ascii : (cs : List ℕ) → list_all is_in_word cs ≡ true → IsAscii cs
word_is_ascii [] h = IsAscii-nil
word_is_ascii (c ∷ cs) h =
    let both = and_parts (is_in_word c) (list_all is_in_word cs) h in
    IsAscii-cons c cs (in_word_ascii c both.0) (word_is_ascii cs both.1)

-- a character that passes is none that fails
pub passes_apart : (p : ℕ → Bool) (c other : ℕ) → p c ≡ true → p other ≡ false → (c == other) ≡ false
passes_apart p c other h e = ne_eqb c other (λ same. both_ways (p other) e (subst (λ (n : ℕ). p n ≡ true) same h))

-- no character that passes begins a text
abbrev pub stops_at : (ℕ → Bool) → List ℕ → Bool
stops_at p [] = true
stops_at p (c ∷ cs) = not (p c)

-- a run of characters is read up to where it stops
pub run_reads : (kind : Kind) (cs rest : List ℕ) → list_all (may_stand kind) cs ≡ true → stops_at (may_stand kind) rest ≡ true
    → (front_run kind (cs ++ rest) ≡ encode_utf8_all cs) × (after_run kind (cs ++ rest) ≡ rest)
run_reads kind [] [] h e = (refl, after_end kind)
run_reads kind [] (c ∷ rest) h e =
    let no : may_stand kind c ≡ false = not-true (may_stand kind c) e in (front_none kind c rest no, after_none kind c rest no)
run_reads kind (c ∷ cs) rest h e =
    let both = and_parts (may_stand kind c) (list_all (may_stand kind) cs) h in
    let more = run_reads kind cs rest both.1 e in
    (front_more kind c (cs ++ rest) both.0 ∙ ap (λ (xs : List ℕ). encode_utf8 c ++ xs) more.0, after_more kind c (cs ++ rest) both.0 ∙ more.1)

-- ---- one value

second : {A : Type 0} (p q : Bool) (x y z : A) → p ≡ false → q ≡ true → (if p then x else (if q then y else z)) ≡ y
second p q x y z e f = rw (e, f) refl

word_reads : (line d : ℕ) (ds rest : List ℕ) (arg : Arg) → list_all is_in_word (d ∷ ds) ≡ true → stops_at is_in_word rest ≡ true → word_arg line (d ∷ ds) ≡ Ok arg
    → value_at (at line (d ∷ ds ++ rest)) ≡ Ok (Some (arg ∷ [], behind_blanks (at line rest)))
unfolding value_at
word_reads line d ds rest arg all stop e =
    let first = (and_parts (is_in_word d) (list_all is_in_word ds) all).0 in
    let run = run_reads Word (d ∷ ds) rest all stop in
    let front : front_run Word (d ∷ ds ++ rest) ≡ d ∷ ds = run.0 ∙ encodes-IsAscii (d ∷ ds) (word_is_ascii (d ∷ ds) all) in
    let step : word_at (at line (d ∷ ds ++ rest)) ≡ Ok (arg, behind_blanks (at line rest))
    = ap (λ (t : List ℕ). word_arg line t >>= λ a. Ok (a, behind_blanks (at line (after_run Word (d ∷ ds ++ rest))))) front
    ∙ ap (λ (r : Result Arg ConfFault). r >>= λ a. Ok (a, behind_blanks (at line (after_run Word (d ∷ ds ++ rest))))) e
    ∙ ap (λ (t : List ℕ). Ok (arg, behind_blanks (at line t))) run.1 in
    second (d == 34) (is_in_word d) (quoted_arg line (quoted_at (at line (ds ++ rest))) >>= some_value) (word_at (at line (d ∷ ds ++ rest)) >>= some_value) (Ok None)
    (passes_apart is_in_word d 34 first refl) first
    ∙ ap (λ (r : Result (Arg × Position) ConfFault). r >>= some_value) step

-- the same of a word that isn't taken apart
some_word : (line : ℕ) (w rest : List ℕ) (arg : Arg) → 0 < length w → list_all is_in_word w ≡ true → stops_at is_in_word rest ≡ true → word_arg line w ≡ Ok arg
    → value_at (at line (chars w ++ rest)) ≡ Ok (Some (arg ∷ [], behind_blanks (at line rest)))
some_word line [] rest arg some all stop e = absurd (omega arith)
some_word line (d ∷ ds) rest arg some all stop e =
    ap (λ (t : List ℕ). value_at (at line (t ++ rest))) (chars-IsAscii (d ∷ ds) (word_is_ascii (d ∷ ds) all)) ∙ word_reads line d ds rest arg all stop e

true_reads : (line : ℕ) → word_arg line (codes "true") ≡ Ok (Flag true)
unfolding word_arg
true_reads line = refl

false_reads : (line : ℕ) → word_arg line (codes "false") ≡ Ok (Flag false)
unfolding word_arg
false_reads line = refl

-- a value that is printed is read as itself, where no word goes on behind it
pub value_reads : (arg : Arg) (line : ℕ) (rest : List ℕ) → IsReadable arg → stops_at is_in_word rest ≡ true
    → value_at (at line (chars (value_text arg) ++ rest)) ≡ Ok (Some (arg ∷ [], behind_blanks (at line rest)))
value_reads (Words t) line rest h stop = text_reads t rest line h.0 h.1
value_reads (Number z) line rest h stop = let w = number_in_word z h in some_word line (number_text z) rest (Number z) w.0 w.1 stop (number_reads line z h)
value_reads (Flag true) line rest h stop = some_word line (codes "true") rest (Flag true) (omega arith) refl stop (true_reads line)
value_reads (Flag false) line rest h stop = some_word line (codes "false") rest (Flag false) (omega arith) refl stop (false_reads line)

pub value_utf8 : (arg : Arg) → IsReadable arg → IsUtf8 (value_text arg)
value_utf8 (Words t) h = quoted_utf8 t h.0
value_utf8 (Number z) h = IsUtf8-from_ascii (number_text z) (word_is_ascii (number_text z) (number_in_word z h).1)
value_utf8 (Flag true) h = IsUtf8-from_ascii (codes "true") (word_is_ascii (codes "true") refl)
value_utf8 (Flag false) h = IsUtf8-from_ascii (codes "false") (word_is_ascii (codes "false") refl)

-- a character at which blanks end
abbrev pub no_blank_at : ℕ → Bool
no_blank_at c = not (is_blank c || c == 92)

word_starts : (w : List ℕ) → 0 < length w → list_all is_in_word w ≡ true → (d : ℕ) × (ds : List ℕ) × (chars w ≡ d ∷ ds) × (no_blank_at d ≡ true)
word_starts [] some all = absurd (omega arith)
word_starts (d ∷ ds) some all =
    let first = (and_parts (is_in_word d) (list_all is_in_word ds) all).0 in (
      d,
      ds,
      chars-IsAscii (d ∷ ds) (word_is_ascii (d ∷ ds) all),
      rw (passes_apart is_in_word d 32 first refl, passes_apart is_in_word d 9 first refl, passes_apart is_in_word d 13 first refl, passes_apart is_in_word d 92 first refl) refl,
    )

pub value_starts : (arg : Arg) → IsReadable arg → (d : ℕ) × (ds : List ℕ) × (chars (value_text arg) ≡ d ∷ ds) × (no_blank_at d ≡ true)
value_starts (Words t) h = (34, flat_map escaped (chars t) ++ 34 ∷ [], chars_quoted t h.0, refl)
value_starts (Number z) h = let w = number_in_word z h in word_starts (number_text z) w.0 w.1
value_starts (Flag true) h = word_starts (codes "true") (omega arith) refl
value_starts (Flag false) h = word_starts (codes "false") (omega arith) refl

-- ---- values

pub values_utf8 : (args : List Arg) → AllReadable args → IsUtf8 (flat_map spaced args)
values_utf8 [] h = IsUtf8-nil
values_utf8 (arg ∷ args) h =
    IsUtf8-append (spaced arg) (flat_map spaced args)
    (IsUtf8-append (32 ∷ []) (value_text arg) (IsUtf8-from_ascii (32 ∷ []) (IsAscii-cons 32 [] (omega arith) IsAscii-nil)) (value_utf8 arg h.0)) (values_utf8 args h.1)

one_char : (c : ℕ) → c < 128 → chars (c ∷ []) ≡ c ∷ []
one_char c h = chars-IsAscii (c ∷ []) (IsAscii-cons c [] h IsAscii-nil)

pub ascii_first : (c : ℕ) (t : List ℕ) → c < 128 → chars (c ∷ t) ≡ c ∷ chars t
ascii_first c t h =
    chars-append (c ∷ []) t (IsUtf8-from_ascii (c ∷ []) (IsAscii-cons c [] h IsAscii-nil)) ∙ ap (λ (xs : List ℕ). xs ++ chars t) (one_char c h)

chars_spaced : (arg : Arg) (args : List Arg) (rest : List ℕ) → IsReadable arg
    → chars (flat_map spaced (arg ∷ args)) ++ rest ≡ 32 ∷ (chars (value_text arg) ++ (chars (flat_map spaced args) ++ rest))
chars_spaced arg args rest h =
    ap (λ (xs : List ℕ). xs ++ rest) (ascii_first 32 (value_text arg ++ flat_map spaced args) (omega arith) ∙ ap (λ (xs : List ℕ). 32 ∷ xs) (chars-append (value_text arg) (flat_map spaced args) (value_utf8 arg h)))
    ∙ ap (λ (xs : List ℕ). 32 ∷ xs) (append_assoc (chars (value_text arg)) (chars (flat_map spaced args)) rest)

-- no value begins, and no blank stands, at a character
pub record EndsValues (c : ℕ) : Type 0 where
  pub no_word : is_in_word c ≡ false
  pub no_quote : (c == 34) ≡ false
  pub no_blanks : no_blank_at c ≡ true

pub no_blanks_here : (line d : ℕ) (cs : List ℕ) → no_blank_at d ≡ true → after_blanks line (d ∷ cs) ≡ at line (d ∷ cs)
no_blanks_here line d cs h = let both = or_parts (is_blank d) (d == 92) (not-true (is_blank d || d == 92) h) in no_blank line d cs both.0 both.1

no_word_behind : (args : List Arg) (c : ℕ) (cs : List ℕ) → AllReadable args → EndsValues c → stops_at is_in_word (chars (flat_map spaced args) ++ c ∷ cs) ≡ true
no_word_behind [] c cs h e = ap (λ (xs : List ℕ). stops_at is_in_word (xs ++ c ∷ cs)) chars-nil ∙ not_from_false (is_in_word c) e.no_word
no_word_behind (arg ∷ args) c cs h e = ap (stops_at is_in_word) (chars_spaced arg args (c ∷ cs) h.0)

abbrev size : Position → ℕ
size p = length p.rest

ends : (line c : ℕ) (cs : List ℕ) → EndsValues c → value_at (at line (c ∷ cs)) ≡ Ok None
unfolding value_at
ends line c cs e = rw (e.no_quote, e.no_word) refl

shorter : (arg : Arg) (line : ℕ) (rest : List ℕ) → IsReadable arg → size (behind_blanks (at line rest)) < length (chars (value_text arg) ++ rest)
shorter arg line rest h =
    let v = value_starts arg h in
    let s = blanks_shrink line rest in
    let l = ap length v.2 in
    omega (arith, s, l, length-append (chars (value_text arg)) rest)

values_go : (args front : List Arg) (line c : ℕ) (cs : List ℕ) (total : Result (List Arg × Position) ConfFault) → AllReadable args → EndsValues c
    → Going size value_at front (behind_blanks (at line (chars (flat_map spaced args) ++ c ∷ cs))) total → total ≡ Ok (front ++ args, at line (c ∷ cs))
values_go [] front line c cs total h e going =
    let here : behind_blanks (at line (chars (flat_map spaced []) ++ c ∷ cs)) ≡ at line (c ∷ cs)
    = ap (λ (xs : List ℕ). after_blanks line (xs ++ c ∷ cs)) chars-nil ∙ no_blanks_here line c cs e.no_blanks in
    let now = subst (λ (p : Position). Going size value_at front p total) here going in
    stops size value_at front (at line (c ∷ cs)) total now (ends line c cs e) ∙ ap (λ (xs : List Arg). Ok (xs, at line (c ∷ cs))) (sym (append-nil front))
values_go (arg ∷ args) front line c cs total h e going =
    let rest : List ℕ = chars (flat_map spaced args) ++ c ∷ cs in
    let v = value_starts arg h.0 in
    let text : chars (value_text arg) ++ rest ≡ v.0 ∷ (v.1 ++ rest) = ap (λ (xs : List ℕ). xs ++ rest) v.2 in
    let here : behind_blanks (at line (chars (flat_map spaced (arg ∷ args)) ++ c ∷ cs)) ≡ at line (chars (value_text arg) ++ rest)
    = ap (after_blanks line) (chars_spaced arg args (c ∷ cs) h.0) ∙ past_blank line 32 (chars (value_text arg) ++ rest) refl
    ∙ ap (after_blanks line) text ∙ no_blanks_here line v.0 (v.1 ++ rest) v.3 ∙ ap (at line) (sym text) in
    let now = subst (λ (p : Position). Going size value_at front p total) here going in
    let next = goes_on size value_at front (front ++ arg ∷ []) (arg ∷ []) (at line (chars (value_text arg) ++ rest)) (behind_blanks (at line rest)) total now
    (value_reads arg line rest h.0 (no_word_behind args c cs h.1 e)) (shorter arg line rest h.0) refl in
    values_go args (front ++ arg ∷ []) line c cs total h.1 e next ∙ ap (λ (xs : List Arg). Ok (xs, at line (c ∷ cs))) (append_assoc front (arg ∷ []) args)

-- values that are printed are read as themselves, up to a character that ends them
pub values_read : (args : List Arg) (line c : ℕ) (cs : List ℕ) → AllReadable args → EndsValues c
    → values_at (behind_blanks (at line (chars (flat_map spaced args) ++ c ∷ cs))) ≡ Ok (args, at line (c ∷ cs))
unfolding values_at
values_read args line c cs h e =
    let p : Position = behind_blanks (at line (chars (flat_map spaced args) ++ c ∷ cs)) in
    values_go args [] line c cs (repeated value_at (suc (length p.rest)) p) h e (begins size value_at [] p refl)
