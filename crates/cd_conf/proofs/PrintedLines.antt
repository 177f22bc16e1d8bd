-- The lines that are printed are read as what they say.
use Rattle.cd_conf.proofs.BlankRuns.{blanks_shrink, past_blank}
use Rattle.cd_conf.proofs.LineRuns.{spoken}
use Rattle.cd_conf.proofs.PrintedItems.{indent_in}
use Rattle.cd_conf.proofs.PrintedValues.{AllReadable, EndsValues, ascii_first, no_blank_at, no_blanks_here, passes_apart, run_reads, stops_at, values_read, values_utf8}
use Rattle.cd_conf.specs.Blanks.{after_blanks, behind_blanks, is_blank, next_line, skip_while}
use Rattle.cd_conf.specs.Canonical.{end_text, option_text, spaced, start_text}
use Rattle.cd_conf.specs.Characters.{after_run, is_in_key}
use Rattle.cd_conf.specs.Faults.{fault_at}
use Rattle.cd_conf.specs.Position.{Position, at}
use Rattle.cd_conf.specs.Statements.{End, Open, OptionOf, Stand, StartOf, Statement, head_at, head_from, keyed, line_at, line_behind, line_end, open_behind, section_head, stand, statement_at, statement_behind, statement_from}
use Rattle.cd_conf.specs.declared.fault.ConfKind.TheVariants.{TooDeep, WrongEnd}
use Rattle.cd_conf.specs.declared.head.Head.{Head}
use Rattle.cd_conf.specs.declared.head.LineKind.TheVariants.{OptionLine, SectionEnd, SectionStart}
use Rattle.cd_conf.specs.declared.head.LineKind.{LineKind}
use Rattle.cd_conf.specs.declared.item.Arg.{Arg}
use Rattle.cd_conf.specs.declared.limits.TheConstants.{NESTING_LIMIT}
use Rattle.cd_conf.specs.declared.runs.Kind.TheVariants.{Key}
use Rattle.std.proofs.Common.{Bool, Err, List, Ok, Some, [], ap, append_assoc, arith, false, if◌then◌else◌, length, length-append, refl, true, ℕ, ◌++◌, ◌+◌, ◌<◌, ◌==◌, ◌||◌, ◌∙◌, ◌∷◌, ◌≡◌}
use Rattle.std.proofs.lemmas.Bool.Decides.{nat_tests}
use Rattle.std.proofs.lemmas.Bool.{and_parts, eq-eqb, eqb-true, lt-leb, lt-ltb}
use Rattle.std.proofs.lemmas.List.Folds.{list_all-append}
use Rattle.std.proofs.lemmas.Str.Ascii.{IsAscii-cons, IsAscii-nil}
use Rattle.std.proofs.lemmas.Str.{IsUtf8-from_ascii, chars-IsAscii, chars-append, encodes-IsAscii}
use Rattle.std.specs.List.{flat_map, list_all}
use Rattle.std.specs.Prelude.{nat_le}
use Rattle.std.specs.Str.{IsAscii, bytes_eq, chars, str_to_ascii_lowercase}

-- what is true of a key that was read
pub record IsKey (key : List ℕ) : Type 0 where
  pub some : 0 < length key
  pub all : list_all is_in_key key ≡ true

in_key_ascii : (c : ℕ) → is_in_key c ≡ true → c < 128
in_key_ascii c h = grind (arith, nat_tests)

pub key_ascii : (cs : List ℕ) → list_all is_in_key cs ≡ true → IsAscii cs
key_ascii [] h = IsAscii-nil
key_ascii (c ∷ cs) h =
    let both = and_parts (is_in_key c) (list_all is_in_key cs) h in
    IsAscii-cons c cs (in_key_ascii c both.0) (key_ascii cs both.1)

-- ---- indents

abbrev is_space : ℕ → Bool
is_space c = c == 32

pub spaces : (keys : List (List ℕ)) → list_all is_space (indent_in keys) ≡ true
spaces [] = refl
spaces (key ∷ keys) = list_all-append is_space (indent_in keys) (32 ∷ 32 ∷ []) ∙ (rw (spaces keys) refl)

pub spaces_ascii : (cs : List ℕ) → list_all is_space cs ≡ true → IsAscii cs
spaces_ascii [] h = IsAscii-nil
spaces_ascii (c ∷ cs) h =
    let both = and_parts (is_space c) (list_all is_space cs) h in
    let same : c ≡ 32 = eqb-true c 32 both.0 in
    IsAscii-cons c cs (omega arith) (spaces_ascii cs both.1)

spaces_skipped : (line : ℕ) (cs rest : List ℕ) → list_all is_space cs ≡ true → after_blanks line (cs ++ rest) ≡ after_blanks line rest
spaces_skipped line [] rest h = refl
spaces_skipped line (c ∷ cs) rest h =
    let both = and_parts (is_space c) (list_all is_space cs) h in
    let blank : is_blank c ≡ true = rw both.0 refl in
    past_blank line c (cs ++ rest) blank ∙ spaces_skipped line cs rest both.1

-- a text in front of which only ASCII stands
ascii_front : (front rest : List ℕ) → IsAscii front → chars (front ++ rest) ≡ front ++ chars rest
ascii_front front rest h = chars-append front rest (IsUtf8-from_ascii front h) ∙ ap (λ (xs : List ℕ). xs ++ chars rest) (chars-IsAscii front h)

-- the position in a line that is printed behind an indent
indented : (keys : List (List ℕ)) (line d : ℕ) (text cs : List ℕ) → chars text ≡ d ∷ cs → no_blank_at d ≡ true
    → behind_blanks (at line (chars (indent_in keys ++ text))) ≡ at line (d ∷ cs)
indented keys line d text cs e h =
    ap (after_blanks line) (ascii_front (indent_in keys) text (spaces_ascii (indent_in keys) (spaces keys)))
    ∙ spaces_skipped line (indent_in keys) (chars text) (spaces keys) ∙ ap (after_blanks line) e ∙ no_blanks_here line d cs h

-- ---- heads

head_reads : (kind : LineKind) (key rest : List ℕ) → IsKey key → stops_at is_in_key rest ≡ true → head_from kind (key ++ rest) ≡ Some (record { kind = kind; key = key }, rest)
head_reads kind [] rest k e = let some = k.some in absurd (omega arith)
head_reads kind (d ∷ ds) rest k e =
    let run = run_reads Key (d ∷ ds) rest k.all e in
    ap (λ (xs : List ℕ). keyed kind xs (after_run Key (d ∷ ds ++ rest))) (run.0 ∙ encodes-IsAscii (d ∷ ds) (key_ascii (d ∷ ds) k.all))
    ∙ ap (λ (xs : List ℕ). Some (record { kind = kind; key = d ∷ ds }, xs)) run.1

-- a key in front: no line ends, no section begins and no blank stands there
pub record Opens (d : ℕ) : Type 0 where
  pub no_end : (d == 10 || d == 35) ≡ false
  pub no_section : (d == 60) ≡ false
  pub no_slash : (d == 47) ≡ false
  pub no_blanks : no_blank_at d ≡ true

key_opens : (d : ℕ) → is_in_key d ≡ true → Opens d
key_opens d h = record {
  no_end = rw (passes_apart is_in_key d 10 h refl, passes_apart is_in_key d 35 h refl) refl;
  no_section = passes_apart is_in_key d 60 h refl;
  no_slash = passes_apart is_in_key d 47 h refl;
  no_blanks = rw (passes_apart is_in_key d 32 h refl, passes_apart is_in_key d 9 h refl, passes_apart is_in_key d 13 h refl, passes_apart is_in_key d 92 h refl) refl;
}

if_false : {A : Type 0} (b : Bool) (x y : A) → b ≡ false → (if b then x else y) ≡ y
if_false b x y e = rw e refl

from_head : (opens : List Open) (line d : ℕ) (cs : List ℕ) (head : Head) (rest : List ℕ) → (d == 10 || d == 35) ≡ false → head_at (d ∷ cs) ≡ Some (head, rest)
    → line_at (stand opens (at line (d ∷ cs))) ≡ statement_behind opens line head (behind_blanks (at line rest))
unfolding line_at
from_head opens line d cs head rest e h =
    if_false (d == 10 || d == 35) (Ok (Some ([], stand opens (next_line (at line (d ∷ cs)))))) (statement_at opens (at line (d ∷ cs))) e
    ∙ ap (statement_from opens line) h

-- ---- ends of lines

line_ends : (line : ℕ) (cs : List ℕ) → line_end (at line (10 ∷ cs)) ≡ Ok (behind_blanks (at (line + 1) cs))
unfolding skip_while
line_ends line cs = refl

option_ends : (line : ℕ) (args : List Arg) (cs : List ℕ) → 0 < length args → line_behind OptionLine line args (at line (10 ∷ cs)) ≡ Ok (behind_blanks (at (line + 1) cs))
unfolding skip_while
option_ends line args cs some = rw (lt-ltb 0 (length args) some) refl

pub closes : (line : ℕ) (cs : List ℕ) → line_end (behind_blanks (at line (10 ∷ cs))) ≡ Ok (behind_blanks (at (line + 1) cs))
closes line cs = ap line_end (no_blanks_here line 10 cs refl) ∙ line_ends line cs

-- ---- lines

newline_ends : EndsValues 10
newline_ends = record { no_word = refl; no_quote = refl; no_blanks = refl }

close_ends : EndsValues 62
close_ends = record { no_word = refl; no_quote = refl; no_blanks = refl }

stops_behind : (args : List Arg) (c : ℕ) (cs : List ℕ) → AllReadable args → stops_at is_in_key (c ∷ []) ≡ true → stops_at is_in_key (chars (flat_map spaced args) ++ c ∷ cs) ≡ true
unfolding chars
stops_behind [] c cs h e = e
stops_behind (arg ∷ args) c cs h e = ap (λ (xs : List ℕ). stops_at is_in_key (xs ++ c ∷ cs)) (ascii_first 32 _ (omega arith))

behind_key : (key : List ℕ) (args : List Arg) (c : ℕ) (t : List ℕ) → IsKey key → AllReadable args → c < 128
    → chars (key ++ (flat_map spaced args ++ c ∷ t)) ≡ key ++ (chars (flat_map spaced args) ++ c ∷ chars t)
behind_key key args c t k h small =
    ascii_front key (flat_map spaced args ++ c ∷ t) (key_ascii key k.all)
    ∙ ap (λ (xs : List ℕ). key ++ xs) (chars-append (flat_map spaced args) (c ∷ t) (values_utf8 args h) ∙ ap (λ (xs : List ℕ). chars (flat_map spaced args) ++ xs) (ascii_first c t small))

option_grouped : (i k f t : List ℕ) → ((i ++ (k ++ f)) ++ 10 ∷ []) ++ t ≡ i ++ (k ++ (f ++ 10 ∷ t))
option_grouped i k f t = simp append_assoc

start_grouped : (i k f t : List ℕ) → (((i ++ 60 ∷ []) ++ (k ++ f)) ++ 62 ∷ 10 ∷ []) ++ t ≡ i ++ 60 ∷ (k ++ (f ++ 62 ∷ 10 ∷ t))
start_grouped i k f t = simp append_assoc

end_grouped : (i k t : List ℕ) → (((i ++ 60 ∷ 47 ∷ []) ++ k) ++ 62 ∷ 10 ∷ []) ++ t ≡ i ++ 60 ∷ 47 ∷ (k ++ 62 ∷ 10 ∷ t)
end_grouped i k t = simp append_assoc

-- a line is read as a statement, and less is left behind it
pub record Says (s : Stand) (what : Statement) (t : Stand) : Type 0 where
  pub read : line_at s ≡ Ok (Some (what ∷ [], t))
  pub less : length t.place.rest < length s.place.rest

says_from : (opens further : List Open) (line : ℕ) (what : Statement) (p : Position) (text left : List ℕ) → p ≡ at line text
    → line_at (stand opens (at line text)) ≡ Ok (Some (what ∷ [], stand further (behind_blanks (at (line + 1) left)))) → length left < length text
    → Says (stand opens p) what (stand further (behind_blanks (at (line + 1) left)))
says_from opens further line what p text left e read less =
    let s = blanks_shrink (line + 1) left in
    let l = ap (λ (q : Position). length q.rest) e in
    record { read = ap (λ (q : Position). line_at (stand opens q)) e ∙ read; less = omega (arith, s, l, less) }

pub option_reads : (opens : List Open) (keys : List (List ℕ)) (key : List ℕ) (args : List Arg) (line : ℕ) (t : List ℕ) → IsKey key → AllReadable args → 0 < length args
    → Says (stand opens (behind_blanks (at line (chars (option_text (indent_in keys) key args ++ t))))) (OptionOf key args line) (stand opens (behind_blanks (at (line + 1) (chars t))))
option_reads opens keys [] args line t k h some = let s = k.some in absurd (omega arith)
option_reads opens keys (d ∷ ds) args line t k h some =
    let o = key_opens d (and_parts (is_in_key d) (list_all is_in_key ds) k.all).0 in
    let rest : List ℕ = chars (flat_map spaced args) ++ 10 ∷ chars t in
    let head : Head = record { kind = OptionLine; key = d ∷ ds } in
    let here : behind_blanks (at line (chars (option_text (indent_in keys) (d ∷ ds) args ++ t))) ≡ at line (d ∷ ds ++ rest)
    = ap (λ (xs : List ℕ). behind_blanks (at line (chars xs))) (option_grouped (indent_in keys) (d ∷ ds) (flat_map spaced args) t)
    ∙ indented keys line d (d ∷ ds ++ (flat_map spaced args ++ 10 ∷ t)) (ds ++ rest) (behind_key (d ∷ ds) args 10 t k h (omega arith)) o.no_blanks in
    let begins : head_at (d ∷ ds ++ rest) ≡ Some (head, rest)
    = if_false (d == 60) (section_head (ds ++ rest)) (head_from OptionLine (d ∷ ds ++ rest)) o.no_section
    ∙ head_reads OptionLine (d ∷ ds) rest k (stops_behind args 10 (chars t) h refl) in
    says_from opens opens line (OptionOf (d ∷ ds) args line) _ (d ∷ ds ++ rest) (chars t) here
    (from_head opens line d (ds ++ rest) head rest o.no_end begins
    ∙ spoken opens opens line head (behind_blanks (at line rest)) args (at line (10 ∷ chars t)) (behind_blanks (at (line + 1) (chars t))) refl
    (values_read args line 10 (chars t) h newline_ends) (option_ends line args (chars t) some))
    (omega (arith, length-append ds rest, length-append (chars (flat_map spaced args)) (10 ∷ chars t)))

pub start_reads : (opens : List Open) (keys : List (List ℕ)) (key : List ℕ) (args : List Arg) (line : ℕ) (t : List ℕ) → IsKey key → AllReadable args → length opens < NESTING_LIMIT
    → Says (stand opens (behind_blanks (at line (chars (start_text (indent_in keys) key args ++ t))))) (StartOf key args line)
    (stand (record { key = key; line = line } ∷ opens) (behind_blanks (at (line + 1) (chars t))))
start_reads opens keys [] args line t k h some = let s = k.some in absurd (omega arith)
start_reads opens keys (d ∷ ds) args line t k h room =
    let o = key_opens d (and_parts (is_in_key d) (list_all is_in_key ds) k.all).0 in
    let rest : List ℕ = chars (flat_map spaced args) ++ 62 ∷ 10 ∷ chars t in
    let head : Head = record { kind = SectionStart; key = d ∷ ds } in
    let further : List Open = record { key = d ∷ ds; line = line } ∷ opens in
    let text : chars (60 ∷ (d ∷ ds ++ (flat_map spaced args ++ 62 ∷ 10 ∷ t))) ≡ 60 ∷ (d ∷ ds ++ rest)
    = ascii_first 60 (d ∷ ds ++ (flat_map spaced args ++ 62 ∷ 10 ∷ t)) (omega arith)
    ∙ ap (λ (xs : List ℕ). 60 ∷ xs) (behind_key (d ∷ ds) args 62 (10 ∷ t) k h (omega arith)
    ∙ ap (λ (xs : List ℕ). d ∷ ds ++ (chars (flat_map spaced args) ++ 62 ∷ xs)) (ascii_first 10 t (omega arith))) in
    let here : behind_blanks (at line (chars (start_text (indent_in keys) (d ∷ ds) args ++ t))) ≡ at line (60 ∷ (d ∷ ds ++ rest))
    = ap (λ (xs : List ℕ). behind_blanks (at line (chars xs))) (start_grouped (indent_in keys) (d ∷ ds) (flat_map spaced args) t)
    ∙ indented keys line 60 (60 ∷ (d ∷ ds ++ (flat_map spaced args ++ 62 ∷ 10 ∷ t))) (d ∷ ds ++ rest) text refl in
    let begins : head_at (60 ∷ (d ∷ ds ++ rest)) ≡ Some (head, rest)
    = if_false (d == 47) (head_from SectionEnd (ds ++ rest)) (head_from SectionStart (d ∷ ds ++ rest)) o.no_slash
    ∙ head_reads SectionStart (d ∷ ds) rest k (stops_behind args 62 (10 ∷ chars t) h refl) in
    let nests : open_behind opens line SectionStart (d ∷ ds) ≡ Ok further
    = if_false (nat_le NESTING_LIMIT (length opens)) (Err (fault_at TooDeep line)) (Ok further) (lt-leb NESTING_LIMIT (length opens) room) in
    says_from opens further line (StartOf (d ∷ ds) args line) _ (60 ∷ (d ∷ ds ++ rest)) (chars t) here
    (from_head opens line 60 (d ∷ ds ++ rest) head rest refl begins
    ∙ spoken opens further line head (behind_blanks (at line rest)) args (at line (62 ∷ 10 ∷ chars t)) (behind_blanks (at (line + 1) (chars t))) nests
    (values_read args line 62 (10 ∷ chars t) h close_ends) (closes line (chars t)))
    (omega (arith, length-append ds rest, length-append (chars (flat_map spaced args)) (62 ∷ 10 ∷ chars t)))

same_bytes : (xs : List ℕ) → bytes_eq xs xs ≡ true
same_bytes [] = refl
same_bytes (x ∷ xs) = rw (eq-eqb x x refl) (same_bytes xs)

pub end_reads : (o : Open) (opens : List Open) (keys : List (List ℕ)) (line : ℕ) (t : List ℕ) → IsKey o.key
    → Says (stand (o ∷ opens) (behind_blanks (at line (chars (end_text (indent_in keys) o.key ++ t))))) End (stand opens (behind_blanks (at (line + 1) (chars t))))
end_reads o opens keys line t k =
    let key : List ℕ = o.key in
    let rest : List ℕ = 62 ∷ 10 ∷ chars t in
    let head : Head = record { kind = SectionEnd; key = key } in
    let behind : chars (key ++ 62 ∷ 10 ∷ t) ≡ key ++ rest
    = ascii_front key (62 ∷ 10 ∷ t) (key_ascii key k.all)
    ∙ ap (λ (xs : List ℕ). key ++ xs) (ascii_first 62 (10 ∷ t) (omega arith) ∙ ap (λ (xs : List ℕ). 62 ∷ xs) (ascii_first 10 t (omega arith))) in
    let text : chars (60 ∷ 47 ∷ (key ++ 62 ∷ 10 ∷ t)) ≡ 60 ∷ 47 ∷ (key ++ rest)
    = ascii_first 60 (47 ∷ (key ++ 62 ∷ 10 ∷ t)) (omega arith)
    ∙ ap (λ (xs : List ℕ). 60 ∷ xs) (ascii_first 47 (key ++ 62 ∷ 10 ∷ t) (omega arith) ∙ ap (λ (xs : List ℕ). 47 ∷ xs) behind) in
    let here : behind_blanks (at line (chars (end_text (indent_in keys) key ++ t))) ≡ at line (60 ∷ 47 ∷ (key ++ rest))
    = ap (λ (xs : List ℕ). behind_blanks (at line (chars xs))) (end_grouped (indent_in keys) key t)
    ∙ indented keys line 60 (60 ∷ 47 ∷ (key ++ 62 ∷ 10 ∷ t)) (47 ∷ (key ++ rest)) text refl in
    let begins : head_at (60 ∷ 47 ∷ (key ++ rest)) ≡ Some (head, rest) = head_reads SectionEnd key rest k refl in
    let nests : open_behind (o ∷ opens) line SectionEnd key ≡ Ok opens
    = ap (λ (b : Bool). if b then Ok opens else Err (fault_at WrongEnd line)) (same_bytes (str_to_ascii_lowercase key)) in
    let no_value : behind_blanks (at line rest) ≡ at line rest = no_blanks_here line 62 (10 ∷ chars t) refl in
    says_from (o ∷ opens) opens line End _ (60 ∷ 47 ∷ (key ++ rest)) (chars t) here
    (from_head (o ∷ opens) line 60 (47 ∷ (key ++ rest)) head rest refl begins
    ∙ spoken (o ∷ opens) opens line head (behind_blanks (at line rest)) [] (at line rest) (behind_blanks (at (line + 1) (chars t))) nests
    (ap (λ (p : Position). Ok ([], p)) no_value) (closes line (chars t)))
    (omega (arith, length-append key rest))
