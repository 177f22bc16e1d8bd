-- The text that is printed of statements is read as them.
use Rattle.cd_conf.proofs.BlankRuns.{at_end}
use Rattle.cd_conf.proofs.LineRuns.{all_lines, finished, good_text}
use Rattle.cd_conf.proofs.PrintedItems.{indent_in, written}
use Rattle.cd_conf.proofs.PrintedLines.{IsKey, Says, end_reads, key_ascii, option_reads, spaces, spaces_ascii, start_reads}
use Rattle.cd_conf.proofs.PrintedValues.{AllReadable, values_utf8}
use Rattle.cd_conf.proofs.Repeating.{Going, begins, goes_on, stops}
use Rattle.cd_conf.specs.Blanks.{after_blanks, behind_blanks}
use Rattle.cd_conf.specs.Canonical.{end_text, option_text, spaced, start_text}
use Rattle.cd_conf.specs.Position.{Position, at}
use Rattle.cd_conf.specs.ReadAgain.{numbered}
use Rattle.cd_conf.specs.Statements.{End, Open, OptionOf, Stand, StartOf, Statement, Stray, line_at, stand, statements_of_text}
use Rattle.cd_conf.specs.declared.fault.ConfFault.{ConfFault}
use Rattle.cd_conf.specs.declared.item.Arg.{Arg}
use Rattle.cd_conf.specs.declared.limits.TheConstants.{FILE_LIMIT, NESTING_LIMIT}
use Rattle.std.proofs.Common.{List, None, Ok, Result, [], ap, append_assoc, arith, length, map, refl, subst, suc, sym, ℕ, ◌++◌, ◌+◌, ◌<◌, ◌∙◌, ◌∷◌, ◌≡◌, ◌≤◌}
use Rattle.std.proofs.lemmas.List.{append-nil}
use Rattle.std.proofs.lemmas.Str.Ascii.{IsAscii-cons, IsAscii-nil}
use Rattle.std.proofs.lemmas.Str.{IsUtf8-append, IsUtf8-from_ascii, IsUtf8-nil, chars-nil}
use Rattle.std.specs.List.{flat_map}
use Rattle.std.specs.Str.{IsUtf8, chars}

-- statements that can be read in sections of these keys, the innermost first, with none open behind
-- them
abbrev pub AreReadable : List (List ℕ) → List Statement → Type 0
AreReadable keys [] = keys ≡ []
AreReadable keys (OptionOf key args line ∷ more) = IsKey key × AllReadable args × (0 < length args) × AreReadable keys more
AreReadable keys (StartOf key args line ∷ more) = IsKey key × AllReadable args × (length keys < NESTING_LIMIT) × AreReadable (key ∷ keys) more
AreReadable [] (End ∷ more) = ⊥
AreReadable (key ∷ keys) (End ∷ more) = IsKey key × AreReadable keys more
AreReadable keys (Stray ∷ more) = ⊥

-- ---- what is printed is UTF-8

indent_utf8 : (keys : List (List ℕ)) → IsUtf8 (indent_in keys)
indent_utf8 keys = IsUtf8-from_ascii (indent_in keys) (spaces_ascii (indent_in keys) (spaces keys))

key_utf8 : (key : List ℕ) → IsKey key → IsUtf8 key
key_utf8 key k = IsUtf8-from_ascii key (key_ascii key k.all)

one_utf8 : (c : ℕ) → c < 128 → IsUtf8 (c ∷ [])
one_utf8 c h = IsUtf8-from_ascii (c ∷ []) (IsAscii-cons c [] h IsAscii-nil)

two_utf8 : (c d : ℕ) → c < 128 → d < 128 → IsUtf8 (c ∷ d ∷ [])
two_utf8 c d h e = IsUtf8-from_ascii (c ∷ d ∷ []) (IsAscii-cons c (d ∷ []) h (IsAscii-cons d [] e IsAscii-nil))

head_utf8 : (key : List ℕ) (args : List Arg) → IsKey key → AllReadable args → IsUtf8 (key ++ flat_map spaced args)
head_utf8 key args k h = IsUtf8-append key (flat_map spaced args) (key_utf8 key k) (values_utf8 args h)

option_utf8 : (keys : List (List ℕ)) (key : List ℕ) (args : List Arg) → IsKey key → AllReadable args → IsUtf8 (option_text (indent_in keys) key args)
option_utf8 keys key args k h =
    IsUtf8-append (indent_in keys ++ (key ++ flat_map spaced args)) (10 ∷ [])
    (IsUtf8-append (indent_in keys) (key ++ flat_map spaced args) (indent_utf8 keys) (head_utf8 key args k h)) (one_utf8 10 (omega arith))

start_utf8 : (keys : List (List ℕ)) (key : List ℕ) (args : List Arg) → IsKey key → AllReadable args → IsUtf8 (start_text (indent_in keys) key args)
start_utf8 keys key args k h =
    IsUtf8-append ((indent_in keys ++ 60 ∷ []) ++ (key ++ flat_map spaced args)) (62 ∷ 10 ∷ [])
    (IsUtf8-append (indent_in keys ++ 60 ∷ []) (key ++ flat_map spaced args) (IsUtf8-append (indent_in keys) (60 ∷ []) (indent_utf8 keys) (one_utf8 60 (omega arith))) (head_utf8 key args k h))
    (two_utf8 62 10 (omega arith) (omega arith))

end_utf8 : (keys : List (List ℕ)) (key : List ℕ) → IsKey key → IsUtf8 (end_text (indent_in keys) key)
end_utf8 keys key k =
    IsUtf8-append ((indent_in keys ++ 60 ∷ 47 ∷ []) ++ key) (62 ∷ 10 ∷ [])
    (IsUtf8-append (indent_in keys ++ 60 ∷ 47 ∷ []) key (IsUtf8-append (indent_in keys) (60 ∷ 47 ∷ []) (indent_utf8 keys) (two_utf8 60 47 (omega arith) (omega arith))) (key_utf8 key k))
    (two_utf8 62 10 (omega arith) (omega arith))

written_utf8 : (statements : List Statement) (keys : List (List ℕ)) → AreReadable keys statements → IsUtf8 (written keys statements)
unfolding written
written_utf8 [] keys h = IsUtf8-nil
written_utf8 (OptionOf key args line ∷ more) keys h =
    IsUtf8-append (option_text (indent_in keys) key args) (written keys more) (option_utf8 keys key args h.0 h.1) (written_utf8 more keys h.3)
written_utf8 (StartOf key args line ∷ more) keys h =
    IsUtf8-append (start_text (indent_in keys) key args) (written (key ∷ keys) more) (start_utf8 keys key args h.0 h.1) (written_utf8 more (key ∷ keys) h.3)
written_utf8 (End ∷ more) [] h = absurd h
written_utf8 (End ∷ more) (key ∷ keys) h =
    IsUtf8-append (end_text (indent_in keys) key) (written keys more) (end_utf8 keys key h.0) (written_utf8 more keys h.1)
written_utf8 (Stray ∷ more) keys h = absurd h

-- ---- statement after statement

abbrev pub keys_of : List Open → List (List ℕ)
keys_of opens = map (λ o. o.key) opens

pub as_many : (opens : List Open) → length (keys_of opens) ≡ length opens
as_many [] = refl
as_many (o ∷ opens) = ap suc (as_many opens)

abbrev size : Stand → ℕ
size s = length s.place.rest

-- where statements that are printed begin
abbrev begin : List Open → ℕ → List Statement → Stand
begin opens line statements = stand opens (behind_blanks (at line (chars (written (keys_of opens) statements))))

-- all statements were read, and no section is open
pub record Ended (front : List Statement) (total : Result (List Statement × Stand) ConfFault) : Type 0 where
  pub line : ℕ
  pub same : total ≡ Ok (front, stand [] (at line []))

again : (front more rest : List Statement) (total : Result (List Statement × Stand) ConfFault) → Ended ((front ++ more) ++ rest) total → Ended (front ++ (more ++ rest)) total
again front more rest total e = subst (λ (xs : List Statement). Ended xs total) (append_assoc front more rest) e

says_more : (front : List Statement) (s t : Stand) (what : Statement) (total : Result (List Statement × Stand) ConfFault) → Going size line_at front s total → Says s what t → Going size line_at (front ++ what ∷ []) t total
says_more front s t what total going h = goes_on size line_at front (front ++ what ∷ []) (what ∷ []) s t total going h.read h.less refl

last : (opens : List Open) (line : ℕ) → keys_of opens ≡ [] → begin opens line [] ≡ stand [] (at line [])
unfolding written
last [] line e = ap (stand []) (ap (after_blanks line) chars-nil ∙ at_end line)
last (o ∷ opens) line e = absurd (cc e)

no_line : (line : ℕ) → line_at (stand [] (at line [])) ≡ Ok None
unfolding line_at
no_line line = refl

read_on : (statements front : List Statement) (opens : List Open) (line : ℕ) (total : Result (List Statement × Stand) ConfFault) → AreReadable (keys_of opens) statements
    → Going size line_at front (begin opens line statements) total → Ended (front ++ numbered line statements) total
unfolding written
read_on [] front opens line total h going =
    let now = subst (λ (s : Stand). Going size line_at front s total) (last opens line h) going in record {
      line = line;
      same = stops size line_at front (stand [] (at line [])) total now (no_line line) ∙ ap (λ (xs : List Statement). Ok (xs, stand [] (at line []))) (sym (append-nil front));
    }
read_on (OptionOf key args l ∷ more) front opens line total h going =
    let one = option_reads opens (keys_of opens) key args line (written (keys_of opens) more) h.0 h.1 h.2 in
    again front (OptionOf key args line ∷ []) (numbered (line + 1) more) total
    (read_on more (front ++ OptionOf key args line ∷ []) opens (line + 1) total h.3 (says_more front _ _ (OptionOf key args line) total going one))
read_on (StartOf key args l ∷ more) front opens line total h going =
    let room : length opens < NESTING_LIMIT = (let r = h.2 in omega (arith, r, as_many opens)) in
    let one = start_reads opens (keys_of opens) key args line (written (key ∷ keys_of opens) more) h.0 h.1 room in
    again front (StartOf key args line ∷ []) (numbered (line + 1) more) total
    (read_on more (front ++ StartOf key args line ∷ []) (record { key = key; line = line } ∷ opens) (line + 1) total h.3
    (says_more front _ _ (StartOf key args line) total going one))
read_on (End ∷ more) front [] line total h going = absurd h
read_on (End ∷ more) front (o ∷ opens) line total h going =
    let one = end_reads o opens (keys_of opens) line (written (keys_of opens) more) h.0 in
    again front (End ∷ []) (numbered (line + 1) more) total
    (read_on more (front ++ End ∷ []) opens (line + 1) total h.1 (says_more front _ _ End total going one))
read_on (Stray ∷ more) front opens line total h going = absurd h

-- the text of statements that can be read is read as them, one a line
pub written_reads : (statements : List Statement) → AreReadable [] statements → length (written [] statements) ≤ FILE_LIMIT
    → statements_of_text (written [] statements) ≡ Ok (numbered 1 statements)
written_reads statements h short =
    let p : Position = behind_blanks (at 1 (chars (written [] statements))) in
    let all = read_on statements [] [] 1 (all_lines p) h (begins size line_at [] (stand [] p) refl) in
    good_text (written [] statements) short (written_utf8 statements [] h) ∙ finished p (numbered 1 statements) (stand [] (at all.line [])) all.same
