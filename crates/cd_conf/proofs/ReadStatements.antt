-- The statements that were read can be read again.
use Rattle.cd_conf.proofs.PrintedItems.{indent_in, items_are_written, written}
use Rattle.cd_conf.proofs.PrintedLines.{IsKey, key_ascii}
use Rattle.cd_conf.proofs.PrintedTexts.{AreReadable, as_many, keys_of, written_reads}
use Rattle.cd_conf.proofs.PrintedValues.{AllReadable}
use Rattle.cd_conf.proofs.ReadParts.{Good, Run, blanks_scalars, bound, found_same, ok_same, run_is, skip_scalars, values_good}
use Rattle.cd_conf.specs.Blanks.{behind_blanks, is_line_end, is_newline, line_behind_newline, next_line, skip_while}
use Rattle.cd_conf.specs.Canonical.{end_text, option_text, start_text}
use Rattle.cd_conf.specs.Characters.{after_run, front_run, is_in_key, may_stand}
use Rattle.cd_conf.specs.Faults.{fault_at}
use Rattle.cd_conf.specs.Position.{Position, at}
use Rattle.cd_conf.specs.ReadAgain.{PrintIsOneForm, PrintIsReadAgain, numbered}
use Rattle.cd_conf.specs.Repeated.{go_on, repeated}
use Rattle.cd_conf.specs.Statements.{End, Open, OptionOf, Stand, StartOf, Statement, Stray, bad_line, behind_close, close_here, closed, closed_by, head_at, head_from, keyed, line_at, line_behind, line_end, line_from, open_behind, section_head, stand, statement_at, statement_behind, statement_from, statement_of, statements_at, statements_of_text, values_behind}
use Rattle.cd_conf.specs.Tree.{statements_of_items}
use Rattle.cd_conf.specs.Values.{values_at}
use Rattle.cd_conf.specs.declared.fault.ConfFault.{ConfFault}
use Rattle.cd_conf.specs.declared.fault.ConfKind.TheVariants.{BadValue, NotText, TooDeep, TooLong, WrongEnd}
use Rattle.cd_conf.specs.declared.head.Head.{Head}
use Rattle.cd_conf.specs.declared.head.LineKind.TheVariants.{OptionLine, SectionEnd, SectionStart}
use Rattle.cd_conf.specs.declared.head.LineKind.{LineKind}
use Rattle.cd_conf.specs.declared.item.Arg.{Arg}
use Rattle.cd_conf.specs.declared.limits.TheConstants.{FILE_LIMIT, NESTING_LIMIT}
use Rattle.cd_conf.specs.declared.runs.Kind.TheVariants.{Key}
use Rattle.cd_reading.specs.First.{unless}
use Rattle.std.proofs.Common.{Bool, Err, List, None, Ok, Option, Result, Some, [], ap, arith, false, if◌then◌else◌, length, refl, subst, suc, sym, true, zero, ℕ, ◌++◌, ◌+◌, ◌<◌, ◌==◌, ◌∙◌, ◌∷◌, ◌≡◌, ◌≤◌}
use Rattle.std.proofs.Math.Utf8.{scalar, scalars}
use Rattle.std.proofs.lemmas.Bool.{and_parts, leb-false, ltb-true}
use Rattle.std.proofs.lemmas.Str.{IsUtf8-from_is_utf8, encodes-IsAscii, scalars-chars}
use Rattle.std.specs.List.{list_all}
use Rattle.std.specs.Prelude.{nat_le, nat_lt, not}
use Rattle.std.specs.Str.{chars, is_utf8, str_eq_ignore_ascii_case}

-- ---- heads

record GoodHead (head : Head) (rest : List ℕ) : Type 0 where
  key : IsKey head.key
  left : scalars rest ≡ true

run_key : (k : ℕ) (ks : List ℕ) → Run Key (k ∷ ks) → IsKey (k ∷ ks)
run_key k ks r =
    let same : k ∷ ks ≡ r.letters = r.text ∙ encodes-IsAscii r.letters (key_ascii r.letters r.all) in
    record { some = omega arith; all = subst (λ (xs : List ℕ). list_all is_in_key xs ≡ true) (sym same) r.all }

keyed_good : (kind : LineKind) (key behind : List ℕ) (head : Head) (rest : List ℕ) → Run Key key → scalars behind ≡ true → keyed kind key behind ≡ Some (head, rest) → GoodHead head rest
keyed_good kind [] behind head rest r h e = absurd (cc e)
keyed_good kind (k ∷ ks) behind head rest r h e =
    let one : Head = record { kind = kind; key = k ∷ ks } in
    let same : ◌≡◌ {A = Head × List ℕ} (one, behind) (head, rest) = cc e in
    subst (λ (v : Head × List ℕ). GoodHead v.0 v.1) same (record { key = run_key k ks r; left = h })

from_good : (kind : LineKind) (cs : List ℕ) (head : Head) (rest : List ℕ) → scalars cs ≡ true → head_from kind cs ≡ Some (head, rest) → GoodHead head rest
from_good kind cs head rest h e = keyed_good kind (front_run Key cs) (after_run Key cs) head rest (run_is Key cs) (skip_scalars (may_stand Key) cs h) e

section_good : (cs : List ℕ) (head : Head) (rest : List ℕ) → scalars cs ≡ true → section_head cs ≡ Some (head, rest) → GoodHead head rest
section_good [] head rest h e = absurd (cc e)
section_good (c ∷ cs) head rest h e = by (c == 47) e
  where
    by : (t : Bool) → (if t then head_from SectionEnd cs else head_from SectionStart (c ∷ cs)) ≡ Some (head, rest) → GoodHead head rest
    by true f = from_good SectionEnd cs head rest (and_parts (scalar c) (scalars cs) h).1 f
    by false f = from_good SectionStart (c ∷ cs) head rest h f

head_good : (cs : List ℕ) (head : Head) (rest : List ℕ) → scalars cs ≡ true → head_at cs ≡ Some (head, rest) → GoodHead head rest
head_good [] head rest h e = absurd (cc e)
head_good (c ∷ cs) head rest h e = by (c == 60) e
  where
    by : (t : Bool) → (if t then section_head cs else head_from OptionLine (c ∷ cs)) ≡ Some (head, rest) → GoodHead head rest
    by true f = section_good cs head rest (and_parts (scalar c) (scalars cs) h).1 f
    by false f = from_good OptionLine (c ∷ cs) head rest h f

-- ---- ends of lines

behind_scalars : (line : ℕ) (cs : List ℕ) → scalars cs ≡ true → scalars (line_behind_newline line cs).rest ≡ true
behind_scalars line [] h = refl
behind_scalars line (c ∷ cs) h = blanks_scalars (line + 1) cs (and_parts (scalar c) (scalars cs) h).1

next_scalars : (p : Position) → scalars p.rest ≡ true → scalars (next_line p).rest ≡ true
next_scalars p h =
    behind_scalars p.line (skip_while (λ c. not (is_newline c)) p.rest) (skip_scalars (λ c. not (is_newline c)) p.rest h)

left_same : (next now : Position) → ◌≡◌ {A = Result Position ConfFault} (Ok next) (Ok now) → scalars next.rest ≡ true → scalars now.rest ≡ true
left_same next now e h = subst (λ (p : Position). scalars p.rest ≡ true) (ok_same next now e) h

end_good : (p next : Position) → scalars p.rest ≡ true → line_end p ≡ Ok next → scalars next.rest ≡ true
end_good p next h e = by (is_line_end p.rest) e
  where
    by : (t : Bool) → (if t then Ok (next_line p) else Err (fault_at BadValue p.line)) ≡ Ok next → scalars next.rest ≡ true
    by true f = left_same (next_line p) next f (next_scalars p h)
    by false f = absurd (cc f)

close_scalars : (line : ℕ) (cs : List ℕ) (p : Position) → scalars cs ≡ true → behind_close line cs ≡ Some p → scalars p.rest ≡ true
close_scalars line [] p h e = absurd (cc e)
close_scalars line (c ∷ cs) p h e = by (c == 62) e
  where
    by : (t : Bool) → (if t then Some (at line cs) else None) ≡ Some p → scalars p.rest ≡ true
    by true f = let same : at line cs ≡ p = cc f in subst (λ (q : Position). scalars q.rest ≡ true) same (and_parts (scalar c) (scalars cs) h).1
    by false f = absurd (cc f)

closed_good : (line : ℕ) (p : Position) (found : Option Position) (next : Position) → ((q : Position) → found ≡ Some q → scalars q.rest ≡ true) → closed_by line p found ≡ Ok next
    → scalars next.rest ≡ true
closed_good line p None next h e = let b = bound (line_end p) (λ further. Err (fault_at BadValue line)) next e in let no = b.2 in absurd (cc no)
closed_good line p (Some behind) next h e = end_good (behind_blanks behind) next (blanks_scalars behind.line behind.rest (h behind refl)) e

close_good : (line : ℕ) (p next : Position) → scalars p.rest ≡ true → closed_by line p (close_here p) ≡ Ok next → scalars next.rest ≡ true
close_good line p next h e = closed_good line p (close_here p) next (λ q f. close_scalars p.line p.rest q h f) e

line_good : (kind : LineKind) (line : ℕ) (args : List Arg) (p next : Position) → scalars p.rest ≡ true → line_behind kind line args p ≡ Ok next
    → (scalars next.rest ≡ true) × (kind ≡ OptionLine → 0 < length args)
line_good OptionLine line args p next h e =
    let b = bound (line_end p) (λ further. unless ((nat_lt 0 (length args), fault_at BadValue line) ∷ []) further) next e in by b.0 b.1 (nat_lt 0 (length args)) refl b.2
  where
    by : (further : Position) → line_end p ≡ Ok further → (t : Bool) → nat_lt 0 (length args) ≡ t → (if t then Ok further else Err (fault_at BadValue line)) ≡ Ok next
        → (scalars next.rest ≡ true) × (OptionLine ≡ OptionLine → 0 < length args)
    by further f true g k = (left_same further next k (end_good p further h f), λ same. ltb-true 0 (length args) g)
    by further f false g k = absurd (cc k)
line_good SectionStart line args p next h e = (close_good line p next h e, λ same. absurd (cc same))
line_good SectionEnd line args p next h e = (close_good line p next h e, λ same. absurd (cc same))

behind_good : (kind : LineKind) (p : Position) (args : List Arg) (end : Position) → scalars p.rest ≡ true → values_behind kind p ≡ Ok (args, end) → Good args end
unfolding values_at
behind_good OptionLine p args end h e = values_good (suc (length p.rest)) p args end h e
behind_good SectionStart p args end h e = values_good (suc (length p.rest)) p args end h e
behind_good SectionEnd p args end h e = subst (λ (v : List Arg × Position). Good v.0 v.1) (ok_same ([], p) (args, end) e) (record { readable = tt; left = h })

-- ---- statements

-- the keys of open sections were read
abbrev AllKeys : List Open → Type 0
AllKeys [] = Unit {0}
AllKeys (o ∷ opens) = IsKey o.key × AllKeys opens

-- what can be read behind statements can be read with them in front
record Reached (opens : List Open) (more : List Statement) (s : Stand) : Type 0 where
  keys : AllKeys s.opens
  left : scalars s.place.rest ≡ true
  readable : (rest : List Statement) → AreReadable (keys_of s.opens) rest → AreReadable (keys_of opens) (more ++ rest)

reached_same : (opens : List Open) (more now : List Statement) (s t : Stand) → ◌≡◌ {A = Result (Option (List Statement × Stand)) ConfFault} (Ok (Some (more, s))) (Ok (Some (now, t)))
    → Reached opens more s → Reached opens now t
reached_same opens more now s t e h = subst (λ (v : List Statement × Stand). Reached opens v.0 v.1) (found_same (more, s) (now, t) e) h

said_good : (kind : LineKind) (opens further : List Open) (line : ℕ) (key : List ℕ) (args : List Arg) (next : Position) → AllKeys opens → IsKey key → AllReadable args
    → scalars next.rest ≡ true → (kind ≡ OptionLine → 0 < length args) → open_behind opens line kind key ≡ Ok further
    → Reached opens (statement_of kind key args line ∷ []) (stand further next)
said_good OptionLine opens further line key args next a k r h some e =
    subst (λ (os : List Open). Reached opens (OptionOf key args line ∷ []) (stand os next)) (ok_same opens further e)
    (record { keys = a; left = h; readable = λ rest g. (k, r, some refl, g) })
said_good SectionStart opens further line key args next a k r h some e = by (nat_le NESTING_LIMIT (length opens)) refl e
  where
    by : (t : Bool) → nat_le NESTING_LIMIT (length opens) ≡ t → (if t then Err (fault_at TooDeep line) else Ok (record { key = key; line = line } ∷ opens)) ≡ Ok further
        → Reached opens (StartOf key args line ∷ []) (stand further next)
    by true f g = absurd (cc g)
    by false f g =
        let room : length (keys_of opens) < NESTING_LIMIT = (let l = leb-false NESTING_LIMIT (length opens) f in omega (arith, l, as_many opens)) in
        subst (λ (os : List Open). Reached opens (StartOf key args line ∷ []) (stand os next)) (ok_same (record { key = key; line = line } ∷ opens) further g)
        (record { keys = (k, a); left = h; readable = λ rest d. (k, r, room, d) })
said_good SectionEnd [] further line key args next a k r h some e = absurd (cc e)
said_good SectionEnd (o ∷ opens) further line key args next a k r h some e = by (str_eq_ignore_ascii_case o.key key) e
  where
    by : (t : Bool) → (if t then Ok opens else Err (fault_at WrongEnd line)) ≡ Ok further → Reached (o ∷ opens) (End ∷ []) (stand further next)
    by true g =
        subst (λ (os : List Open). Reached (o ∷ opens) (End ∷ []) (stand os next)) (ok_same opens further g)
        (record { keys = a.1; left = h; readable = λ rest d. (a.0, d) })
    by false g = absurd (cc g)

statement_good : (opens : List Open) (line : ℕ) (head : Head) (p : Position) (more : List Statement) (s : Stand) → AllKeys opens → IsKey head.key → scalars p.rest ≡ true
    → statement_behind opens line head p ≡ Ok (Some (more, s)) → Reached opens more s
unfolding statement_behind
statement_good opens line head p more s a k h e =
    let nest = bound (open_behind opens line head.kind head.key) _ (Some (more, s)) e in
    let values = bound (values_behind head.kind p) _ (Some (more, s)) nest.2 in
    let end = bound (line_behind head.kind line values.0.0 values.0.1) _ (Some (more, s)) values.2 in
    let good = behind_good head.kind p values.0.0 values.0.1 h values.1 in
    let ends = line_good head.kind line values.0.0 values.0.1 end.0 good.left end.1 in
    reached_same opens (statement_of head.kind head.key values.0.0 line ∷ []) more (stand nest.0 end.0) s end.2
    (said_good head.kind opens nest.0 line head.key values.0.0 end.0 a k good.readable ends.0 ends.1 nest.1)

statement_from_good : (opens : List Open) (line : ℕ) (found : Option (Head × List ℕ)) (more : List Statement) (s : Stand) → AllKeys opens
    → ((head : Head) (rest : List ℕ) → found ≡ Some (head, rest) → GoodHead head rest) → statement_from opens line found ≡ Ok (Some (more, s)) → Reached opens more s
statement_from_good opens line None more s a h e = absurd (cc e)
statement_from_good opens line (Some head) more s a h e =
    let good = h head.0 head.1 refl in
    statement_good opens line head.0 (behind_blanks (at line head.1)) more s a good.key (blanks_scalars line head.1 good.left) e

from_line : (opens : List Open) (line : ℕ) (cs : List ℕ) (more : List Statement) (s : Stand) → AllKeys opens → scalars cs ≡ true → line_from opens line cs ≡ Ok (Some (more, s))
    → Reached opens more s
from_line opens line [] more s a h e = absurd (cc e)
from_line opens line (c ∷ cs) more s a h e = by (is_line_end (c ∷ cs)) e
  where
    by : (t : Bool) → (if t then Ok (Some ([], stand opens (next_line (at line (c ∷ cs))))) else statement_at opens (at line (c ∷ cs))) ≡ Ok (Some (more, s)) → Reached opens more s
    by true f =
        reached_same opens [] more (stand opens (next_line (at line (c ∷ cs)))) s f
        (record { keys = a; left = next_scalars (at line (c ∷ cs)) h; readable = λ rest g. g })
    by false f = statement_from_good opens line (head_at (c ∷ cs)) more s a (λ head rest g. head_good (c ∷ cs) head rest h g) f

-- ---- lines

lines_good : (n : ℕ) (s : Stand) (statements : List Statement) (t : Stand) → AllKeys s.opens → scalars s.place.rest ≡ true → repeated line_at n s ≡ Ok (statements, t) → t.opens ≡ []
    → AreReadable (keys_of s.opens) statements
unfolding repeated line_at
lines_good zero s statements t a h e o =
    subst (λ (v : List Statement × Stand). v.1.opens ≡ [] → AreReadable (keys_of s.opens) v.0) (ok_same ([], s) (statements, t) e) (λ none. ap keys_of none) o
lines_good (suc n) s statements t a h e o =
    let b = bound (line_from s.opens s.place.line s.place.rest) (go_on s (repeated line_at n)) (statements, t) e in by b.0 b.1 b.2 (λ r xs u k g f z. lines_good n r xs u k g f z)
  where
    by : (found : Option (List Statement × Stand)) → line_from s.opens s.place.line s.place.rest ≡ Ok found → go_on s (repeated line_at n) found ≡ Ok (statements, t)
        → ((r : Stand) (xs : List Statement) (u : Stand) → AllKeys r.opens → scalars r.place.rest ≡ true → repeated line_at n r ≡ Ok (xs, u) → u.opens ≡ [] → AreReadable (keys_of r.opens) xs)
        → AreReadable (keys_of s.opens) statements
    by None f g further =
        subst (λ (v : List Statement × Stand). v.1.opens ≡ [] → AreReadable (keys_of s.opens) v.0) (ok_same ([], s) (statements, t) g) (λ none. ap keys_of none) o
    by (Some given) f g further =
        let one = from_line s.opens s.place.line s.place.rest given.0 given.1 a h f in
        let more = bound (repeated line_at n given.1) (λ r. Ok (given.0 ++ r.0, r.1)) (statements, t) g in
        let same = ok_same (given.0 ++ more.0.0, more.0.1) (statements, t) more.2 in
        let none : more.0.1.opens ≡ [] = ap (λ (v : List Statement × Stand). v.1.opens) same ∙ o in
        subst (λ (v : List Statement × Stand). AreReadable (keys_of s.opens) v.0) same
        (one.readable more.0.0 (further given.1 more.0.0 more.0.1 one.keys one.left more.1 none))

-- ---- a text

closed_is : (opens : List Open) (statements read : List Statement) → closed opens statements ≡ Ok read → (opens ≡ []) × (statements ≡ read)
closed_is [] statements read e = (refl, ok_same statements read e)
closed_is (o ∷ opens) statements read e = absurd (cc e)

position_good : (p : Position) (statements : List Statement) → scalars p.rest ≡ true → statements_at p ≡ Ok statements → AreReadable [] statements
unfolding statements_at
position_good p statements h e =
    let read = bound (repeated line_at (suc (length p.rest)) (stand [] p)) (λ r. closed r.1.opens r.0) statements e in
    let c = closed_is read.0.1.opens read.0.0 statements read.2 in
    subst (AreReadable []) c.1 (lines_good (suc (length p.rest)) (stand [] p) read.0.0 read.0.1 tt h read.1 c.0)

-- the statements of a text can be read again
pub text_good : (bytes : List ℕ) (statements : List Statement) → statements_of_text bytes ≡ Ok statements → AreReadable [] statements
unfolding statements_of_text
text_good bytes statements e =
    let read = bound (unless ((nat_le (length bytes) FILE_LIMIT, fault_at TooLong 0) ∷ (is_utf8 bytes, fault_at NotText (bad_line bytes)) ∷ []) bytes)
    (λ text. statements_at (behind_blanks (at 1 (chars text)))) statements e in
    by read.0 read.2 (nat_le (length bytes) FILE_LIMIT) (is_utf8 bytes) refl read.1
  where
    by : (text : List ℕ) → statements_at (behind_blanks (at 1 (chars text))) ≡ Ok statements → (short utf8 : Bool) → is_utf8 bytes ≡ utf8
        → unless ((short, fault_at TooLong 0) ∷ (utf8, fault_at NotText (bad_line bytes)) ∷ []) bytes ≡ Ok text → AreReadable [] statements
    by text s true true u f =
        let good : scalars (chars text) ≡ true = subst (λ (t : List ℕ). scalars (chars t) ≡ true) (ok_same bytes text f) (scalars-chars bytes (IsUtf8-from_is_utf8 bytes u)) in
        position_good (behind_blanks (at 1 (chars text))) statements (blanks_scalars 1 (chars text) good) s
    by text s true false u f = absurd (cc f)
    by text s false utf8 u f = absurd (cc f)

-- the canonical text of items that were read is read as them
pub print_reads : PrintIsReadAgain
print_reads bytes items e short =
    let statements : List Statement = statements_of_items items in
    let text = items_are_written items in
    ap statements_of_text text ∙ written_reads statements (text_good bytes statements e) (subst (λ (t : List ℕ). length t ≤ FILE_LIMIT) text short)

-- no line of a printed text tells the line of its statement
no_line_tells : (statements : List Statement) (keys : List (List ℕ)) (line : ℕ) → written keys (numbered line statements) ≡ written keys statements
unfolding written
no_line_tells [] keys line = refl
no_line_tells (OptionOf key args l ∷ more) keys line = ap (λ (xs : List ℕ). option_text (indent_in keys) key args ++ xs) (no_line_tells more keys (line + 1))
no_line_tells (StartOf key args l ∷ more) keys line = ap (λ (xs : List ℕ). start_text (indent_in keys) key args ++ xs) (no_line_tells more (key ∷ keys) (line + 1))
no_line_tells (End ∷ more) [] line = no_line_tells more [] (line + 1)
no_line_tells (End ∷ more) (key ∷ keys) line = ap (λ (xs : List ℕ). end_text (indent_in keys) key ++ xs) (no_line_tells more keys (line + 1))
no_line_tells (Stray ∷ more) keys line = no_line_tells more keys line

pub print_is_one : PrintIsOneForm
print_is_one line items again e =
    items_are_written again ∙ ap (written []) e ∙ no_line_tells (statements_of_items items) [] line ∙ sym (items_are_written items)
