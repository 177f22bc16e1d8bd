-- The options, section starts and section ends of a text, and how sections nest.
use Rattle.cd_conf.specs.Blanks.{behind_blanks, is_line_end, is_newline, next_line}
use Rattle.cd_conf.specs.Characters.{after_run, front_run}
use Rattle.cd_conf.specs.Faults.{fault_at}
use Rattle.cd_conf.specs.Position.{Position, at}
use Rattle.cd_conf.specs.Repeated.{repeated}
use Rattle.cd_conf.specs.Values.{values_at}
use Rattle.cd_conf.specs.declared.fault.ConfFault.{ConfFault}
use Rattle.cd_conf.specs.declared.fault.ConfKind.TheVariants.{BadKey, BadValue, NotText, TooDeep, TooLong, UnclosedSection, WrongEnd}
use Rattle.cd_conf.specs.declared.head.Head.{Head}
use Rattle.cd_conf.specs.declared.head.LineKind.TheVariants.{OptionLine, SectionEnd, SectionStart}
use Rattle.cd_conf.specs.declared.head.LineKind.{LineKind}
use Rattle.cd_conf.specs.declared.item.Arg.{Arg}
use Rattle.cd_conf.specs.declared.limits.TheConstants.{FILE_LIMIT, NESTING_LIMIT}
use Rattle.cd_conf.specs.declared.runs.Kind.TheVariants.{Key}
use Rattle.cd_reading.specs.First.{unless, ◌>>=◌}
use Rattle.std.specs.Prelude.{Err, List, None, Ok, Option, Result, Some, [], count_by, if◌then◌else◌, length, nat_le, nat_lt, suc, take, ℕ, ◌+◌, ◌==◌, ◌∷◌}
use Rattle.std.specs.Str.Lossy.{utf8_valid_len}
use Rattle.std.specs.Str.{chars, is_utf8, str_eq_ignore_ascii_case}

-- ---- what begins a line

abbrev pub keyed : LineKind → List ℕ → List ℕ → Option (Head × List ℕ)
keyed kind [] rest = None
keyed kind (k ∷ ks) rest = Some (record { kind = kind; key = k ∷ ks }, rest)

-- a key, and what follows it
abbrev pub head_from : LineKind → List ℕ → Option (Head × List ℕ)
head_from kind cs = keyed kind (front_run Key cs) (after_run Key cs)

-- what stands behind `<`
abbrev pub section_head : List ℕ → Option (Head × List ℕ)
section_head [] = None
section_head (c ∷ cs) = if c == 47 then head_from SectionEnd cs else head_from SectionStart (c ∷ cs)

-- a key, `<` and a key, or `</` and a key, and what follows; none for anything else
abbrev pub head_at : List ℕ → Option (Head × List ℕ)
head_at [] = None
head_at (c ∷ cs) = if c == 60 then section_head cs else head_from OptionLine (c ∷ cs)

-- ---- the end of a line

-- the position behind the end of a line that ends here
abbrev pub line_end : Position → Result Position ConfFault
line_end p = if is_line_end p.rest then Ok (next_line p) else Err (fault_at BadValue p.line)

-- the position behind a `>` that stands here
abbrev pub behind_close : ℕ → List ℕ → Option Position
behind_close line [] = None
behind_close line (c ∷ cs) = if c == 62 then Some (at line cs) else None

abbrev pub close_here : Position → Option Position
close_here p = behind_close p.line p.rest

abbrev pub closed_by : ℕ → Position → Option Position → Result Position ConfFault
closed_by line p None = line_end p >>= λ next. Err (fault_at BadValue line)
closed_by line p (Some behind) = line_end (behind_blanks behind)

-- the same of a section start or end that began in a line, and needs a `>` here
abbrev pub close : ℕ → Position → Result Position ConfFault
close line p = closed_by line p (close_here p)

-- the same behind the values of what began in a line; an option needs one value or more
abbrev pub line_behind : LineKind → ℕ → List Arg → Position → Result Position ConfFault
line_behind OptionLine line args p =
    line_end p >>= λ next. unless ((nat_lt 0 (length args), fault_at BadValue line) ∷ []) next
line_behind SectionStart line args p = close line p
line_behind SectionEnd line args p = close line p

-- the values behind a head; a section end has none
abbrev pub values_behind : LineKind → Position → Result (List Arg × Position) ConfFault
values_behind OptionLine p = values_at p
values_behind SectionStart p = values_at p
values_behind SectionEnd p = Ok ([], p)

-- ---- nesting

-- a section that is open: its key, and the line of its start
pub record Open : Type 0 where
  pub key : List ℕ
  pub line : ℕ

-- the sections open behind a head in a line, from those before it, the innermost first; the end of
-- a section has its key, whatever the case of the letters
abbrev pub open_behind : List Open → ℕ → LineKind → List ℕ → Result (List Open) ConfFault
open_behind opens line OptionLine key = Ok opens
open_behind opens line SectionStart key =
    if nat_le NESTING_LIMIT (length opens) then Err (fault_at TooDeep line)
    else Ok (record { key = key; line = line } ∷ opens)
open_behind [] line SectionEnd key = Err (fault_at WrongEnd line)
open_behind (o ∷ os) line SectionEnd key =
    if str_eq_ignore_ascii_case o.key key then Ok os else Err (fault_at WrongEnd line)

-- ---- lines

-- what a line says: an option, a section's start, or its end. No line says the last
pub data Statement : Type 0 where
  OptionOf : (key : List ℕ) → (args : List Arg) → (line : ℕ) → Statement
  StartOf : (key : List ℕ) → (args : List Arg) → (line : ℕ) → Statement
  End : Statement
  Stray : Statement

abbrev pub statement_of : LineKind → List ℕ → List Arg → ℕ → Statement
statement_of OptionLine key args line = OptionOf key args line
statement_of SectionStart key args line = StartOf key args line
statement_of SectionEnd key args line = End

-- the sections that are open, and a position behind the blanks of a line's start
pub record Stand : Type 0 where
  pub opens : List Open
  pub place : Position

abbrev pub stand : List Open → Position → Stand
stand opens place = record { opens = opens; place = place }

-- what stands behind a head that began in a line, from a position behind blanks on
unfoldable pub statement_behind : List Open → ℕ → Head → Position → Result (Option (List Statement × Stand)) ConfFault
statement_behind opens line head p =
    open_behind opens line head.kind head.key >>= λ further.
    values_behind head.kind p >>= λ values.
    line_behind head.kind line values.0 values.1 >>= λ next.
    Ok (Some (statement_of head.kind head.key values.0 line ∷ [], stand further next))

abbrev pub statement_from : List Open → ℕ → Option (Head × List ℕ) → Result (Option (List Statement × Stand)) ConfFault
statement_from opens line None = Err (fault_at BadKey line)
statement_from opens line (Some head) =
    statement_behind opens line head.0 (behind_blanks (at line head.1))

-- the statement at a position: the first fault is that of its head, then that of its nesting, of
-- its values, and of its end
abbrev pub statement_at : List Open → Position → Result (Option (List Statement × Stand)) ConfFault
statement_at opens p = statement_from opens p.line (head_at p.rest)

-- the line at a position, which may have no statement; none at the text's end
abbrev pub line_from : List Open → ℕ → List ℕ → Result (Option (List Statement × Stand)) ConfFault
line_from opens line [] = Ok None
line_from opens line (c ∷ cs) =
    if is_line_end (c ∷ cs) then Ok (Some ([], stand opens (next_line (at line (c ∷ cs)))))
    else statement_at opens (at line (c ∷ cs))

unfoldable pub line_at : Stand → Result (Option (List Statement × Stand)) ConfFault
line_at s = line_from s.opens s.place.line s.place.rest

-- ---- a text

-- no section is open at the end
abbrev pub closed : List Open → List Statement → Result (List Statement) ConfFault
closed [] statements = Ok statements
closed (o ∷ os) statements = Err (fault_at UnclosedSection o.line)

-- the statements from a position on
unfoldable pub statements_at : Position → Result (List Statement) ConfFault
statements_at p = repeated line_at (suc (length p.rest)) (stand [] p) >>= λ read. closed read.1.opens read.0

-- the line of the first byte that isn't UTF-8
abbrev pub bad_line : List ℕ → ℕ
bad_line bytes = 1 + count_by is_newline (take (utf8_valid_len bytes) bytes)

-- the statements of a text, or its first fault
unfoldable pub statements_of_text : List ℕ → Result (List Statement) ConfFault
statements_of_text bytes =
    unless
    ((nat_le (length bytes) FILE_LIMIT, fault_at TooLong 0)
    ∷ (is_utf8 bytes, fault_at NotText (bad_line bytes)) ∷ []) bytes >>= λ text.
    statements_at (behind_blanks (at 1 (chars text)))
