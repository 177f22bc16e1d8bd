-- Lines, one after the other.
use Rattle.cd_conf.proofs.CharacterRuns.{front_none, run_shorter}
use Rattle.cd_conf.specs.Blanks.{behind_blanks}
use Rattle.cd_conf.specs.Characters.{after_run, front_run, may_stand}
use Rattle.cd_conf.specs.Faults.{conf_fault, fault_at, source_fault, text_fault, unless_memory}
use Rattle.cd_conf.specs.Pile.{Reads, Took, opens_in}
use Rattle.cd_conf.specs.Position.{Position, at}
use Rattle.cd_conf.specs.Repeated.{repeated}
use Rattle.cd_conf.specs.Statements.{Open, Stand, Statement, bad_line, closed, head_at, head_from, keyed, line_at, line_behind, open_behind, section_head, stand, statement_behind, statement_of, statements_at, statements_of_text, values_behind}
use Rattle.cd_conf.specs.declared.fault.ConfFault.{ConfFault}
use Rattle.cd_conf.specs.declared.fault.ConfKind.TheVariants as kinds
use Rattle.cd_conf.specs.declared.fault.ConfKind.{ConfKind}
use Rattle.cd_conf.specs.declared.head.Head.{Head}
use Rattle.cd_conf.specs.declared.head.LineKind.TheVariants.{OptionLine, SectionEnd, SectionStart}
use Rattle.cd_conf.specs.declared.head.LineKind.{LineKind}
use Rattle.cd_conf.specs.declared.item.Arg.{Arg}
use Rattle.cd_conf.specs.declared.limits.TheConstants.{FILE_LIMIT}
use Rattle.cd_conf.specs.declared.pile.Pile.{Pile}
use Rattle.cd_conf.specs.declared.runs.Kind.TheVariants.{Key}
use Rattle.cd_io.specs.declared.source.ReadAllFault.TheVariants as source
use Rattle.cd_io.specs.declared.source.ReadAllFault.{ReadAllFault}
use Rattle.cd_reading.specs.First.{unless, ◌>>=◌}
use Rattle.cd_reading.specs.Gives.{Gives, Refuses}
use Rattle.std.proofs.Common.{Bool, Err, IfOk, IfSome, IsOk, List, None, Ok, Option, Result, Some, [], ap, arith, false, if◌then◌else◌, length, refl, replicate, suc, sym, true, ℕ, ◌<◌, ◌==◌, ◌∙◌, ◌∷◌, ◌≡◌, ◌≤◌}
use Rattle.std.proofs.lemmas.Bool.{le-leb, lt-leb}
use Rattle.std.proofs.lemmas.List.{length-replicate}
use Rattle.std.proofs.lemmas.Str.{is_utf8-from_IsUtf8}
use Rattle.std.specs.Str.{IsUtf8, chars, is_utf8}

-- the lines of a text from a position on, and the sections that are open behind them
abbrev pub all_lines : Position → Result (List Statement × Stand) ConfFault
all_lines p = repeated line_at (suc (length p.rest)) (stand [] p)

-- ---- a head takes characters

abbrev rest_of : Head × List ℕ → List ℕ
rest_of cut = cut.1

some_same : {A : Type 0} (x y : A) → Some x ≡ Some y → x ≡ y
some_same x y e = cc e

key_shorter : (kind : LineKind) (cs key : List ℕ) (head : Head) (rest : List ℕ) → front_run Key cs ≡ key → keyed kind key (after_run Key cs) ≡ Some (head, rest) → length rest < length cs
key_shorter kind cs [] head rest k e = absurd (cc e)
key_shorter kind [] (c ∷ key) head rest k e = absurd (cc k)
key_shorter kind (d ∷ cs) (c ∷ key) head rest k e = by (may_stand Key d) refl
  where
    by : (t : Bool) → may_stand Key d ≡ t → length rest < length (d ∷ cs)
    by true h =
        let r : rest ≡ after_run Key (d ∷ cs) = sym (ap rest_of (some_same (record { kind = kind; key = c ∷ key }, after_run Key (d ∷ cs)) (head, rest) e)) in
        let s = run_shorter Key d (d ∷ cs) cs h refl in omega (arith, ap length r, s)
    by false h = absurd (let n : [] ≡ c ∷ key = sym (front_none Key d cs h) ∙ k in cc n)

from_shorter : (kind : LineKind) (cs : List ℕ) (head : Head) (rest : List ℕ) → head_from kind cs ≡ Some (head, rest) → length rest < length cs
from_shorter kind cs head rest e = key_shorter kind cs (front_run Key cs) head rest refl e

section_shorter : (cs : List ℕ) (head : Head) (rest : List ℕ) → section_head cs ≡ Some (head, rest) → length rest < length cs
section_shorter [] head rest e = absurd (cc e)
section_shorter (c ∷ cs) head rest e = by (c == 47) refl
  where
    by : (t : Bool) → (c == 47) ≡ t → length rest < length (c ∷ cs)
    by true h = let s = from_shorter SectionEnd cs head rest (sym (rw h refl) ∙ e) in omega (arith, s)
    by false h = from_shorter SectionStart (c ∷ cs) head rest (sym (rw h refl) ∙ e)

pub head_shorter : (cs : List ℕ) (head : Head) (rest : List ℕ) → head_at cs ≡ Some (head, rest) → length rest < length cs
head_shorter [] head rest e = absurd (cc e)
head_shorter (c ∷ cs) head rest e = by (c == 60) refl
  where
    by : (t : Bool) → (c == 60) ≡ t → length rest < length (c ∷ cs)
    by true h = let s = section_shorter cs head rest (sym (rw h refl) ∙ e) in omega (arith, s)
    by false h = from_shorter OptionLine (c ∷ cs) head rest (sym (rw h refl) ∙ e)

-- ---- the end of a text

pub finished : (p : Position) (statements : List Statement) (s : Stand) → all_lines p ≡ Ok (statements, s) → statements_at p ≡ closed s.opens statements
unfolding statements_at
finished p statements s e = ap (λ (r : Result (List Statement × Stand) ConfFault). r >>= λ read. closed read.1.opens read.0) e

pub failed : (p : Position) (f : Option ConfFault) → Refuses f (all_lines p) → Refuses f (statements_at p)
unfolding statements_at
failed p None h = tt
failed p (Some f) h = ap (λ (r : Result (List Statement × Stand) ConfFault). r >>= λ read. closed read.1.opens read.0) h

-- ---- what stands behind a head

refuses_kind : {A : Type 0} (k : ConfKind) (f : ConfFault) (read : Result A ConfFault) → read ≡ Err f → Refuses (unless_memory k f) read
refuses_kind kinds.Memory f read h = by (f.line == 0)
  where
    by : (t : Bool) → Refuses (if t then None else Some f) read
    by true = tt
    by false = h
refuses_kind _ f read h = h

pub refuses : {A : Type 0} (f : ConfFault) (read : Result A ConfFault) → read ≡ Err f → Refuses (conf_fault f) read
refuses f read h = refuses_kind f.kind f read h

pub ok_value : {A F : Type 0} (r : Result A F) → IsOk r → (x : A) × (r ≡ Ok x)
ok_value (Ok x) h = (x, refl)
ok_value (Err f) h = absurd (cc h)

-- what follows the nesting, from what the nesting gives
abbrev further_on : ℕ → Head → Position → Result (List Open) ConfFault → Result (Option (List Statement × Stand)) ConfFault
further_on line head p nesting =
    nesting >>= λ further. values_behind head.kind p >>= λ values.
    line_behind head.kind line values.0 values.1 >>= λ next.
    Ok (Some (statement_of head.kind head.key values.0 line ∷ [], stand further next))

abbrev ended_by : ℕ → Head → List Open → Result (List Arg × Position) ConfFault → Result (Option (List Statement × Stand)) ConfFault
ended_by line head further read =
    read >>= λ values. line_behind head.kind line values.0 values.1 >>= λ next.
    Ok (Some (statement_of head.kind head.key values.0 line ∷ [], stand further next))

abbrev said_by : ℕ → Head → List Open → List Arg → Result Position ConfFault → Result (Option (List Statement × Stand)) ConfFault
said_by line head further args end =
    end >>= λ next. Ok (Some (statement_of head.kind head.key args line ∷ [], stand further next))

pub nesting_fault : (opens : List Open) (line : ℕ) (head : Head) (p : Position) (f : ConfFault) → open_behind opens line head.kind head.key ≡ Err f
    → Refuses (conf_fault f) (statement_behind opens line head p)
unfolding statement_behind
nesting_fault opens line head p f h = refuses f (statement_behind opens line head p) (ap (further_on line head p) h)

nested : (opens further : List Open) (line : ℕ) (head : Head) (p : Position) → open_behind opens line head.kind head.key ≡ Ok further
    → statement_behind opens line head p ≡ ended_by line head further (values_behind head.kind p)
unfolding statement_behind
nested opens further line head p h = ap (further_on line head p) h

pub values_fault : (opens : List Open) (line : ℕ) (head : Head) (p : Position) (f : Option ConfFault) → IsOk (open_behind opens line head.kind head.key)
    → Refuses f (values_behind head.kind p) → Refuses f (statement_behind opens line head p)
values_fault opens line head p None o h = tt
values_fault opens line head p (Some f) o h =
    let k = ok_value (open_behind opens line head.kind head.key) o in nested opens k.0 line head p k.1 ∙ ap (ended_by line head k.0) h

valued : (opens further : List Open) (line : ℕ) (head : Head) (p : Position) (args : List Arg) (end : Position) → open_behind opens line head.kind head.key ≡ Ok further
    → values_behind head.kind p ≡ Ok (args, end) → statement_behind opens line head p ≡ said_by line head further args (line_behind head.kind line args end)
valued opens further line head p args end o v = nested opens further line head p o ∙ ap (ended_by line head further) v

-- what is said behind a head
pub spoken : (opens further : List Open) (line : ℕ) (head : Head) (p : Position) (args : List Arg) (end next : Position) → open_behind opens line head.kind head.key ≡ Ok further
    → values_behind head.kind p ≡ Ok (args, end) → line_behind head.kind line args end ≡ Ok next
    → statement_behind opens line head p ≡ Ok (Some (statement_of head.kind head.key args line ∷ [], stand further next))
spoken opens further line head p args end next o v e = valued opens further line head p args end o v ∙ ap (said_by line head further args) e

pub end_fault : (opens : List Open) (line : ℕ) (head : Head) (p : Position) (args now : List Arg) (end : Position) (f : Option ConfFault) → IsOk (open_behind opens line head.kind head.key)
    → values_behind head.kind p ≡ Ok (args, end) → now ≡ args → Refuses f (line_behind head.kind line now end) → Refuses f (statement_behind opens line head p)
end_fault opens line head p args now end None o v n h = tt
end_fault opens line head p args now end (Some f) o v n h =
    let k = ok_value (open_behind opens line head.kind head.key) o in
    valued opens k.0 line head p args end k.1 v
    ∙ ap (said_by line head k.0 args) (ap (λ (xs : List Arg). line_behind head.kind line xs end) (sym n) ∙ h)

pub said : (old new : Pile) (line : ℕ) (head : Head) (p : Position) (args now : List Arg) (end next : Position) → IsOk (open_behind (opens_in old) line head.kind head.key)
    → values_behind head.kind p ≡ Ok (args, end) → now ≡ args → line_behind head.kind line now end ≡ Ok next
    → ((further : List Open) → open_behind (opens_in old) line head.kind head.key ≡ Ok further → Reads old new (statement_of head.kind head.key args line) further)
    → Took old new (statement_behind (opens_in old) line head p) next
said old new line head p args now end next o v n e put =
    let k = ok_value (open_behind (opens_in old) line head.kind head.key) o in
    let r = put k.0 k.1 in (
      statement_of head.kind head.key args line ∷ [],
      valued (opens_in old) k.0 line head p args end k.1 v
          ∙ ap (said_by line head k.0 args) (ap (λ (xs : List Arg). line_behind head.kind line xs end) (sym n) ∙ e)
          ∙ ap (λ (os : List Open). Ok (Some (statement_of head.kind head.key args line ∷ [], stand os next))) (sym r.1),
      r.0,
    )

pub if_ok : {A E : Type 0} (r : Result A E) (P Q : A → Type 0) → ((x : A) → P x → Q x) → IfOk r P → IfOk r Q
if_ok (Ok x) P Q f h = f x h
if_ok (Err e) P Q f h = tt

-- ---- a whole text

-- what the tests of a text lead to
abbrev after_tests : Bool → Bool → List ℕ → Result (List Statement) ConfFault
after_tests short utf8 bytes =
    unless ((short, fault_at kinds.TooLong 0) ∷ (utf8, fault_at kinds.NotText (bad_line bytes)) ∷ []) bytes >>= λ text.
    statements_at (behind_blanks (at 1 (chars text)))

pub good_text : (bytes : List ℕ) → length bytes ≤ FILE_LIMIT → IsUtf8 bytes → statements_of_text bytes ≡ statements_at (behind_blanks (at 1 (chars bytes)))
unfolding statements_of_text
good_text bytes short utf8 =
    ap (λ (b : Bool). after_tests b (is_utf8 bytes) bytes) (le-leb (length bytes) FILE_LIMIT short)
    ∙ ap (λ (b : Bool). after_tests true b bytes) (is_utf8-from_IsUtf8 bytes utf8)

pub not_text : (bytes : List ℕ) → length bytes ≤ FILE_LIMIT → is_utf8 bytes ≡ false → statements_of_text bytes ≡ Err (fault_at kinds.NotText (bad_line bytes))
unfolding statements_of_text
not_text bytes short bad =
    ap (λ (b : Bool). after_tests b (is_utf8 bytes) bytes) (le-leb (length bytes) FILE_LIMIT short)
    ∙ ap (λ (b : Bool). after_tests true b bytes) bad

long_text : (bytes : List ℕ) → FILE_LIMIT < length bytes → statements_of_text bytes ≡ Err (fault_at kinds.TooLong 0)
unfolding statements_of_text
long_text bytes long = ap (λ (b : Bool). after_tests b (is_utf8 bytes) bytes) (lt-leb (length bytes) FILE_LIMIT long)

-- a text that is longer than a number
longer : (n : ℕ) → (bytes : List ℕ) × (n < length bytes)
longer n = (replicate (suc n) 0, (let l = length-replicate {A = ℕ} (suc n) 0 in omega (arith, l)))

-- what a source that wasn't read to its end leads to
pub not_whole : {X : Type 0} (view : X → List Statement) (left : Option (List ℕ)) (why : ReadAllFault) → (why ≡ source.TooLong → IfSome left (λ bytes. FILE_LIMIT < length bytes))
    → (text : List ℕ) × IfSome left (λ bytes. bytes ≡ text) × Gives view text_fault (Err (source_fault why)) (statements_of_text text)
not_whole view None source.Failed h = ([], tt, tt)
not_whole view None source.TooLong h = let some = longer FILE_LIMIT in (some.0, tt, long_text some.0 some.1)
not_whole view None source.Memory h = ([], tt, tt)
not_whole view (Some bytes) source.Failed h = (bytes, refl, tt)
not_whole view (Some bytes) source.TooLong h = (bytes, refl, long_text bytes (h refl))
not_whole view (Some bytes) source.Memory h = (bytes, refl, tt)
