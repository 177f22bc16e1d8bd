-- No text has the fault of a source.
use Rattle.cd_conf.specs.Blanks.{behind_blanks, is_line_end, next_line}
use Rattle.cd_conf.specs.Characters.{after_run, front_run, is_in_word}
use Rattle.cd_conf.specs.Faults.{conf_fault, fault_at, is_read_fault, is_read_kind, text_fault, unless_memory}
use Rattle.cd_conf.specs.Numbers.{Digits, digits_of, is_false_word, is_true_word, magnitude, number_arg, plain_arg, word_arg}
use Rattle.cd_conf.specs.Position.{Position, at}
use Rattle.cd_conf.specs.Quotes.{quoted_at}
use Rattle.cd_conf.specs.Repeated.{go_on, in_front, repeated}
use Rattle.cd_conf.specs.Statements.{Open, Stand, Statement, bad_line, close_here, closed, closed_by, head_at, line_at, line_behind, line_end, line_from, open_behind, stand, statement_behind, statement_from, statements_at, statements_of_text, values_behind}
use Rattle.cd_conf.specs.Values.{quoted_arg, some_value, value_at, value_from, values_at, word_at}
use Rattle.cd_conf.specs.declared.fault.ConfFault.{ConfFault}
use Rattle.cd_conf.specs.declared.fault.ConfKind.TheVariants as kinds
use Rattle.cd_conf.specs.declared.fault.ConfKind.{ConfKind}
use Rattle.cd_conf.specs.declared.head.Head.{Head}
use Rattle.cd_conf.specs.declared.head.LineKind.TheVariants.{OptionLine, SectionEnd, SectionStart}
use Rattle.cd_conf.specs.declared.head.LineKind.{LineKind}
use Rattle.cd_conf.specs.declared.item.Arg.TheVariants.{Flag}
use Rattle.cd_conf.specs.declared.item.Arg.{Arg}
use Rattle.cd_conf.specs.declared.limits.TheConstants.{FILE_LIMIT, NESTING_LIMIT}
use Rattle.cd_conf.specs.declared.runs.Kind.TheVariants.{Word}
use Rattle.cd_reading.specs.First.{unless, ◌>>=◌}
use Rattle.cd_reading.specs.Gives.{Gives, Refuses}
use Rattle.std.proofs.Common.{Bool, Err, IfErr, List, None, Ok, Option, Result, Some, [], ap, false, if◌then◌else◌, length, refl, subst, suc, sym, true, zero, ℕ, ◌==◌, ◌∙◌, ◌∷◌, ◌≡◌}
use Rattle.std.specs.Prelude.{nat_le, nat_lt}
use Rattle.std.specs.Str.Parse.{starts_with_minus, without_leading_sign}
use Rattle.std.specs.Str.{chars, is_utf8, str_eq_ignore_ascii_case}

-- a source's fault isn't what was read
pub record IsOfText {A : Type 0} (r : Result A ConfFault) : Type 0 where
  pub fact : is_read_fault r ≡ false

bind : {A B : Type 0} (r : Result A ConfFault) (f : A → Result B ConfFault) → IsOfText r → ((x : A) → IsOfText (f x)) → IsOfText (r >>= f)
bind (Ok x) f h g = g x
bind (Err e) f h g = record { fact = h.fact }

choose : {A : Type 0} (b : Bool) (x y : Result A ConfFault) → IsOfText x → IsOfText y → IsOfText (if b then x else y)
choose true x y h g = h
choose false x y h g = g

-- ---- values

of_number : (line : ℕ) (minus : Bool) (n : Option ℕ) → IsOfText (number_arg line minus n)
of_number line minus None = record { fact = refl }
of_number line minus (Some n) = record { fact = refl }

of_plain : (line : ℕ) (word : List ℕ) (ds : Option Digits) → IsOfText (plain_arg line word ds)
of_plain line word None = record { fact = refl }
of_plain line word (Some ds) = of_number line (starts_with_minus word) (magnitude ds)

of_word : (line : ℕ) (word : List ℕ) → IsOfText (word_arg line word)
unfolding word_arg
of_word line word =
    choose (is_true_word word) (Ok (Flag true)) _ (record { fact = refl })
    (choose (is_false_word word) (Ok (Flag false)) (plain_arg line word (digits_of (without_leading_sign word))) (record { fact = refl }) (of_plain line word (digits_of (without_leading_sign word))))

of_quoted : (line : ℕ) (found : Option (List ℕ × Position)) → IsOfText (quoted_arg line found)
of_quoted line None = record { fact = refl }
of_quoted line (Some found) = record { fact = refl }

of_word_at : (p : Position) → IsOfText (word_at p)
of_word_at p =
    bind (word_arg p.line (front_run Word p.rest)) (λ arg. Ok (arg, behind_blanks (at p.line (after_run Word p.rest)))) (of_word p.line (front_run Word p.rest)) (λ arg. record { fact = refl })

of_value_from : (line : ℕ) (cs : List ℕ) → IsOfText (value_from line cs)
of_value_from line [] = record { fact = refl }
of_value_from line (c ∷ cs) =
    choose (c == 34) (quoted_arg line (quoted_at (at line cs)) >>= some_value) _
    (bind (quoted_arg line (quoted_at (at line cs))) some_value (of_quoted line (quoted_at (at line cs))) (λ v. record { fact = refl }))
    (choose (is_in_word c) (word_at (at line (c ∷ cs)) >>= some_value) (Ok None)
    (bind (word_at (at line (c ∷ cs))) some_value (of_word_at (at line (c ∷ cs))) (λ v. record { fact = refl })) (record { fact = refl }))

of_value : (p : Position) → IsOfText (value_at p)
unfolding value_at
of_value p = of_value_from p.line p.rest

of_front : {A S : Type 0} (front : List A) (r : Result (List A × S) ConfFault) → IsOfText r → IsOfText (in_front front r)
of_front front r h = bind r _ h (λ x. (record { fact = refl }))

of_rest : {A S : Type 0} (s : S) (further : S → Result (List A × S) ConfFault) → ((t : S) → IsOfText (further t)) → (found : Option (List A × S)) → IsOfText (go_on s further found)
of_rest s further h None = record { fact = refl }
of_rest s further h (Some given) = of_front given.0 (further given.1) (h given.1)

of_repeated : {A S : Type 0} (step : S → Result (Option (List A × S)) ConfFault) → ((s : S) → IsOfText (step s)) → (n : ℕ) (s : S) → IsOfText (repeated step n s)
unfolding repeated
of_repeated step h zero s = record { fact = refl }
of_repeated step h (suc n) s = bind (step s) (go_on s (repeated step n)) (h s) (of_rest s (repeated step n) (of_repeated step h n))

of_values : (p : Position) → IsOfText (values_at p)
unfolding values_at
of_values p = of_repeated value_at of_value _ p

-- ---- lines

of_end : (p : Position) → IsOfText (line_end p)
of_end p = choose (is_line_end p.rest) (Ok (next_line p)) (Err (fault_at kinds.BadValue p.line)) (record { fact = refl }) (record { fact = refl })

of_closed_by : (line : ℕ) (p : Position) (found : Option Position) → IsOfText (closed_by line p found)
of_closed_by line p None = bind (line_end p) (λ next. Err (fault_at kinds.BadValue line)) (of_end p) (λ next. record { fact = refl })
of_closed_by line p (Some behind) = of_end (behind_blanks behind)

of_line_behind : (kind : LineKind) (line : ℕ) (args : List Arg) (p : Position) → IsOfText (line_behind kind line args p)
of_line_behind OptionLine line args p =
    bind (line_end p) (λ next. unless ((nat_lt 0 (length args), fault_at kinds.BadValue line) ∷ []) next) (of_end p)
    (λ next. choose (nat_lt 0 (length args)) (Ok next) (Err (fault_at kinds.BadValue line)) (record { fact = refl }) (record { fact = refl }))
of_line_behind SectionStart line args p = of_closed_by line p (close_here p)
of_line_behind SectionEnd line args p = of_closed_by line p (close_here p)

of_values_behind : (kind : LineKind) (p : Position) → IsOfText (values_behind kind p)
of_values_behind OptionLine p = of_values p
of_values_behind SectionStart p = of_values p
of_values_behind SectionEnd p = record { fact = refl }

of_nesting : (opens : List Open) (line : ℕ) (kind : LineKind) (key : List ℕ) → IsOfText (open_behind opens line kind key)
of_nesting opens line OptionLine key = record { fact = refl }
of_nesting opens line SectionStart key =
    choose (nat_le NESTING_LIMIT (length opens)) (Err (fault_at kinds.TooDeep line)) (Ok (record { key = key; line = line } ∷ opens)) (record { fact = refl }) (record { fact = refl })
of_nesting [] line SectionEnd key = record { fact = refl }
of_nesting (o ∷ os) line SectionEnd key = choose (str_eq_ignore_ascii_case o.key key) (Ok os) (Err (fault_at kinds.WrongEnd line)) (record { fact = refl }) (record { fact = refl })

of_behind : (opens : List Open) (line : ℕ) (head : Head) (p : Position) → IsOfText (statement_behind opens line head p)
unfolding statement_behind
of_behind opens line head p =
    bind (open_behind opens line head.kind head.key) _ (of_nesting opens line head.kind head.key)
    (λ further. bind (values_behind head.kind p) _ (of_values_behind head.kind p)
    (λ values. bind (line_behind head.kind line values.0 values.1) _ (of_line_behind head.kind line values.0 values.1) (λ next. (record { fact = refl }))))

of_statement : (opens : List Open) (line : ℕ) (head : Option (Head × List ℕ)) → IsOfText (statement_from opens line head)
of_statement opens line None = record { fact = refl }
of_statement opens line (Some head) = of_behind opens line head.0 (behind_blanks (at line head.1))

of_line_from : (opens : List Open) (line : ℕ) (cs : List ℕ) → IsOfText (line_from opens line cs)
of_line_from opens line [] = record { fact = refl }
of_line_from opens line (c ∷ cs) =
    choose (is_line_end (c ∷ cs)) (Ok (Some ([], stand opens (next_line (at line (c ∷ cs)))))) (statement_from opens line (head_at (c ∷ cs))) (record { fact = refl }) (of_statement opens line (head_at (c ∷ cs)))

of_line : (s : Stand) → IsOfText (line_at s)
unfolding line_at
of_line s = of_line_from s.opens s.place.line s.place.rest

of_closed : (opens : List Open) (statements : List Statement) → IsOfText (closed opens statements)
of_closed [] statements = record { fact = refl }
of_closed (o ∷ os) statements = record { fact = refl }

of_statements : (p : Position) → IsOfText (statements_at p)
unfolding statements_at
of_statements p = bind (repeated line_at (suc (length p.rest)) (stand [] p)) _ (of_repeated line_at of_line _ (stand [] p)) (λ read. of_closed read.1.opens read.0)

of_tests : (short utf8 : Bool) (line : ℕ) (bytes : List ℕ) → IsOfText (unless ((short, fault_at kinds.TooLong 0) ∷ (utf8, fault_at kinds.NotText line) ∷ []) bytes)
of_tests true true line bytes = record { fact = refl }
of_tests true false line bytes = record { fact = refl }
of_tests false utf8 line bytes = record { fact = refl }

pub of_text : (bytes : List ℕ) → IsOfText (statements_of_text bytes)
unfolding statements_of_text
of_text bytes =
    bind (unless ((nat_le (length bytes) FILE_LIMIT, fault_at kinds.TooLong 0) ∷ (is_utf8 bytes, fault_at kinds.NotText (bad_line bytes)) ∷ []) bytes) _
    (of_tests (nat_le (length bytes) FILE_LIMIT) (is_utf8 bytes) (bad_line bytes) bytes) (λ text. of_statements (behind_blanks (at 1 (chars text))))

of_kind : {A : Type 0} (k : ConfKind) (f : ConfFault) (read : Result A ConfFault) → f.kind ≡ k → IsOfText read → Refuses (unless_memory k f) read → is_read_kind f.kind ≡ false
of_kind kinds.Memory f read e t h = ap is_read_kind e
of_kind kinds.ReadFault f read e t h = sym (ap is_read_fault h) ∙ t.fact
of_kind _ f read e t h = ap is_read_kind e

-- what is given of a text isn't the fault of a source
pub of_given : {X Y : Type 0} (view : X → Y) (r : Result X ConfFault) (read : Result Y ConfFault) → IsOfText read → Gives view conf_fault r read → is_read_fault r ≡ false
of_given view (Ok x) read t h = refl
of_given view (Err f) read t h = of_kind f.kind f read refl t h

-- and it is the fault of the text
pub of_source : {X Y : Type 0} (view : X → Y) (r : Result X ConfFault) (read : Result Y ConfFault) → IsOfText read → Gives view conf_fault r read → Gives view text_fault r read
of_source view (Ok x) read t h = h
of_source view (Err f) read t h =
    let no = of_given view (Err f) read t h in
    subst (λ (b : Bool). Refuses (if b then None else conf_fault f) read) (sym no) h

-- where no source failed, the line of its fault needs no proof
pub no_source_line : {X : Type 0} (r : Result X ConfFault) → is_read_fault r ≡ false → IfErr r (λ fault. is_read_kind fault.kind ≡ true → fault.line ≡ 0)
no_source_line (Ok x) unread = tt
no_source_line (Err f) unread = λ failed. let never : true ≡ false = sym failed ∙ unread in absurd (cc never)
