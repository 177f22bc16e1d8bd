-- What a line means, read step by step.
use Rattle.cd_reading.specs.First.{unless, ◌>>=◌}
use Rattle.cd_reading.specs.Gives.{Refuses}
use Rattle.cd_sock.specs.Arguments.{last_interval}
use Rattle.cd_sock.specs.Faults.{line_fault, of_words, with_fault}
use Rattle.cd_sock.specs.Meaning.{PutVal, Request, at_moment, command_at, has_interval, interval_in, is_blank_byte, is_interval, list_at, lists_or_fault, put_known, put_parts, request_of_text, request_of_words, value_fault}
use Rattle.cd_sock.specs.Values.{has_count, has_time, has_values, is_whole, reading}
use Rattle.cd_sock.specs.declared.command.Command.TheVariants as commands
use Rattle.cd_sock.specs.declared.command.Command.{Command}
use Rattle.cd_sock.specs.declared.fault.LineFault.TheVariants.{BadOption, BadTime, BadValue, NotUtf8, UnknownType, WrongNumberOfValues}
use Rattle.cd_sock.specs.declared.fault.LineFault.{LineFault}
use Rattle.cd_text.specs.Quoting as quoting
use Rattle.cd_text.specs.Quoting.{words_of}
use Rattle.cd_text.specs.declared.word.Word.{Word}
use Rattle.cd_text.specs.declared.word.WordFault.TheVariants.{Memory, Unterminated}
use Rattle.cd_text.specs.declared.word.WordFault.{WordFault}
use Rattle.cd_types.specs.Types.{set_named}
use Rattle.cd_value.specs.Identifier.{Fields, read_identifier}
use Rattle.cd_value.specs.declared.data.DataSet.{DataSet}
use Rattle.cd_value.specs.declared.data.DataSource.{DataSource}
use Rattle.cd_value.specs.declared.data.ValueList.{ValueList}
use Rattle.std.proofs.Common.{Bool, Err, List, None, Ok, Option, Result, Some, [], ap, cond, false, length, map, refl, sym, true, ℕ, ◌&&◌, ◌∙◌, ◌∷◌, ◌≡◌}
use Rattle.std.proofs.lemmas.Bool.{false_from_ne_true}
use Rattle.std.proofs.lemmas.Simd.{map-map}
use Rattle.std.proofs.lemmas.Str.{IsUtf8-from_is_utf8, is_utf8-from_IsUtf8}
use Rattle.std.specs.List.{list_all}
use Rattle.std.specs.Prelude.{IsUtf8, ok_or, unwrap_or, ◌==◌}
use Rattle.std.specs.Str.{is_utf8}

-- ---- faults that go on

-- a fault of what is read is the fault of all that is made of it
pub refuses_on : {A B F : Type 0} (f : Option F) (read : Result A F) (next : A → Result B F) (total : Result B F) → Refuses f read → total ≡ (read >>= next) → Refuses f total
refuses_on {A} {B} {F} None read next total h same = tt
refuses_on {A} {B} {F} (Some f) read next total h same = same ∙ ap (λ (r : Result A F). r >>= next) h

-- a fault of the words is one of the line
pub refuses_words : {B : Type 0} (e : WordFault) (read : Result (List Word) WordFault) (next : List Word → Result B LineFault) (total : Result B LineFault) → Refuses (quoting.fault e) read
    → total ≡ (with_fault of_words read >>= next) → Refuses (line_fault (of_words e)) total
refuses_words {B} Unterminated read next total h same = same ∙ ap (λ (r : Result (List Word) WordFault). with_fault of_words r >>= next) h
refuses_words {B} Memory read next total h same = tt

-- ---- PUTVAL

and_parts_of_all : (a b : Bool) (x y : Bool) → ((a && b) && (x && y)) ≡ ((a && x) && (b && y))
and_parts_of_all true true x y = refl
and_parts_of_all true false true y = refl
and_parts_of_all true false false y = refl
and_parts_of_all false b x y = refl

all_both : {X : Type 0} (p q : X → Bool) (xs : List X) → list_all (λ x. p x && q x) xs ≡ (list_all p xs && list_all q xs)
all_both {X} p q [] = refl
all_both {X} p q (x ∷ xs) = ap (λ (b : Bool). (p x && q x) && b) (all_both p q xs) ∙ and_parts_of_all (p x) (q x) (list_all p xs) (list_all q xs)

-- words have no fault where all have times, numbers of values and values
all_whole : (sources : List DataSource) (words : List Word) → list_all (is_whole sources) words ≡ ((list_all has_time words && list_all (has_count sources) words) && list_all (has_values sources) words)
all_whole sources words =
    all_both (λ word. has_time word && has_count sources word) (has_values sources) words
    ∙ ap (λ (b : Bool). b && list_all (has_values sources) words) (all_both has_time (has_count sources) words)

-- the command of value lists
abbrev put_command : Result (List ValueList) LineFault → Result Command LineFault
put_command read = read >>= λ lists. Ok (commands.PutVal lists)

put_cases : (t n v : Bool) (request : Request) (lists : List ValueList) (now global : ℕ) → command_at now global request ≡ commands.PutVal lists
    → at_moment now global (unless ((true, BadOption) ∷ (true && t, BadTime) ∷ (n, WrongNumberOfValues) ∷ (v, BadValue) ∷ []) request)
    ≡ put_command (ok_or (cond ((t && n) && v) (Some lists) None) (cond t (cond n BadValue WrongNumberOfValues) BadTime))
put_cases false n v request lists now global e = refl
put_cases true false v request lists now global e = refl
put_cases true true false request lists now global e = refl
put_cases true true true request lists now global e = ap (λ (c : Command). Ok c) e

interval_cases : (a b : Bool) (t own : ℕ) → unless ((a, BadOption) ∷ (b, BadTime) ∷ []) t ≡ Ok own → (a ≡ true) × (b ≡ true) × (t ≡ own)
interval_cases true true t own e = (refl, refl, cc)
interval_cases true false t own e = (cc, cc, cc)
interval_cases false b t own e = (cc, cc, cc)

-- with a good interval the command is that of the lists
pub put_lists : (id : Fields) (sources : List DataSource) (options values : List Word) (now global own : ℕ) → interval_in options global ≡ Ok own
    → at_moment now global (put_known id sources options values) ≡ put_command (lists_or_fault sources id now own values)
unfolding put_known
put_lists id sources options values now global own e =
    let good = interval_cases (list_all is_interval options) (list_all has_interval options) (unwrap_or (last_interval options) global) own e in
    let lists : List ValueList = map (λ word. list_at now own id (reading sources word)) values in
    let request : Request = PutVal id (last_interval options) (map (reading sources) values) in
    let same : command_at now global request ≡ commands.PutVal lists
    = ap (λ (ls : List ValueList). commands.PutVal ls) (map-map (list_at now (unwrap_or (last_interval options) global) id) (reading sources) values)
    ∙ ap (λ (t : ℕ). commands.PutVal (map (λ word. list_at now t id (reading sources word)) values)) good.2 in
    ap (λ (a : Bool). at_moment now global (unless ((a, BadOption) ∷ (list_all has_interval options && list_all has_time values, BadTime) ∷ (list_all (has_count sources) values, WrongNumberOfValues) ∷ (list_all (has_values sources) values, BadValue) ∷ []) request)) good.0
    ∙ ap (λ (b : Bool). at_moment now global (unless ((true, BadOption) ∷ (b && list_all has_time values, BadTime) ∷ (list_all (has_count sources) values, WrongNumberOfValues) ∷ (list_all (has_values sources) values, BadValue) ∷ []) request)) good.1
    ∙ put_cases (list_all has_time values) (list_all (has_count sources) values) (list_all (has_values sources) values) request lists now global same
    ∙ ap (λ (b : Bool). put_command (ok_or (cond b (Some lists) None) (value_fault sources values))) (sym (all_whole sources values))

-- the type isn't known
pub unknown : (types : List DataSet) (name : List ℕ) (options values : List Word) (id : Fields) → (length values == 0) ≡ false → read_identifier name ≡ Ok id → None ≡ set_named id.type_name types
    → put_parts types name options values ≡ Err UnknownType
unfolding put_parts
unknown types name options [] id some read none = cc
unknown types name options (value ∷ values) id some read none = rw (read, ← none) refl

-- the type is known
pub known : (types : List DataSet) (name : List ℕ) (options values : List Word) (id : Fields) (set : DataSet) → (length values == 0) ≡ false → read_identifier name ≡ Ok id → Some set ≡ set_named id.type_name types
    → put_parts types name options values ≡ put_known id set.sources options values
unfolding put_parts
known types name options [] id set some read is = cc
known types name options (value ∷ values) id set some read is = rw (read, ← is) refl

-- ---- the text of a line

pub not_utf8 : (types : List DataSet) (text : List ℕ) → list_all is_blank_byte text ≡ false → (IsUtf8 text → ⊥) → request_of_text types text ≡ Err NotUtf8
unfolding request_of_text
not_utf8 types text some bad =
    let bad_utf8 : is_utf8 text ≡ false = false_from_ne_true (is_utf8 text) (λ e. bad (IsUtf8-from_is_utf8 text e)) in
    rw (some, bad_utf8) refl

in_words : (types : List DataSet) (text : List ℕ) → list_all is_blank_byte text ≡ false → IsUtf8 text → request_of_text types text ≡ (with_fault of_words (words_of text) >>= request_of_words types)
unfolding request_of_text
in_words types text some good =
    let utf8 : is_utf8 text ≡ true = is_utf8-from_IsUtf8 text good in
    rw (some, utf8) refl

at_moment_next : {A : Type 0} (now interval : ℕ) (read : Result A LineFault) (next : A → Result Request LineFault) → at_moment now interval (read >>= next) ≡ (read >>= λ x. at_moment now interval (next x))
at_moment_next {A} now interval (Ok x) next = refl
at_moment_next {A} now interval (Err f) next = refl

-- the command of a text is that of its words
pub of_its_words : (types : List DataSet) (text spoken : List ℕ) (now interval : ℕ) → list_all is_blank_byte text ≡ false → (spoken ≡ text) × IsUtf8 text
    → at_moment now interval (request_of_text types text) ≡ (with_fault of_words (words_of spoken) >>= λ words. at_moment now interval (request_of_words types words))
of_its_words types text spoken now interval some utf8 =
    ap (at_moment now interval) (in_words types text some utf8.1) ∙ at_moment_next now interval (with_fault of_words (words_of text)) (request_of_words types)
    ∙ ap (λ (t : List ℕ). with_fault of_words (words_of t) >>= λ words. at_moment now interval (request_of_words types words)) (sym utf8.0)
