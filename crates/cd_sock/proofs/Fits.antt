-- The lists of a command fit the types.
use Rattle.cd_reading.specs.First.{unless, ◌>>=◌}
use Rattle.cd_reading.specs.Gives.{Gives}
use Rattle.cd_sock.specs.Arguments.{arguments_of, from_first_plain, is_keyword, last_interval, leading_options}
use Rattle.cd_sock.specs.Faults.{line_fault, need, of_words, with_fault}
use Rattle.cd_sock.specs.Meaning.{Blank, Flush, GetVal, ListVal, ListsFit, PutVal, Request, at_moment, command_at, flush, get_val, has_interval, identifier, is_blank_byte, is_blank_line, is_flush_option, is_interval, last_timeout, list_at, list_val, names_in, put_known, put_parts, put_val, request_of, request_of_text, request_of_words, without_return}
use Rattle.cd_sock.specs.Values.{Reading, change_of, count_of, has_count, has_time, has_values, is_unknown, reading, value_at, value_of, value_texts}
use Rattle.cd_sock.specs.declared.command.Command.{Command}
use Rattle.cd_sock.specs.declared.fault.LineFault.TheVariants.{BadOption, BadTime, BadValue, LineTooLong, NotUtf8, UnknownCommand, UnknownType, WrongNumberOfValues}
use Rattle.cd_sock.specs.declared.fault.LineFault.{LineFault}
use Rattle.cd_sock.specs.declared.lines.TheConstants.{LINE_LIMIT}
use Rattle.cd_text.specs.Millionths.{bounded_millionths, ones_limit}
use Rattle.cd_text.specs.Number.{denominator, is_number, number_of, numerator, parts_of, value, with_sign}
use Rattle.cd_text.specs.Quoting.{words_of}
use Rattle.cd_text.specs.declared.fault.NumFault.TheVariants.{BadNumber, OutOfRange}
use Rattle.cd_text.specs.declared.fault.NumFault.{NumFault}
use Rattle.cd_text.specs.declared.numbers.TheConstants.{DIGITS_LIMIT}
use Rattle.cd_text.specs.declared.word.Word.{Word}
use Rattle.cd_types.specs.Types.{fits, fits_set, fits_source, is_in_range, is_same_kind, kind_of, set_named}
use Rattle.cd_value.specs.Identifier.{Fields}
use Rattle.cd_value.specs.declared.data.DataSet.{DataSet}
use Rattle.cd_value.specs.declared.data.DataSource.{DataSource}
use Rattle.cd_value.specs.declared.data.DsType.TheVariants as kinds
use Rattle.cd_value.specs.declared.data.DsType.{DsType}
use Rattle.cd_value.specs.declared.data.Value.TheVariants.{Absolute, Counter, Derive, Gauge}
use Rattle.cd_value.specs.declared.data.Value.{Value}
use Rattle.cd_value.specs.declared.data.ValueList.{ValueList}
use Rattle.cd_value.specs.declared.numbers.TheConstants.{NUMBER_LIMIT}
use Rattle.std.proofs.Common.{Bool, Err, List, None, Ok, Option, Result, Some, [], ap, arith, cond, false, length, map, refl, subst, suc, sym, true, zero, ℕ, ℤ, ◌&&◌, ◌*◌, ◌+◌, ◌/◌, ◌^◌, ◌∙◌, ◌∷◌, ◌≡◌, ◌≤◌}
use Rattle.std.proofs.Math.Nat.{div-le_of_le-mul}
use Rattle.std.proofs.lemmas.Bool.{and_from, and_parts, cond-false, cond-true, eq-eqb, eqb-true, le-leb, ltb-false}
use Rattle.std.specs.List.{cons_option, filter_map, find, list_all, zip}
use Rattle.std.specs.Prelude.{IfOk, codes, is_some, nat_abs, nat_le, nat_lt, option_map, unwrap_or, ◌==◌}
use Rattle.std.specs.Result.{result_ok}
use Rattle.std.specs.Str.{bytes_eq, is_utf8}

-- ---- a value

-- a number of millionths is at most NUMBER_LIMIT
abbrev IsSmall : Result ℤ NumFault → Type 0
IsSmall (Ok level) = nat_abs level ≤ NUMBER_LIMIT
IsSmall (Err f) = Unit {0}

signed_small : (is_negative : Bool) (n : ℕ) → n ≤ NUMBER_LIMIT → IsSmall (with_sign is_negative (Some n))
signed_small true zero le = le
signed_small true (suc n) le = le
signed_small false n le = le

millionths_small : (is_negative : Bool) (n d : ℕ) → IsSmall (with_sign is_negative (bounded_millionths n d))
unfolding bounded_millionths
millionths_small is_negative n d = by (nat_lt (ones_limit * d) n) refl
  where
    by : (t : Bool) → nat_lt (ones_limit * d) n ≡ t → IsSmall (with_sign is_negative (cond t None (Some (n * 10 ^ 6 / d))))
    by true e = tt
    by false e =
        let le : n ≤ ones_limit * d = ltb-false (ones_limit * d) n e in
        signed_small is_negative (n * 10 ^ 6 / d) (div-le_of_le-mul d (omega arith))

number_small : (text : List ℕ) → IsSmall (number_of text)
unfolding number_of
number_small text = by (is_number (parts_of text)) (nat_lt DIGITS_LIMIT (length (parts_of text).whole + length (parts_of text).fraction))
  where
    by : (a b : Bool) → IsSmall (cond a (cond b (Err OutOfRange) (with_sign (parts_of text).is_negative (bounded_millionths (numerator (parts_of text)) (denominator (parts_of text))))) (Err BadNumber))
    by true true = tt
    by true false = millionths_small (parts_of text).is_negative (numerator (parts_of text)) (denominator (parts_of text))
    by false b = tt

-- a value that was read is of the kind, and in range
abbrev IsOfKind : DsType → Option Value → Type 0
IsOfKind kind None = Unit {0}
IsOfKind kind (Some value) = (is_same_kind kind (kind_of value) && is_in_range value) ≡ true

value_is_of_kind : (kind : DsType) (text : List ℕ) → IsOfKind kind (value_of kind text)
value_is_of_kind kinds.Counter text = by (count_of text)
  where
    by : (o : Option ℕ) → IsOfKind kinds.Counter (option_map Counter o)
    by None = tt
    by (Some n) = refl
value_is_of_kind kinds.Absolute text = by (count_of text)
  where
    by : (o : Option ℕ) → IsOfKind kinds.Absolute (option_map Absolute o)
    by None = tt
    by (Some n) = refl
value_is_of_kind kinds.Derive text = by (change_of text)
  where
    by : (o : Option ℤ) → IsOfKind kinds.Derive (option_map Derive o)
    by None = tt
    by (Some n) = refl
value_is_of_kind kinds.Gauge text = by (is_unknown text) (number_of text) (number_small text)
  where
    by : (b : Bool) (r : Result ℤ NumFault) → IsSmall r → IsOfKind kinds.Gauge (option_map Gauge (cond b (Some None) (option_map Some (result_ok r))))
    by true r h = refl
    by false (Ok level) h = le-leb (nat_abs level) (10 ^ 30) h
    by false (Err f) h = tt

-- ---- the values of a word

-- the values that texts are, where each is one
values_fit : (sources : List DataSource) (texts : List (List ℕ)) → length texts ≡ length sources → list_all (λ pair. is_some (value_at pair)) (zip sources texts) ≡ true
    → (length (filter_map value_at (zip sources texts)) ≡ length sources) × (list_all (λ pair. fits_source pair.0 pair.1) (zip sources (filter_map value_at (zip sources texts))) ≡ true)
values_fit [] texts same given = (refl, refl)
values_fit (source ∷ sources) [] same given = absurd (omega arith)
values_fit (source ∷ sources) (text ∷ texts) same given =
    let parts = and_parts (is_some (value_of source.kind text)) (list_all (λ pair. is_some (value_at pair)) (zip sources texts)) given in
    by (value_of source.kind text) (value_is_of_kind source.kind text) parts.0 (values_fit sources texts (omega arith) parts.1)
  where
    rest : List Value
    rest = filter_map value_at (zip sources texts)

    by : (o : Option Value) → IsOfKind source.kind o → is_some o ≡ true → (length rest ≡ length sources) × (list_all (λ pair. fits_source pair.0 pair.1) (zip sources rest) ≡ true)
        → (length (cons_option o rest) ≡ suc (length sources)) × (list_all (λ pair. fits_source pair.0 pair.1) (zip (source ∷ sources) (cons_option o rest)) ≡ true)
    by None kind some more = (cc, cc)
    by (Some value) kind some more = (ap suc more.0, and_from (fits_source source value) (list_all (λ pair. fits_source pair.0 pair.1) (zip sources rest)) kind more.1)

found : {X : Type 0} (p : X → Bool) (xs : List X) (x : X) → find p xs ≡ Some x → p x ≡ true
found {X} p [] x e = cc
found {X} p (y ∷ xs) x e = by (p y) refl (found p xs x)
  where
    by : (t : Bool) → p y ≡ t → (find p xs ≡ Some x → p x ≡ true) → p x ≡ true
    by true h more =
        let first : Some y ≡ Some x = sym (cond-true (p y) (Some y) (find p xs) h) ∙ e in
        let same : y ≡ x = cc in
        ap p (sym same) ∙ h
    by false h more = more (sym (cond-false (p y) (Some y) (find p xs) h) ∙ e)

-- the list of a word with as many values as the type has sources, each of its kind
list_fits : (types : List DataSet) (id : Fields) (set : DataSet) (word : Word) (now interval : ℕ) → set_named id.type_name types ≡ Some set → has_count set.sources word ≡ true → has_values set.sources word ≡ true
    → fits types (list_at now interval id (reading set.sources word)) ≡ true
unfolding fits_set
list_fits types id set word now interval named count given =
    let values = values_fit set.sources (value_texts word.text) (eqb-true (length (value_texts word.text)) (length set.sources) count) given in
    let list : ValueList = list_at now interval id (reading set.sources word) in
    ap (λ (o : Option DataSet). elim o as (λ o. Bool) [ None ↦ false | Some s ↦ fits_set s list ]) named
    ∙ and_from _ _ (and_from (bytes_eq set.name id.type_name) (length set.sources == length list.values) (found (λ s. bytes_eq s.name id.type_name) types set named) (eq-eqb (length set.sources) (length list.values) (sym values.0))) values.1

lists_fit_all : (types : List DataSet) (id : Fields) (set : DataSet) (words : List Word) (now interval : ℕ) → set_named id.type_name types ≡ Some set → list_all (has_count set.sources) words ≡ true
    → list_all (has_values set.sources) words ≡ true → list_all (fits types) (map (list_at now interval id) (map (reading set.sources) words)) ≡ true
lists_fit_all types id set [] now interval named count given = refl
lists_fit_all types id set (word ∷ words) now interval named count given =
    let counts = and_parts (has_count set.sources word) (list_all (has_count set.sources) words) count in
    let values = and_parts (has_values set.sources word) (list_all (has_values set.sources) words) given in
    and_from _ _ (list_fits types id set word now interval named counts.0 values.0) (lists_fit_all types id set words now interval named counts.1 values.1)

-- ---- a line

-- what a line asks for has values that fit a known type, and is nothing only where B holds
abbrev pub Stands : List DataSet → Type 0 → Request → Type 0
Stands types B Blank = B
Stands types B (PutVal id own readings) =
    (set : DataSet) × (words : List Word) × (set_named id.type_name types ≡ Some set) × (readings ≡ map (reading set.sources) words) × (list_all (has_count set.sources) words ≡ true) × (list_all (has_values set.sources) words ≡ true)
Stands types B _ = Unit {0}

then_stands : {A F : Type 0} (P : Request → Type 0) (read : Result A F) (next : A → Result Request F) → IfOk read (λ x. IfOk (next x) P) → IfOk (read >>= next) P
then_stands {A} {F} P (Ok x) next h = h
then_stands {A} {F} P (Err f) next h = tt

each : {A F : Type 0} (P : A → Type 0) (read : Result A F) → ((x : A) → read ≡ Ok x → P x) → IfOk read P
each {A} {F} P (Ok x) h = h x refl
each {A} {F} P (Err f) h = tt

unless_stands : (P : Request → Type 0) (a b n v : Bool) (request : Request) → (n ≡ true → v ≡ true → P request)
    → IfOk (unless ((a, BadOption) ∷ (b, BadTime) ∷ (n, WrongNumberOfValues) ∷ (v, BadValue) ∷ []) request) P
unless_stands P true true true true request h = h refl refl
unless_stands P true true true false request h = tt
unless_stands P true true false v request h = tt
unless_stands P true false n v request h = tt
unless_stands P false b n v request h = tt

put_known_stands : (types : List DataSet) (B : Type 0) (id : Fields) (set : DataSet) (options values : List Word) → set_named id.type_name types ≡ Some set → IfOk (put_known id set.sources options values) (Stands types B)
unfolding put_known
put_known_stands types B id set options values named =
    unless_stands (Stands types B) (list_all is_interval options) (list_all has_interval options && list_all has_time values) (list_all (has_count set.sources) values) (list_all (has_values set.sources) values)
    (PutVal id (last_interval options) (map (reading set.sources) values)) (λ count given. (set, values, named, refl, count, given))

need_is : {A : Type 0} (f : LineFault) (o : Option A) (x : A) → need f o ≡ Ok x → o ≡ Some x
need_is {A} f None x e = cc
need_is {A} f (Some y) x e = cc

put_parts_stands : (types : List DataSet) (B : Type 0) (name : List ℕ) (options values : List Word) → IfOk (put_parts types name options values) (Stands types B)
unfolding put_parts
put_parts_stands types B name options [] = tt
put_parts_stands types B name options (value ∷ values) =
    then_stands (Stands types B) (identifier name) _
    (each _ (identifier name) (λ id e. then_stands (Stands types B) (need UnknownType (set_named id.type_name types)) _
    (each _ (need UnknownType (set_named id.type_name types)) (λ set named. put_known_stands types B id set options (value ∷ values) (need_is UnknownType (set_named id.type_name types) set named)))))

put_val_stands : (types : List DataSet) (B : Type 0) (words : List Word) → IfOk (put_val types words) (Stands types B)
unfolding put_val
put_val_stands types B [] = tt
put_val_stands types B (name ∷ more) = put_parts_stands types B name.text (leading_options more) (from_first_plain more)

get_val_stands : (types : List DataSet) (B : Type 0) (words : List Word) → IfOk (get_val words) (Stands types B)
unfolding get_val
get_val_stands types B [] = tt
get_val_stands types B (name ∷ more) = then_stands (Stands types B) (identifier name.text) _ (each _ (identifier name.text) (λ id e. by (length more == 0) id))
  where
    by : (b : Bool) (id : Fields) → IfOk (unless ((b, BadOption) ∷ []) (GetVal id)) (Stands types B)
    by true id = tt
    by false id = tt

list_val_stands : (types : List DataSet) (B : Type 0) (words : List Word) → IfOk (list_val words) (Stands types B)
unfolding list_val
list_val_stands types B words = by (length words == 0)
  where
    by : (b : Bool) → IfOk (unless ((b, BadOption) ∷ []) ListVal) (Stands types B)
    by true = tt
    by false = tt

flush_stands : (types : List DataSet) (B : Type 0) (options : List Word) → IfOk (flush options) (Stands types B)
unfolding flush
flush_stands types B options = then_stands (Stands types B) (names_in options) _ (each _ (names_in options) (λ names e. by (list_all is_flush_option options) names))
  where
    by : (b : Bool) (names : List (List ℕ))
        → IfOk (unless ((b, BadOption) ∷ []) names >>= λ names. last_timeout options >>= λ timeout. Ok (Flush (record { plugins = arguments_of (codes "plugin") options; names = names; timeout = timeout }))) (Stands types B)
    by true names = then_stands (Stands types B) (last_timeout options) _ (each _ (last_timeout options) (λ timeout e. tt))
    by false names = tt

words_stand : (types : List DataSet) (B : Type 0) (words : List Word) → IfOk (request_of_words types words) (Stands types B)
unfolding request_of_words
words_stand types B [] = tt
words_stand types B (name ∷ more) = by (is_keyword (codes "PUTVAL") name.text) (is_keyword (codes "GETVAL") name.text) (is_keyword (codes "LISTVAL") name.text) (is_keyword (codes "FLUSH") name.text)
  where
    by : (p g l f : Bool) → IfOk (cond p (put_val types more) (cond g (get_val more) (cond l (list_val more) (cond f (flush more) (Err UnknownCommand))))) (Stands types B)
    by true g l f = put_val_stands types B more
    by false true l f = get_val_stands types B more
    by false false true f = list_val_stands types B more
    by false false false true = flush_stands types B more
    by false false false false = tt

text_stands : (types : List DataSet) (B : Type 0) (text : List ℕ) → (list_all is_blank_byte text ≡ true → B) → IfOk (request_of_text types text) (Stands types B)
unfolding request_of_text
text_stands types B text blank = by (list_all is_blank_byte text) refl (is_utf8 text)
  where
    by : (b : Bool) → list_all is_blank_byte text ≡ b → (u : Bool) → IfOk (cond b (Ok Blank) (unless ((u, NotUtf8) ∷ []) text >>= λ text. with_fault of_words (words_of text) >>= λ words. request_of_words types words)) (Stands types B)
    by true is u = blank is
    by false is true = then_stands (Stands types B) (with_fault of_words (words_of text)) _ (each _ (with_fault of_words (words_of text)) (λ words e. words_stand types B words))
    by false is false = tt

pub line_stands : (types : List DataSet) (line : List ℕ) → IfOk (request_of types line) (Stands types (is_blank_line line ≡ true))
unfolding request_of
line_stands types line = by (nat_le (length line) LINE_LIMIT) refl
  where
    by : (b : Bool) → nat_le (length line) LINE_LIMIT ≡ b
        → IfOk (unless ((b, LineTooLong) ∷ []) line >>= λ line. request_of_text types (without_return line)) (Stands types (is_blank_line line ≡ true))
    by true short = text_stands types (is_blank_line line ≡ true) (without_return line) (λ blank. and_from (nat_le (length line) LINE_LIMIT) (list_all is_blank_byte (without_return line)) short blank)
    by false long = tt

request_fits : (types : List DataSet) (B : Type 0) (now interval : ℕ) (request : Request) → Stands types B request → ListsFit types (command_at now interval request)
request_fits types B now interval Blank h = tt
request_fits types B now interval (GetVal id) h = tt
request_fits types B now interval ListVal h = tt
request_fits types B now interval (Flush request) h = tt
request_fits types B now interval (PutVal id own readings) h =
    ap (λ (rs : List Reading). list_all (fits types) (map (list_at now (unwrap_or own interval) id) rs)) h.3
    ∙ lists_fit_all types id h.0 h.1 now (unwrap_or own interval) h.2 h.4 h.5

command_fits : (types : List DataSet) (B : Type 0) (now interval : ℕ) (read : Result Request LineFault) (command : Command) → IfOk read (Stands types B) → at_moment now interval read ≡ Ok command → ListsFit types command
command_fits types B now interval (Ok request) command stands e =
    let same : command_at now interval request ≡ command = cc in
    subst (λ (c : Command). ListsFit types c) same (request_fits types B now interval request stands)
command_fits types B now interval (Err f) command stands e = absurd cc

-- the lists of a line's command fit the types, whenever it is read

pub read_fits : (types : List DataSet) (now interval : ℕ) (text : List ℕ) (result : Result Command LineFault) → Gives (λ command. command) line_fault result (at_moment now interval (request_of_text types text))
    → IfOk result (λ command. ListsFit types command)
read_fits types now interval text (Ok command) given = command_fits types (Unit {0}) now interval (request_of_text types text) command (text_stands types (Unit {0}) text (λ e. tt)) given
read_fits types now interval text (Err f) given = tt
