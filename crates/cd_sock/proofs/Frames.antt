-- Printed replies as their clients read them.
use Rattle.cd_sock.proofs.Pieces.{cons_in, empty_in, lines_at, unfinished_at}
use Rattle.cd_sock.specs.Framing.{AreFramed, HasStatus, IsFramed, is_one_line, is_space, lines_told, status, status_word}
use Rattle.cd_sock.specs.Lines.{IsInLine, is_newline, lines, unfinished, whole_lines}
use Rattle.cd_sock.specs.Replies.{fault_text, flushed_line, rate_lines, rate_or_nan, row_line, values_found, with_newline}
use Rattle.cd_sock.specs.declared.fault.LineFault.TheVariants as faults
use Rattle.cd_sock.specs.declared.fault.LineFault.{LineFault}
use Rattle.cd_value.specs.Print.{digit, number_or_nan, six_digits, unsigned_text}
use Rattle.cd_value.specs.Rates.{millionths}
use Rattle.cd_value.specs.declared.data.Rate.{Rate}
use Rattle.cd_value.specs.declared.numbers.TheConstants.{SECOND}
use Rattle.std.proofs.Common.{Bool, List, None, Option, Some, [], ap, append_assoc, arith, cond, false, get_or, length, lit<, negsuc, not, pos, refl, subst, suc, sym, take, true, zero, ℕ, ℤ, ◌%◌, ◌++◌, ◌+◌, ◌/◌, ◌<◌, ◌^◌, ◌∙◌, ◌∷◌, ◌≡◌, ◌≤◌}
use Rattle.std.proofs.Math.Seq.{take-append_seam}
use Rattle.std.proofs.lemmas.Bool.{and_from, and_parts, cond-false, lt-ltb, ne_eqb, not-true, or_right}
use Rattle.std.proofs.lemmas.Fmt.{decimal_is_IsNumeral}
use Rattle.std.proofs.lemmas.List.Folds.{list_all-append, list_any-append}
use Rattle.std.proofs.lemmas.List.{append-nil}
use Rattle.std.proofs.lemmas.Str.Parse.{digit_at, without_leading_plus_none}
use Rattle.std.specs.Fmt.{decimal, digit_glyph, digits, digits_onto}
use Rattle.std.specs.List.{flat_map, list_all, list_any, position_or_len}
use Rattle.std.specs.Prelude.{codes, ◌==◌}
use Rattle.std.specs.Str.Parse.{IsNumeral, digits_value, signed_digits_value, starts_with_minus, without_leading_sign}

-- ---- texts without a byte

abbrev lacks : ℕ → List ℕ → Bool
lacks byte text = list_all (λ b. not (b == byte)) text

lacks_both : (byte : ℕ) (xs ys : List ℕ) → lacks byte xs ≡ true → lacks byte ys ≡ true → lacks byte (xs ++ ys) ≡ true
lacks_both byte xs ys p q = list_all-append (λ b. not (b == byte)) xs ys ∙ and_from (lacks byte xs) (lacks byte ys) p q

-- a decimal digit is no byte below 48
glyph_is_no : (byte n : ℕ) → byte < 48 → not (digit_glyph false (n % 10) == byte) ≡ true
glyph_is_no byte n low =
    ap (λ (b : Bool). not (cond b (48 + n % 10) (cond false (55 + n % 10) (87 + n % 10)) == byte)) (lt-ltb (n % 10) 10 (omega arith))
    ∙ ap not (ne_eqb (48 + n % 10) byte (λ h. omega arith))

onto_lacks : (byte k n : ℕ) (acc : List ℕ) → byte < 48 → lacks byte acc ≡ true → lacks byte (digits_onto k 10 false n acc) ≡ true
onto_lacks byte zero n acc low h = h
onto_lacks byte (suc k) n acc low h =
    let more : lacks byte (digit_glyph false (n % 10) ∷ acc) ≡ true = and_from _ (lacks byte acc) (glyph_is_no byte n low) h in
    by (n / 10 == 0) more (onto_lacks byte k (n / 10) (digit_glyph false (n % 10) ∷ acc) low more)
  where
    by : (b : Bool) → lacks byte (digit_glyph false (n % 10) ∷ acc) ≡ true → lacks byte (digits_onto k 10 false (n / 10) (digit_glyph false (n % 10) ∷ acc)) ≡ true
        → lacks byte (cond b (digit_glyph false (n % 10) ∷ acc) (digits_onto k 10 false (n / 10) (digit_glyph false (n % 10) ∷ acc))) ≡ true
    by true last more = last
    by false last more = more

decimal_lacks : (byte n : ℕ) → byte < 48 → lacks byte (decimal n) ≡ true
unfolding digits
decimal_lacks byte n low = onto_lacks byte 64 n [] low refl

in_line : (text : List ℕ) → is_one_line text ≡ true → IsInLine text
in_line [] h = empty_in
in_line (byte ∷ text) h =
    let parts = and_parts (not (is_newline byte)) (is_one_line text) h in
    cons_in byte text (not-true (is_newline byte) parts.0) (in_line text parts.1)

-- ---- lines that follow

-- a text has so many lines, each with its newline
record HasLines (n : ℕ) (text : List ℕ) : Type 0 where
  count : length (lines text) ≡ n
  ended : unfinished text ≡ []

no_lines : HasLines 0 []
unfolding lines whole_lines unfinished
no_lines = record { count = refl; ended = refl }

one_more : (n : ℕ) (text more : List ℕ) → is_one_line text ≡ true → HasLines n more → HasLines (suc n) (with_newline text ++ more)
one_more n text more plain h =
    let at : with_newline text ++ more ≡ text ++ 10 ∷ more = append_assoc text (10 ∷ []) more in
    record {
      count = ap (λ (t : List ℕ). length (lines t)) at ∙ ap length (lines_at text more (in_line text plain)) ∙ ap suc h.count;
      ended = ap unfinished at ∙ unfinished_at text more (in_line text plain) ∙ h.ended;
    }

-- ---- the first line

before_space : (xs more : List ℕ) → lacks 32 xs ≡ true → status_word (xs ++ 32 ∷ more) ≡ xs
before_space xs more h =
    ap (λ (n : ℕ). take n (xs ++ 32 ∷ more)) (place xs h) ∙ take-append_seam xs (32 ∷ more)
  where
    place : (ys : List ℕ) → lacks 32 ys ≡ true → position_or_len is_space (ys ++ 32 ∷ more) ≡ length ys
    place [] h = refl
    place (y ∷ ys) h =
        let parts = and_parts (not (is_space y)) (lacks 32 ys) h in
        ap (λ (b : Bool). cond b (1 + position_or_len is_space (ys ++ 32 ∷ more)) 0) parts.0 ∙ next (place ys parts.1)
      where
        next : position_or_len is_space (ys ++ 32 ∷ more) ≡ length ys → 1 + position_or_len is_space (ys ++ 32 ∷ more) ≡ suc (length ys)
        next e = omega arith

module _ (n : ℕ) (small : n < 2 ^ 64) where
  first_digit : (48 ≤ get_or (decimal n) 0 0) × (get_or (decimal n) 0 0 ≤ 57)
  first_digit = let numeral = decimal_is_IsNumeral n small in digit_at (decimal n) 0 numeral.0.1 numeral.0.0

  no_minus : starts_with_minus (decimal n) ≡ false
  no_minus = ne_eqb (get_or (decimal n) 0 0) 45 (λ e. let d = first_digit in omega (arith, d.0))

  unsigned : without_leading_sign (decimal n) ≡ decimal n
  unsigned = rw no_minus (without_leading_plus_none (decimal n) (λ e. let d = first_digit in omega (arith, d.0)))

  decimal_status : (more : List ℕ) → HasStatus (decimal n ++ 32 ∷ more) × (status (decimal n ++ 32 ∷ more) ≡ pos n)
  decimal_status more =
      let word : status_word (decimal n ++ 32 ∷ more) ≡ decimal n = before_space (decimal n) more (decimal_lacks 32 n (omega arith)) in
      let numeral = decimal_is_IsNumeral n small in
      let value : signed_digits_value 10 (decimal n) ≡ pos n
      = cond-false (starts_with_minus (decimal n)) _ _ no_minus ∙ ap (λ (ds : List ℕ). pos (digits_value 10 ds)) unsigned ∙ ap (λ (m : ℕ). pos m) numeral.1 in (
        record {
          number = subst (λ (ds : List ℕ). IsNumeral 10 ds) (sym (ap without_leading_sign word ∙ unsigned)) numeral.0;
          space = list_any-append is_space (decimal n) (32 ∷ more) ∙ or_right (list_any is_space (decimal n)) true refl;
        },
        ap (signed_digits_value 10) word ∙ value,
      )

  -- the first line of a reply with values
  count_status : HasStatus (decimal n ++ cond (n == 1) (codes " Value found") (codes " Values found")) × (status (decimal n ++ cond (n == 1) (codes " Value found") (codes " Values found")) ≡ pos n)
  count_status = by (n == 1)
    where
      by : (b : Bool) → HasStatus (decimal n ++ cond b (codes " Value found") (codes " Values found")) × (status (decimal n ++ cond b (codes " Value found") (codes " Values found")) ≡ pos n)
      by true = decimal_status (codes "Value found")
      by false = decimal_status (codes "Values found")

-- a first line and the lines that its status tells of
framed : (n : ℕ) (first body : List ℕ) → is_one_line first ≡ true → HasStatus first → lines_told (status first) ≡ n → HasLines n body → IsFramed (with_newline first ++ body)
framed n first body plain head told h =
    let at : with_newline first ++ body ≡ first ++ 10 ∷ body = append_assoc first (10 ∷ []) body in
    let all : first ∷ lines body ≡ lines (with_newline first ++ body) = sym (ap lines at ∙ lines_at first body (in_line first plain)) in
    record {
      framed = subst (λ (ls : List (List ℕ)). AreFramed ls) all (head, h.count ∙ sym told);
      ended = ap unfinished at ∙ unfinished_at first body (in_line first plain) ∙ h.ended;
    }

-- ---- the replies

pub done_framed : (message : List ℕ) → is_one_line message ≡ true → IsFramed (with_newline (codes "0 " ++ message))
done_framed message plain =
    subst (λ (text : List ℕ). IsFramed text) (append-nil (with_newline (codes "0 " ++ message)))
    (framed 0 (codes "0 " ++ message) [] plain (record { number = (lit< tt, (lit< tt, tt)); space = refl }) refl no_lines)

pub flushed_framed : (successful errors : ℕ) → IsFramed (flushed_line successful errors)
flushed_framed successful errors =
    done_framed (codes "Done: " ++ decimal successful ++ codes " successful, " ++ decimal errors ++ codes " errors")
    (lacks_both 10 (codes "Done: " ++ decimal successful ++ codes " successful, " ++ decimal errors) (codes " errors")
    (lacks_both 10 (codes "Done: " ++ decimal successful ++ codes " successful, ") (decimal errors)
    (lacks_both 10 (codes "Done: " ++ decimal successful) (codes " successful, ") (lacks_both 10 (codes "Done: ") (decimal successful) refl (decimal_lacks 10 successful (omega arith))) refl)
    (decimal_lacks 10 errors (omega arith))) refl)

pub refusal_framed : (message : List ℕ) → is_one_line message ≡ true → IsFramed (with_newline (codes "-1 " ++ message))
refusal_framed message plain =
    subst (λ (text : List ℕ). IsFramed text) (append-nil (with_newline (codes "-1 " ++ message)))
    (framed 0 (codes "-1 " ++ message) [] plain (record { number = (lit< tt, (lit< tt, tt)); space = refl }) refl no_lines)

pub fault_framed : (f : LineFault) → IsFramed (with_newline (fault_text f))
fault_framed faults.LineTooLong = refusal_framed (codes "Line too long") refl
fault_framed faults.NotUtf8 = refusal_framed (codes "Not UTF-8") refl
fault_framed faults.UnterminatedQuote = refusal_framed (codes "Unterminated quote") refl
fault_framed faults.UnknownCommand = refusal_framed (codes "Unknown command") refl
fault_framed faults.MissingArgument = refusal_framed (codes "Missing argument") refl
fault_framed faults.BadIdentifier = refusal_framed (codes "Bad identifier") refl
fault_framed faults.UnknownType = refusal_framed (codes "Unknown type") refl
fault_framed faults.BadOption = refusal_framed (codes "Bad option") refl
fault_framed faults.BadTime = refusal_framed (codes "Bad time") refl
fault_framed faults.WrongNumberOfValues = refusal_framed (codes "Wrong number of values") refl
fault_framed faults.BadValue = refusal_framed (codes "Bad value") refl
fault_framed faults.Memory = refusal_framed (codes "Out of memory") refl

found_is_one_line : (n : ℕ) → is_one_line (decimal n ++ cond (n == 1) (codes " Value found") (codes " Values found")) ≡ true
found_is_one_line n = lacks_both 10 (decimal n) (cond (n == 1) (codes " Value found") (codes " Values found")) (decimal_lacks 10 n (omega arith)) (by (n == 1))
  where
    by : (b : Bool) → is_one_line (cond b (codes " Value found") (codes " Values found")) ≡ true
    by true = refl
    by false = refl

values_framed : (n : ℕ) (body : List ℕ) → n < 2 ^ 64 → HasLines n body → IsFramed (values_found n ++ body)
values_framed n body small h =
    let head = count_status n small in
    framed n (decimal n ++ cond (n == 1) (codes " Value found") (codes " Values found")) body (found_is_one_line n) head.0 (ap lines_told head.1) h

digit_is_no_newline : (n : ℕ) → not (is_newline (digit n)) ≡ true
digit_is_no_newline n = ap not (ne_eqb (48 + n % 10) 10 (λ h. omega arith))

six_are_one_line : (n : ℕ) → is_one_line (six_digits n) ≡ true
six_are_one_line n =
    and_from _ _ (digit_is_no_newline (n / 100000)) (and_from _ _ (digit_is_no_newline (n / 10000)) (and_from _ _ (digit_is_no_newline (n / 1000))
    (and_from _ _ (digit_is_no_newline (n / 100)) (and_from _ _ (digit_is_no_newline (n / 10)) (and_from _ _ (digit_is_no_newline n) refl)))))

unsigned_is_one_line : (n : ℕ) → is_one_line (unsigned_text n) ≡ true
unsigned_is_one_line n = lacks_both 10 (decimal (n / 10 ^ 6)) (46 ∷ six_digits (n % 10 ^ 6)) (decimal_lacks 10 (n / 10 ^ 6) (omega arith)) (six_are_one_line (n % 10 ^ 6))

number_is_one_line : (value : Option ℤ) → is_one_line (number_or_nan value) ≡ true
number_is_one_line None = refl
number_is_one_line (Some (pos n)) = unsigned_is_one_line n
number_is_one_line (Some (negsuc n)) = unsigned_is_one_line (suc n)

rate_is_one_line : (name : List ℕ) (rate : Option Rate) → is_one_line name ≡ true → is_one_line (name ++ codes "=" ++ rate_or_nan rate) ≡ true
rate_is_one_line name rate plain = lacks_both 10 (name ++ codes "=") (rate_or_nan rate) (lacks_both 10 name (codes "=") plain refl) (of rate)
  where
    of : (rate : Option Rate) → is_one_line (rate_or_nan rate) ≡ true
    of None = refl
    of (Some rate) = number_is_one_line (millionths rate)

rates_have_lines : (names : List (List ℕ)) (rates : List Rate) → list_all is_one_line names ≡ true → HasLines (length names) (rate_lines names rates)
rates_have_lines [] rates plain = no_lines
rates_have_lines (name ∷ names) [] plain =
    let parts = and_parts (is_one_line name) (list_all is_one_line names) plain in
    one_more (length names) (name ++ codes "=" ++ rate_or_nan None) (rate_lines names []) (rate_is_one_line name None parts.0) (rates_have_lines names [] parts.1)
rates_have_lines (name ∷ names) (rate ∷ rates) plain =
    let parts = and_parts (is_one_line name) (list_all is_one_line names) plain in
    one_more (length names) (name ++ codes "=" ++ rate_or_nan (Some rate)) (rate_lines names rates) (rate_is_one_line name (Some rate) parts.0) (rates_have_lines names rates parts.1)

pub rates_framed : (names : List (List ℕ)) (rates : List Rate) → length names < 2 ^ 64 → list_all is_one_line names ≡ true → IsFramed (values_found (length names) ++ rate_lines names rates)
rates_framed names rates small plain = values_framed (length names) (rate_lines names rates) small (rates_have_lines names rates plain)

rows_have_lines : (rows : List (ℕ × List ℕ)) → list_all (λ row. is_one_line row.1) rows ≡ true → HasLines (length rows) (flat_map row_line rows)
rows_have_lines [] plain = no_lines
rows_have_lines (row ∷ rows) plain =
    let parts = and_parts (is_one_line row.1) (list_all (λ row. is_one_line row.1) rows) plain in
    one_more (length rows) (decimal (row.0 / SECOND) ++ codes " " ++ row.1) (flat_map row_line rows)
    (lacks_both 10 (decimal (row.0 / SECOND) ++ codes " ") row.1 (lacks_both 10 (decimal (row.0 / SECOND)) (codes " ") (decimal_lacks 10 (row.0 / SECOND) (omega arith)) refl) parts.0)
    (rows_have_lines rows parts.1)

pub rows_framed : (rows : List (ℕ × List ℕ)) → length rows < 2 ^ 64 → list_all (λ row. is_one_line row.1) rows ≡ true → IsFramed (values_found (length rows) ++ flat_map row_line rows)
rows_framed rows small plain = values_framed (length rows) (flat_map row_line rows) small (rows_have_lines rows plain)
