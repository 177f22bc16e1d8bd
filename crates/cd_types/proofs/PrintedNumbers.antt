-- A number that is printed is read as itself.
use Rattle.cd_text.proofs.DigitRuns.{digits_value_after-append}
use Rattle.cd_text.specs.Digits.{are_digits, is_dot}
use Rattle.cd_text.specs.Millionths.{bounded_millionths}
use Rattle.cd_text.specs.Number.{Parts, is_e, is_number, number_of, parts_of, value, with_sign}
use Rattle.cd_text.specs.declared.fault.NumFault.TheVariants.{BadNumber}
use Rattle.cd_text.specs.declared.fault.NumFault.{NumFault}
use Rattle.cd_types.specs.Entry.{bound_of, number_or_none}
use Rattle.cd_types.specs.Printed.{bound_text, decimals, fraction_text, number_text, unsigned_text}
use Rattle.cd_value.proofs.Cuts.{place_behind, place_none}
use Rattle.cd_value.specs.Print.{digit}
use Rattle.std.proofs.Common.{Bool, Err, IfSome, List, None, Ok, Option, Result, Some, [], ap, arith, drop, false, if◌then◌else◌, length, pos, refl, subst, suc, sym, take, true, zero, ℕ, ℤ, ◌%◌, ◌*◌, ◌++◌, ◌+◌, ◌-◌, ◌/◌, ◌<◌, ◌==◌, ◌^◌, ◌∙◌, ◌∷◌, ◌≡◌, ◌≤◌}
use Rattle.std.proofs.Math.Nat.{div-lt_iff_lt-mul, mul-div_cancel, mul-le-mul_right, one-le-pow}
use Rattle.std.proofs.Math.Seq.{drop-append-add, take-append_seam, take-length}
use Rattle.std.proofs.lemmas.Bool.{and_from, and_parts, both_ways, eqb-true, false_from_ne_true, le-leb, le-ltb, lt-ltb, ltb-true, ne_eqb}
use Rattle.std.proofs.lemmas.Fmt.{decimal_is_IsNumeral_wide, length-decimal-le_wide}
use Rattle.std.proofs.lemmas.List.Folds.{list_all-append}
use Rattle.std.proofs.lemmas.List.{append-nil, drop_all}
use Rattle.std.proofs.lemmas.Nat.{pow-add}
use Rattle.std.proofs.lemmas.Slice.Eq.{bytes_eq-Decides}
use Rattle.std.proofs.lemmas.Str.Parse.{digit_from_value}
use Rattle.std.proofs.lemmas.Str.{digit_value_digit}
use Rattle.std.specs.Char.{digit_value, is_ascii_digit}
use Rattle.std.specs.Fmt.{decimal}
use Rattle.std.specs.Int.{IsInRange}
use Rattle.std.specs.List.{after_first, before_first, list_any, position, position_or_len}
use Rattle.std.specs.Prelude.{codes, nat_abs, nat_lt, negsuc}
use Rattle.std.specs.Str.Parse.{AllDigits, digits_value, digits_value_after, starts_with_minus, without_leading_sign}
use Rattle.std.specs.Str.{bytes_eq}

-- ---- decimals

digit_range : (n : ℕ) → IsInRange 48 57 (digit n)
digit_range n = (omega arith, omega arith)

value_of_digit : (n : ℕ) → digit_value (digit n) ≡ n % 10
value_of_digit n = let e : digit_value (digit n) + 48 ≡ digit n = digit_value_digit (digit n) (digit_range n) in omega arith

-- a byte from 0 to 9 is a digit
ranged : (c : ℕ) → IsInRange 48 57 c → is_ascii_digit c ≡ true
ranged c h = rw (le-leb 48 c h.0, le-leb c 57 h.1) refl

pub decimals_are_digits : (k n : ℕ) → are_digits (decimals k n) ≡ true
unfolding decimals
decimals_are_digits zero n = refl
decimals_are_digits (suc k) n = by (n == 0) refl (decimals_are_digits k (n % 10 ^ k))
  where
    by : (t : Bool) → (n == 0) ≡ t → are_digits (decimals k (n % 10 ^ k)) ≡ true → are_digits (decimals (suc k) n) ≡ true
    by true e h = rw e refl
    by false e h = rw e (and_from (is_ascii_digit (digit (n / 10 ^ k))) (are_digits (decimals k (n % 10 ^ k))) (ranged (digit (n / 10 ^ k)) (digit_range (n / 10 ^ k))) h)

decimals_few : (k n : ℕ) → length (decimals k n) ≤ k
unfolding decimals
decimals_few zero n = omega arith
decimals_few (suc k) n = by (n == 0) refl (decimals_few k (n % 10 ^ k))
  where
    by : (t : Bool) → (n == 0) ≡ t → length (decimals k (n % 10 ^ k)) ≤ k → length (decimals (suc k) n) ≤ suc k
    by true e h = rw e (omega arith)
    by false e h = rw e (omega (arith, h))

ten : (k : ℕ) → 10 ^ (suc k) ≡ 10 * 10 ^ k
ten k = let e : 10 ^ (1 + k) ≡ 10 ^ 1 * 10 ^ k = pow-add 10 1 k in ap (λ (j : ℕ). 10 ^ j) (omega arith) ∙ e

first_small : (k n : ℕ) → n < 10 ^ (suc k) → n / 10 ^ k < 10
first_small k n h =
    let p : 0 < 10 ^ k = one-le-pow k 10 (omega arith) in
    let e = ten k in
    (div-lt_iff_lt-mul {k = 10 ^ k} {x = n} {y = 10} p).1 (omega (arith, e))

joined : (w d p r n k : ℕ) → n ≡ d * p + r → (w * 10 + d) * p + r ≡ w * (10 * p) + n
joined w d p r n k h = omega arith

-- the digits that are printed of a number below 1 have its value
decimals_value : (k n w : ℕ) → n < 10 ^ k → digits_value_after 10 w (decimals k n) * 10 ^ (k - length (decimals k n)) ≡ w * 10 ^ k + n
unfolding decimals
decimals_value zero n w h = omega arith
decimals_value (suc k) n w h =
    by (n == 0) refl (decimals_value k (n % 10 ^ k) (w * 10 + digit_value (digit (n / 10 ^ k))) (let p : 0 < 10 ^ k = one-le-pow k 10 (omega arith) in omega arith))
  where
    by : (t : Bool) → (n == 0) ≡ t
        → digits_value_after 10 (w * 10 + digit_value (digit (n / 10 ^ k))) (decimals k (n % 10 ^ k)) * 10 ^ (k - length (decimals k (n % 10 ^ k)))
        ≡ (w * 10 + digit_value (digit (n / 10 ^ k))) * 10 ^ k + n % 10 ^ k
        → digits_value_after 10 w (decimals (suc k) n) * 10 ^ (suc k - length (decimals (suc k) n)) ≡ w * 10 ^ (suc k) + n
    by true e so_far =
        let z : n ≡ 0 = eqb-true n 0 e in
        let all : suc k - 0 ≡ suc k = omega arith in
        let same : w * 10 ^ (suc k) ≡ w * 10 ^ (suc k) + n = omega arith in
        rw e (ap (λ (j : ℕ). w * 10 ^ j) all ∙ same)
    by false e so_far =
        let p : 0 < 10 ^ k = one-le-pow k 10 (omega arith) in
        let s : n / 10 ^ k < 10 = first_small k n h in
        let v : digit_value (digit (n / 10 ^ k)) ≡ n / 10 ^ k = value_of_digit (n / 10 ^ k) ∙ omega arith in
        let parts : n ≡ n / 10 ^ k * 10 ^ k + n % 10 ^ k = omega arith in
        let less : suc k - suc (length (decimals k (n % 10 ^ k))) ≡ k - length (decimals k (n % 10 ^ k)) = omega arith in
        rw e (ap (λ (j : ℕ). digits_value_after 10 (w * 10 + digit_value (digit (n / 10 ^ k))) (decimals k (n % 10 ^ k)) * 10 ^ j) less
        ∙ so_far ∙ ap (λ (d : ℕ). (w * 10 + d) * 10 ^ k + n % 10 ^ k) v ∙ joined w (n / 10 ^ k) (10 ^ k) (n % 10 ^ k) n k parts ∙ ap (λ (x : ℕ). w * x + n) (sym (ten k)))

-- ---- digits are no other byte

digit_apart : (c other : ℕ) → is_ascii_digit c ≡ true → is_ascii_digit other ≡ false → (c == other) ≡ false
digit_apart c other h e = ne_eqb c other (λ same. both_ways (is_ascii_digit other) e (subst (λ (n : ℕ). is_ascii_digit n ≡ true) same h))

no_dots : (ds : List ℕ) → are_digits ds ≡ true → list_any is_dot ds ≡ false
no_dots [] all = refl
no_dots (c ∷ cs) all =
    let both = and_parts (is_ascii_digit c) (are_digits cs) all in
    rw (digit_apart c 46 both.0 refl, no_dots cs both.1) refl

no_es : (ds : List ℕ) → are_digits ds ≡ true → list_any is_e ds ≡ false
no_es [] all = refl
no_es (c ∷ cs) all =
    let both = and_parts (is_ascii_digit c) (are_digits cs) all in
    rw (digit_apart c 101 both.0 refl, digit_apart c 69 both.0 refl, no_es cs both.1) refl

no_es_dotted : (w ds : List ℕ) → are_digits w ≡ true → are_digits ds ≡ true → list_any is_e (w ++ 46 ∷ ds) ≡ false
no_es_dotted [] ds all more = no_es ds more
no_es_dotted (c ∷ cs) ds all more =
    let both = and_parts (is_ascii_digit c) (are_digits cs) all in
    rw (digit_apart c 101 both.0 refl, digit_apart c 69 both.0 refl, no_es_dotted cs ds both.1 more) refl

digits_pass : (ds : List ℕ) → AllDigits 10 ds → are_digits ds ≡ true
digits_pass [] h = refl
digits_pass (c ∷ cs) h = and_from (is_ascii_digit c) (are_digits cs) (ranged c (digit_from_value c h.0)) (digits_pass cs h.1)

-- ---- the parts of a printed number

abbrev parts_with : Bool → List ℕ → List ℕ → Parts
parts_with is_negative whole fraction =
    record { is_negative = is_negative; whole = whole; fraction = fraction; exponent = None }

abbrev mantissa_parts : Bool → List ℕ → Parts
mantissa_parts is_negative t = parts_with is_negative (before_first is_dot t) (after_first is_dot t)

-- a text without an e has no exponent
plain_parts : (t unsigned : List ℕ) → without_leading_sign t ≡ unsigned → list_any is_e unsigned ≡ false → parts_of t ≡ mantissa_parts (starts_with_minus t) unsigned
plain_parts t unsigned bare none =
    let end : position_or_len is_e unsigned ≡ length unsigned = place_none is_e unsigned none in
    let before : before_first is_e unsigned ≡ unsigned = ap (λ (n : ℕ). take n unsigned) end ∙ take-length unsigned in
    let nowhere : position is_e unsigned ≡ None = rw (end, le-ltb (length unsigned) (length unsigned) (omega arith)) refl in
    rw (bare, before, nowhere) refl

dotted_parts : (is_negative : Bool) (w ds : List ℕ) → are_digits w ≡ true → mantissa_parts is_negative (w ++ 46 ∷ ds) ≡ parts_with is_negative w ds
dotted_parts is_negative w ds all =
    let place : position_or_len is_dot (w ++ 46 ∷ ds) ≡ length w = place_behind is_dot w 46 ds (no_dots w all) refl in
    let before : before_first is_dot (w ++ 46 ∷ ds) ≡ w = ap (λ (n : ℕ). take n (w ++ 46 ∷ ds)) place ∙ take-append_seam w (46 ∷ ds) in
    let after : after_first is_dot (w ++ 46 ∷ ds) ≡ ds = ap (λ (n : ℕ). drop (n + 1) (w ++ 46 ∷ ds)) place ∙ drop-append-add w (46 ∷ ds) 1 in
    rw (before, after) refl

whole_parts : (is_negative : Bool) (w : List ℕ) → are_digits w ≡ true → mantissa_parts is_negative w ≡ parts_with is_negative w []
whole_parts is_negative w all =
    let place : position_or_len is_dot w ≡ length w = place_none is_dot w (no_dots w all) in
    let before : before_first is_dot w ≡ w = ap (λ (n : ℕ). take n w) place ∙ take-length w in
    let after : after_first is_dot w ≡ [] = ap (λ (n : ℕ). drop (n + 1) w) place ∙ drop_all (length w + 1) w (omega arith) in
    rw (before, after) refl

-- ---- their value

-- a fraction that is a whole number of millionths
fraction_is : (v p q n : ℕ) → p * q ≡ 10 ^ 6 → v * q ≡ n → n ≤ 10 ^ 30 → 0 < p → 0 < q → bounded_millionths v p ≡ Some n
unfolding bounded_millionths
fraction_is v p q n whole e small some_p some_q = rw (in_range_of, exact) refl
  where
    in_range_of : nat_lt (10 ^ 24 * p) v ≡ false
    in_range_of = by (nat_lt (10 ^ 24 * p) v) refl
      where
        by : (t : Bool) → nat_lt (10 ^ 24 * p) v ≡ t → nat_lt (10 ^ 24 * p) v ≡ false
        by false h = h
        by true h =
            let more : 10 ^ 24 * p + 1 ≤ v = omega (arith, ltb-true (10 ^ 24 * p) v h) in
            let far : (10 ^ 24 * p + 1) * q ≤ v * q = mul-le-mul_right q more in
            let same : (10 ^ 24 * p + 1) * q ≡ 10 ^ 24 * (p * q) + q = omega arith in
            absurd (omega (arith, far, same, whole, e, small, some_q))

    exact : v * 10 ^ 6 / p ≡ n
    exact =
        let grouped : v * 10 ^ 6 ≡ n * p = ap (λ (x : ℕ). v * x) (sym whole) ∙ regroup v p q ∙ ap (λ (x : ℕ). x * p) e in
        ap (λ (x : ℕ). x / p) grouped ∙ mul-div_cancel n some_p
      where
        regroup : (a b c : ℕ) → a * (b * c) ≡ a * c * b
        regroup a b c = omega arith

read_parts : (is_negative : Bool) (w ds : List ℕ) (n : ℕ) → are_digits w ≡ true → are_digits ds ≡ true → 0 < length w → length w ≤ 25 → length ds ≤ 6
    → digits_value_after 10 (digits_value 10 w) ds * 10 ^ (6 - length ds) ≡ n → n ≤ 10 ^ 30
    → (is_number (parts_with is_negative w ds) ≡ true) × (value (parts_with is_negative w ds) ≡ with_sign is_negative (Some n))
read_parts is_negative w ds n all more some few short total small =
    let digits : are_digits (w ++ ds) ≡ true = list_all-append is_ascii_digit w ds ∙ and_from (are_digits w) (are_digits ds) all more in
    let there : nat_lt 0 (length w + length ds) ≡ true = lt-ltb 0 (length w + length ds) (omega (arith, some)) in
    let not_long : nat_lt 36 (length w + length ds) ≡ false = le-ltb 36 (length w + length ds) (omega (arith, few, short)) in
    let k : ℕ = length ds in
    let both : k + (6 - k) ≡ 6 = omega (arith, short) in
    let whole : 10 ^ k * 10 ^ (6 - k) ≡ 10 ^ 6 = sym (pow-add 10 k (6 - k)) ∙ ap (λ (j : ℕ). 10 ^ j) both in
    let some_p : 0 < 10 ^ k = one-le-pow k 10 (omega arith) in
    let some_q : 0 < 10 ^ (6 - k) = one-le-pow (6 - k) 10 (omega arith) in
    let fraction : bounded_millionths (digits_value 10 (w ++ ds)) (10 ^ k) ≡ Some n
    = ap (λ (v : ℕ). bounded_millionths v (10 ^ k)) (digits_value_after-append 0 w ds)
    ∙ fraction_is (digits_value_after 10 (digits_value 10 w) ds) (10 ^ k) (10 ^ (6 - k)) n whole total small some_p some_q in
    let one : digits_value 10 (w ++ ds) * 10 ^ 0 ≡ digits_value 10 (w ++ ds) = omega arith in
    let none : k + 0 ≡ k = omega arith in (
      rw (digits, there) refl,
      rw (not_long, one, none, fraction) refl,
    )

abbrev pub units : ℕ → List ℕ
units n = decimal (n / 10 ^ 6)

pub units_are : (n : ℕ) → n ≤ 10 ^ 30 → (are_digits (units n) ≡ true) × (0 < length (units n)) × (length (units n) ≤ 25) × (digits_value 10 (units n) ≡ n / 10 ^ 6)
units_are n small =
    let numeral = decimal_is_IsNumeral_wide (n / 10 ^ 6) (omega arith) in
    (digits_pass (units n) numeral.0.1, numeral.0.0, length-decimal-le_wide 25 (n / 10 ^ 6) (omega arith) (omega arith) (omega arith), numeral.1)

-- what a text of such parts reads as
number_is : (t : List ℕ) (p : Parts) (r : Result ℤ NumFault) → parts_of t ≡ p → is_number p ≡ true → value p ≡ r → number_of t ≡ r
unfolding number_of
number_is t p r parts good read =
    ap (λ (q : Parts). if is_number q then value q else Err BadNumber) parts
    ∙ ap (λ (b : Bool). if b then value p else Err BadNumber) good ∙ read

-- what the text of a number without its sign reads as
unsigned_reads : (t : List ℕ) (n : ℕ) → n ≤ 10 ^ 30 → without_leading_sign t ≡ unsigned_text n → number_of t ≡ with_sign (starts_with_minus t) (Some n)
unsigned_reads t n small bare = by (n % 10 ^ 6 == 0) refl
  where
    by : (b : Bool) → (n % 10 ^ 6 == 0) ≡ b → number_of t ≡ with_sign (starts_with_minus t) (Some n)
    by true e =
        let us = units_are n small in
        let text : unsigned_text n ≡ units n = ap (λ (f : List ℕ). units n ++ f) (rw e refl) ∙ append-nil (units n) in
        let z : n % 10 ^ 6 ≡ 0 = eqb-true (n % 10 ^ 6) 0 e in
        let total : digits_value 10 (units n) * 10 ^ 6 ≡ n = ap (λ (v : ℕ). v * 10 ^ 6) us.3 ∙ omega arith in
        let parts : parts_of t ≡ parts_with (starts_with_minus t) (units n) [] = plain_parts t (units n) (bare ∙ text) (no_es (units n) us.0) ∙ whole_parts (starts_with_minus t) (units n) us.0 in
        let read = read_parts (starts_with_minus t) (units n) [] n us.0 refl us.1 us.2 (omega arith) total small in
        number_is t (parts_with (starts_with_minus t) (units n) []) (with_sign (starts_with_minus t) (Some n)) parts read.0 read.1
    by false e =
        let us = units_are n small in
        let ds : List ℕ = decimals 6 (n % 10 ^ 6) in
        let text : unsigned_text n ≡ units n ++ 46 ∷ ds = ap (λ (f : List ℕ). units n ++ f) (rw e refl) in
        let total : digits_value_after 10 (digits_value 10 (units n)) ds * 10 ^ (6 - length ds) ≡ n
        = decimals_value 6 (n % 10 ^ 6) (digits_value 10 (units n)) (omega arith) ∙ ap (λ (v : ℕ). v * 10 ^ 6 + n % 10 ^ 6) us.3 ∙ omega arith in
        let parts : parts_of t ≡ parts_with (starts_with_minus t) (units n) ds
        = plain_parts t (units n ++ 46 ∷ ds) (bare ∙ text) (no_es_dotted (units n) ds us.0 (decimals_are_digits 6 (n % 10 ^ 6))) ∙ dotted_parts (starts_with_minus t) (units n) ds us.0 in
        let read = read_parts (starts_with_minus t) (units n) ds n us.0 (decimals_are_digits 6 (n % 10 ^ 6)) us.1 us.2 (decimals_few 6 (n % 10 ^ 6)) total small in
        number_is t (parts_with (starts_with_minus t) (units n) ds) (with_sign (starts_with_minus t) (Some n)) parts read.0 read.1

-- a text that begins with a digit has no sign
unsigned_first : (w f : List ℕ) → are_digits w ≡ true → 0 < length w → (without_leading_sign (w ++ f) ≡ w ++ f) × (starts_with_minus (w ++ f) ≡ false)
unsigned_first [] f all some = absurd (omega (arith, some))
unsigned_first (c ∷ cs) f all some =
    let first = (and_parts (is_ascii_digit c) (are_digits cs) all).0 in
    let minus : (c == 45) ≡ false = digit_apart c 45 first refl in
    let plus : (c == 43) ≡ false = digit_apart c 43 first refl in
    (rw (minus, plus) refl, rw minus refl)

-- a printed number is read as itself
pub number_reads : (z : ℤ) → nat_abs z ≤ 10 ^ 30 → number_of (number_text z) ≡ Ok z
number_reads (pos n) small =
    let us = units_are n small in
    let first = unsigned_first (units n) (fraction_text (n % 10 ^ 6)) us.0 us.1 in
    unsigned_reads (unsigned_text n) n small first.0 ∙ ap (λ (b : Bool). with_sign b (Some n)) first.1
number_reads (negsuc n) small = unsigned_reads (45 ∷ unsigned_text (suc n)) (suc n) small refl

no_number : number_of (codes "U") ≡ Err BadNumber
unfolding number_of
no_number = refl

-- a printed bound is read as itself
pub bound_reads : (bound : Option ℤ) → IfSome bound (λ n. nat_abs n ≤ 10 ^ 30) → bound_of (bound_text bound) ≡ Some bound
bound_reads None small = refl
bound_reads (Some n) small =
    let number : number_of (number_text n) ≡ Ok n = number_reads n small in
    let other : bytes_eq (number_text n) (codes "U") ≡ false
    = false_from_ne_true (bytes_eq (number_text n) (codes "U"))
    (λ e. let same : Ok n ≡ Err BadNumber = sym number ∙ ap number_of ((bytes_eq-Decides (number_text n) (codes "U")).0 e) ∙ no_number in absurd (cc same)) in
    rw other (ap number_or_none number)
