-- What printed numbers read as.
use Rattle.cd_laws.proofs.Digits.{digits_pass, none_of_digits, not_digit, printed_value, six_pass}
use Rattle.cd_laws.specs.ReadBack.{read_back}
use Rattle.cd_text.proofs.Powers.{none_above, some_below}
use Rattle.cd_text.specs.Digits.{after_place, is_dot}
use Rattle.cd_text.specs.Millionths.{bounded_millionths}
use Rattle.cd_text.specs.Number.{Parts, is_e, is_number, number_of, parts_of, value, with_sign}
use Rattle.cd_text.specs.declared.fault.NumFault.TheVariants.{BadNumber, OutOfRange}
use Rattle.cd_value.proofs.Cuts.{place_behind, place_none}
use Rattle.cd_value.specs.Print.{millionths_text, six_digits, unsigned_text}
use Rattle.std.proofs.Common.{Bool, List, None, Option, Some, [], ap, arith, cond, drop, false, length, pos, refl, suc, sym, take, true, ℕ, ℤ, ◌%◌, ◌*◌, ◌++◌, ◌+◌, ◌/◌, ◌<◌, ◌^◌, ◌∙◌, ◌∷◌, ◌≡◌, ◌≤◌}
use Rattle.std.proofs.Math.Seq.{drop-append-add, take-append_seam, take-length}
use Rattle.std.proofs.lemmas.Bool.{and_parts, le-ltb, leb-false, leb-true, lt-ltb}
use Rattle.std.proofs.lemmas.Fmt.{decimal_is_IsNumeral_wide, length-decimal-le_wide}
use Rattle.std.proofs.lemmas.List.Folds.{list_all-append, list_any-append}
use Rattle.std.specs.Char.{is_ascii_digit}
use Rattle.std.specs.Fmt.{decimal}
use Rattle.std.specs.List.{after_first, before_first, list_all, list_any, position, position_or_len}
use Rattle.std.specs.Prelude.{Err, Ok, nat_abs, nat_eq, nat_le, nat_lt, neg_ℤ, negsuc}
use Rattle.std.specs.Str.Parse.{digits_value, starts_with_minus, without_leading_sign}

-- ---- where a printed number is cut

no_place : (p : ℕ → Bool) (xs : List ℕ) → list_any p xs ≡ false → position p xs ≡ None
no_place p xs none =
    let e : nat_lt (position_or_len p xs) (length xs) ≡ false = le-ltb (position_or_len p xs) (length xs) (omega (arith, place_none p xs none)) in
    rw e refl

digit_no_e : (c : ℕ) → is_ascii_digit c ≡ true → is_e c ≡ false
digit_no_e c h = rw (not_digit c 101 h refl, not_digit c 69 h refl) refl

digit_no_dot : (c : ℕ) → is_ascii_digit c ≡ true → is_dot c ≡ false
digit_no_dot c h = not_digit c 46 h refl

-- digits, a dot and digits
module _ (whole fraction : List ℕ) (w : list_all is_ascii_digit whole ≡ true) (f : list_all is_ascii_digit fraction ≡ true) where
  no_e : list_any is_e (whole ++ 46 ∷ fraction) ≡ false
  no_e = list_any-append is_e whole (46 ∷ fraction) ∙ (rw (none_of_digits is_e whole digit_no_e w, none_of_digits is_e fraction digit_no_e f) refl)

  mantissa_is : before_first is_e (whole ++ 46 ∷ fraction) ≡ whole ++ 46 ∷ fraction
  mantissa_is = ap (λ n. take n (whole ++ 46 ∷ fraction)) (place_none is_e (whole ++ 46 ∷ fraction) no_e) ∙ take-length (whole ++ 46 ∷ fraction)

  dot_place : position_or_len is_dot (whole ++ 46 ∷ fraction) ≡ length whole
  dot_place = place_behind is_dot whole 46 fraction (none_of_digits is_dot whole digit_no_dot w) refl

  whole_is : before_first is_dot (before_first is_e (whole ++ 46 ∷ fraction)) ≡ whole
  whole_is = ap (before_first is_dot) mantissa_is ∙ ap (λ n. take n (whole ++ 46 ∷ fraction)) dot_place ∙ take-append_seam whole (46 ∷ fraction)

  fraction_is : after_first is_dot (before_first is_e (whole ++ 46 ∷ fraction)) ≡ fraction
  fraction_is = ap (after_first is_dot) mantissa_is ∙ ap (λ n. drop (n + 1) (whole ++ 46 ∷ fraction)) dot_place ∙ drop-append-add whole (46 ∷ fraction) 1

  exponent_is : after_place (whole ++ 46 ∷ fraction) (position is_e (whole ++ 46 ∷ fraction)) ≡ None
  exponent_is = ap (after_place (whole ++ 46 ∷ fraction)) (no_place is_e (whole ++ 46 ∷ fraction) no_e)

abbrev made : Bool → List ℕ → List ℕ → Option (List ℕ) → Parts
made negative whole fraction exponent = record { is_negative = negative; whole = whole; fraction = fraction; exponent = exponent }

made_same : (negative : Bool) (w w' f f' : List ℕ) (e e' : Option (List ℕ)) → w ≡ w' → f ≡ f' → e ≡ e' → made negative w f e ≡ made negative w' f' e'
made_same negative w w' f f' e e' p q r = ap (λ (x : List ℕ). made negative x f e) p ∙ ap (λ (x : List ℕ). made negative w' x e) q ∙ ap (made negative w' f') r

parts_behind_minus : (whole fraction : List ℕ) → list_all is_ascii_digit whole ≡ true → list_all is_ascii_digit fraction ≡ true
    → parts_of (45 ∷ (whole ++ 46 ∷ fraction)) ≡ made true whole fraction None
parts_behind_minus whole fraction w f = made_same true _ whole _ fraction _ None (whole_is whole fraction w f) (fraction_is whole fraction w f) (exponent_is whole fraction w f)

-- a text that begins with a digit has no sign
no_sign : (c : ℕ) (cs : List ℕ) → is_ascii_digit c ≡ true → (starts_with_minus (c ∷ cs) ≡ false) × (without_leading_sign (c ∷ cs) ≡ c ∷ cs)
no_sign c cs h =
    let minus : nat_eq c 45 ≡ false = not_digit c 45 h refl in
    let plus : nat_eq c 43 ≡ false = not_digit c 43 h refl in
    (minus, rw (minus, plus) refl)

parts_unsigned : (whole fraction : List ℕ) → 0 < length whole → list_all is_ascii_digit whole ≡ true → list_all is_ascii_digit fraction ≡ true
    → parts_of (whole ++ 46 ∷ fraction) ≡ made false whole fraction None
parts_unsigned [] fraction some w f = absurd (omega arith)
parts_unsigned (c ∷ cs) fraction some w f =
    let sign = no_sign c (cs ++ 46 ∷ fraction) (and_parts (is_ascii_digit c) (list_all is_ascii_digit cs) w).0 in
    let t = c ∷ cs ++ 46 ∷ fraction in
    ap (λ (negative : Bool). made negative (before_first is_dot (before_first is_e (without_leading_sign t))) (after_first is_dot (before_first is_e (without_leading_sign t))) (after_place (without_leading_sign t) (position is_e (without_leading_sign t)))) sign.0
    ∙ ap (λ (u : List ℕ). made false (before_first is_dot (before_first is_e u)) (after_first is_dot (before_first is_e u)) (after_place u (position is_e u))) sign.1
    ∙ made_same false _ (c ∷ cs) _ fraction _ None (whole_is (c ∷ cs) fraction w f) (fraction_is (c ∷ cs) fraction w f) (exponent_is (c ∷ cs) fraction w f)

-- ---- the value of a printed number

within : (n : ℕ) → n ≤ 10 ^ 30 → bounded_millionths (n * 10 ^ 0) (10 ^ 6) ≡ Some n
within n h = sym (some_below n 0 6 n (omega arith) (omega arith))

beyond : (n : ℕ) → 10 ^ 30 < n → bounded_millionths (n * 10 ^ 0) (10 ^ 6) ≡ None
beyond n h = sym (none_above n 0 6 (omega arith))

abbrev signed : Bool → ℕ → ℤ
signed negative n = cond negative (neg_ℤ (pos n)) (pos n)

-- the digits of a number of millionths before and behind the dot
abbrev whole_of : ℕ → List ℕ
whole_of n = decimal (n / 10 ^ 6)

abbrev rest_of : ℕ → List ℕ
rest_of n = six_digits (n % 10 ^ 6)

value_is : (negative : Bool) (n : ℕ) → n < 10 ^ 64 → value (made negative (whole_of n) (rest_of n) None) ≡ cond (nat_le n (10 ^ 30)) (Ok (signed negative n)) (Err OutOfRange)
value_is negative n h = step (nat_le n (10 ^ 30)) refl
  where
    units : n / 10 ^ 6 < 10 ^ 64
    units = omega arith

    printed : digits_value 10 (whole_of n ++ rest_of n) ≡ n
    printed = printed_value n units

    step : (b : Bool) → nat_le n (10 ^ 30) ≡ b → value (made negative (whole_of n) (rest_of n) None) ≡ cond b (Ok (signed negative n)) (Err OutOfRange)
    step true e =
        let le : n ≤ 10 ^ 30 = leb-true n (10 ^ 30) e in
        let few : length (whole_of n) ≤ 25 = length-decimal-le_wide 25 (n / 10 ^ 6) (omega arith) (omega arith) units in
        let short : nat_lt 36 (length (whole_of n) + 6) ≡ false = le-ltb 36 (length (whole_of n) + 6) (omega arith) in
        rw short (ap (λ m. with_sign negative (bounded_millionths (m * 10 ^ 0) (10 ^ 6))) printed ∙ ap (with_sign negative) (within n le))
    step false e = long (nat_lt 36 (length (whole_of n) + 6))
      where
        long : (c : Bool) → cond c (Err OutOfRange) (with_sign negative (bounded_millionths (digits_value 10 (whole_of n ++ rest_of n) * 10 ^ 0) (10 ^ 6))) ≡ Err OutOfRange
        long true = refl
        long false = ap (λ m. with_sign negative (bounded_millionths (m * 10 ^ 0) (10 ^ 6))) printed ∙ ap (with_sign negative) (beyond n (leb-false n (10 ^ 30) e))

number_made : (negative : Bool) (whole fraction : List ℕ) → 0 < length whole → list_all is_ascii_digit whole ≡ true → list_all is_ascii_digit fraction ≡ true → is_number (made negative whole fraction None) ≡ true
number_made negative whole fraction some w f = rw (list_all-append is_ascii_digit whole fraction, w, f, lt-ltb 0 (length whole + length fraction) (omega arith)) refl

read_parts : (t : List ℕ) (p : Parts) → parts_of t ≡ p → is_number p ≡ true → number_of t ≡ value p
unfolding number_of
read_parts t p e h = ap (λ (x : Parts). cond (is_number x) (value x) (Err BadNumber)) e ∙ (rw h refl)

-- a printed number reads as itself, and as out of range above the bound
pub number_of-millionths_text : (z : ℤ) → nat_abs z < 10 ^ 64 → number_of (millionths_text z) ≡ read_back z
number_of-millionths_text (pos n) h =
    let numeral = decimal_is_IsNumeral_wide (n / 10 ^ 6) (omega arith) in
    let digits = digits_pass (whole_of n) numeral.0.1 in
    let six = six_pass (n % 10 ^ 6) in
    read_parts (unsigned_text n) (made false (whole_of n) (rest_of n) None) (parts_unsigned (whole_of n) (rest_of n) numeral.0.0 digits six)
    (number_made false (whole_of n) (rest_of n) numeral.0.0 digits six)
    ∙ value_is false n h
number_of-millionths_text (negsuc k) h =
    let n = suc k in
    let numeral = decimal_is_IsNumeral_wide (n / 10 ^ 6) (omega arith) in
    let digits = digits_pass (whole_of n) numeral.0.1 in
    let six = six_pass (n % 10 ^ 6) in
    read_parts (45 ∷ unsigned_text n) (made true (whole_of n) (rest_of n) None) (parts_behind_minus (whole_of n) (rest_of n) digits six)
    (number_made true (whole_of n) (rest_of n) numeral.0.0 digits six)
    ∙ value_is true n h
