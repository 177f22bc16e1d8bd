-- What `parse` gives for the numbers of value words.
use Rattle.cd_sock.specs.Values.{change_of, count_of, fits_64_bits, is_numeral}
use Rattle.cd_text.specs.Digits.{are_digits}
use Rattle.std.proofs.Common.{Bool, Err, List, None, Ok, Option, Result, Some, ap, cond, drop, false, get_or, length, nat_lt, neg_ℤ, pos, refl, rules, sym, true, ℕ, ℤ, ◌&&◌, ◌<◌, ◌^◌, ◌∙◌, ◌≡◌, ◌≤◌}
use Rattle.std.proofs.lemmas.Bool.{and_from, and_parts, cond-false, cond-true, eqb-false, eqb-true, false_from_ne_true, le-leb, leb-true, lt-ltb, ltb-true}
use Rattle.std.proofs.lemmas.Str.Parse.{IsNumeralModel, numerals_by_value, parse_plain, parse_signed_minus, parse_signed_plain, parse_signed_plus}
use Rattle.std.specs.Prelude.{nat_le, slice_index, ◌==◌}
use Rattle.std.specs.Result.{OkIff, result_ok}
use Rattle.std.specs.Str.Parse.{ParsesSigned, ParsesUnsigned, digits_value, starts_with_minus, without_leading_sign}
use mir.Syntax.{w64}

-- a result that is Ok exactly where a test holds
pub by_test : {A E : Type 0} (r : Result A E) (P : Type 0) (v : A) (t : Bool) → OkIff r P v → (t ≡ true → P) → (P → t ≡ true) → result_ok r ≡ cond t (Some v) None
by_test {A} {E} (Ok x) P v t h to from = ap (λ (y : A). Some y) h.1 ∙ sym (cond-true t (Some v) None (from h.0))
by_test {A} {E} (Err e) P v t h to from = sym (cond-false t (Some v) None (false_from_ne_true t (λ is. h (to is))))

own : IsNumeralModel (λ ds. are_digits ds ≡ true) (digits_value 10)
own = numerals_by_value _ (search rules)

-- a numeral below a bound
below : (ds : List ℕ) (t : Bool) (P : Type 0) → (t ≡ true → P) → (P → t ≡ true) → (((is_numeral ds && t) ≡ true → (are_digits ds ≡ true) × (0 < length ds) × P) × ((are_digits ds ≡ true) × (0 < length ds) × P → (is_numeral ds && t) ≡ true))
below ds t P to from = (
  λ h. let both = and_parts (is_numeral ds) t h in let numeral = and_parts (nat_lt 0 (length ds)) (are_digits ds) both.0 in (numeral.1, ltb-true 0 (length ds) numeral.0, to both.1),
  λ h. and_from (is_numeral ds) t (and_from (nat_lt 0 (length ds)) (are_digits ds) (lt-ltb 0 (length ds) h.1) h.0) (from h.2),
)

pub count_parsed : {E : Type 0} (bs : List ℕ) (r : Result ℕ E) → ParsesUnsigned 64 10 bs r → (slice_index bs 0 == 43) ≡ false → result_ok r ≡ count_of bs
count_parsed {E} bs r h plain =
    let b = below bs (nat_lt (digits_value 10 bs) (2 ^ 64)) (digits_value 10 bs < 2 ^ 64) (ltb-true (digits_value 10 bs) (2 ^ 64)) (lt-ltb (digits_value 10 bs) (2 ^ 64)) in
    by_test r _ (digits_value 10 bs) _ (parse_plain own 64 bs r h (eqb-false (get_or bs 0 0) 43 plain)) b.0 b.1

abbrev change_with : Bool → List ℕ → Option ℤ
change_with is_negative digits =
    let value = digits_value 10 digits in
    cond (is_numeral digits && fits_64_bits is_negative value) (Some (cond is_negative (neg_ℤ (pos value)) (pos value))) None

at_sign : (bs digits : List ℕ) (is_negative : Bool) → starts_with_minus bs ≡ is_negative → without_leading_sign bs ≡ digits → change_with is_negative digits ≡ change_of bs
at_sign bs digits is_negative sign rest = ap (λ (n : Bool). change_with n digits) (sym sign) ∙ ap (change_with (starts_with_minus bs)) (sym rest)

pub change_parsed : {E : Type 0} (bs : List ℕ) (r : Result ℤ E) → ParsesSigned w64 10 bs r → result_ok r ≡ change_of bs
change_parsed {E} bs r h = by_minus (slice_index bs 0 == 45) refl
  where
    below_63 : (ds : List ℕ) → (((is_numeral ds && nat_lt (digits_value 10 ds) (2 ^ 63)) ≡ true → (are_digits ds ≡ true) × (0 < length ds) × (digits_value 10 ds < 2 ^ 63)) × ((are_digits ds ≡ true) × (0 < length ds) × (digits_value 10 ds < 2 ^ 63) → (is_numeral ds && nat_lt (digits_value 10 ds) (2 ^ 63)) ≡ true))
    below_63 ds = below ds (nat_lt (digits_value 10 ds) (2 ^ 63)) (digits_value 10 ds < 2 ^ 63) (ltb-true (digits_value 10 ds) (2 ^ 63)) (lt-ltb (digits_value 10 ds) (2 ^ 63))

    up_to_63 : (ds : List ℕ) → (((is_numeral ds && nat_le (digits_value 10 ds) (2 ^ 63)) ≡ true → (are_digits ds ≡ true) × (0 < length ds) × (digits_value 10 ds ≤ 2 ^ 63)) × ((are_digits ds ≡ true) × (0 < length ds) × (digits_value 10 ds ≤ 2 ^ 63) → (is_numeral ds && nat_le (digits_value 10 ds) (2 ^ 63)) ≡ true))
    up_to_63 ds = below ds (nat_le (digits_value 10 ds) (2 ^ 63)) (digits_value 10 ds ≤ 2 ^ 63) (leb-true (digits_value 10 ds) (2 ^ 63)) (le-leb (digits_value 10 ds) (2 ^ 63))

    by_plus : (t : Bool) → (slice_index bs 0 == 43) ≡ t → (slice_index bs 0 == 45) ≡ false → result_ok r ≡ change_of bs
    by_plus true e m =
        let b = below_63 (drop 1 bs) in
        by_test r _ _ _ (parse_signed_plus own w64 bs r h (eqb-true (get_or bs 0 0) 43 e)) b.0 b.1 ∙ at_sign bs (drop 1 bs) false m (rw (m, e) refl)
    by_plus false e m =
        let b = below_63 bs in
        by_test r _ _ _ (parse_signed_plain own w64 bs r h (eqb-false (get_or bs 0 0) 43 e) (eqb-false (get_or bs 0 0) 45 m)) b.0 b.1 ∙ at_sign bs bs false m (rw (m, e) refl)

    by_minus : (t : Bool) → (slice_index bs 0 == 45) ≡ t → result_ok r ≡ change_of bs
    by_minus true m =
        let b = up_to_63 (drop 1 bs) in
        by_test r _ _ _ (parse_signed_minus own w64 bs r h (eqb-true (get_or bs 0 0) 45 m)) b.0 b.1 ∙ at_sign bs (drop 1 bs) true m (rw m refl)
    by_minus false m = by_plus (slice_index bs 0 == 43) refl m
