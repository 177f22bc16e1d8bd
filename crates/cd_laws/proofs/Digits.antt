-- The digits that are printed, and their value.
use Rattle.cd_text.proofs.DigitRuns.{digits_value_after-append}
use Rattle.cd_value.specs.Print.{digit, six_digits}
use Rattle.std.proofs.Common.{Bool, List, [], ap, arith, false, refl, subst, true, ℕ, ◌%◌, ◌*◌, ◌++◌, ◌+◌, ◌/◌, ◌<◌, ◌^◌, ◌∙◌, ◌∷◌, ◌≡◌}
use Rattle.std.proofs.lemmas.Bool.{and_from, and_parts, le-leb, ne_eqb}
use Rattle.std.proofs.lemmas.Fmt.{decimal_is_IsNumeral_wide}
use Rattle.std.proofs.lemmas.Str.Parse.{digit_from_value}
use Rattle.std.proofs.lemmas.Str.{digit_value_digit}
use Rattle.std.specs.Char.{digit_value, is_ascii_digit}
use Rattle.std.specs.Fmt.{decimal}
use Rattle.std.specs.Int.{IsInRange}
use Rattle.std.specs.List.{list_all, list_any}
use Rattle.std.specs.Prelude.{nat_eq, nat_le}
use Rattle.std.specs.Str.Parse.{AllDigits, digits_value, digits_value_after}

digit_passes : (c : ℕ) → IsInRange 48 57 c → is_ascii_digit c ≡ true
digit_passes c range = and_from (nat_le 48 c) (nat_le c 57) (le-leb 48 c range.0) (le-leb c 57 range.1)

pub digits_pass : (ds : List ℕ) → AllDigits 10 ds → list_all is_ascii_digit ds ≡ true
digits_pass [] h = refl
digits_pass (c ∷ cs) h = rw (digit_passes c (digit_from_value c h.0), digits_pass cs h.1) refl

digit_range : (n : ℕ) → IsInRange 48 57 (digit n)
digit_range n = (omega arith, omega arith)

pub six_pass : (n : ℕ) → list_all is_ascii_digit (six_digits n) ≡ true
six_pass n =
    rw (
      digit_passes (digit (n / 100000)) (digit_range (n / 100000)),
      digit_passes (digit (n / 10000)) (digit_range (n / 10000)),
      digit_passes (digit (n / 1000)) (digit_range (n / 1000)),
      digit_passes (digit (n / 100)) (digit_range (n / 100)),
      digit_passes (digit (n / 10)) (digit_range (n / 10)),
      digit_passes (digit n) (digit_range n),
    ) refl

-- a byte that is a digit is none of the others
pub not_digit : (c other : ℕ) → is_ascii_digit c ≡ true → is_ascii_digit other ≡ false → nat_eq c other ≡ false
not_digit c other h e = ne_eqb c other (λ same. let at : is_ascii_digit other ≡ true = subst (λ n. is_ascii_digit n ≡ true) same h in cc)

pub none_of_digits : (p : ℕ → Bool) (ds : List ℕ) → ((c : ℕ) → is_ascii_digit c ≡ true → p c ≡ false) → list_all is_ascii_digit ds ≡ true → list_any p ds ≡ false
none_of_digits p [] h all = refl
none_of_digits p (c ∷ cs) h all =
    let both = and_parts (is_ascii_digit c) (list_all is_ascii_digit cs) all in
    rw (h c both.0, none_of_digits p cs h both.1) refl

value_of_digit : (n : ℕ) → digit_value (digit n) ≡ n % 10
value_of_digit n = let e : digit_value (digit n) + 48 ≡ digit n = digit_value_digit (digit n) (digit_range n) in omega arith

tenth : (n : ℕ) → n ≡ 10 * (n / 10) + n % 10
tenth n = omega arith

hundredth : (n : ℕ) → n / 10 ≡ 10 * (n / 100) + n / 10 % 10
hundredth n = omega arith

thousandth : (n : ℕ) → n / 100 ≡ 10 * (n / 1000) + n / 100 % 10
thousandth n = omega arith

fourth : (n : ℕ) → n / 1000 ≡ 10 * (n / 10000) + n / 1000 % 10
fourth n = omega arith

fifth : (n : ℕ) → n / 10000 ≡ 10 * (n / 100000) + n / 10000 % 10
fifth n = omega arith

last : (n : ℕ) → n < 1000000 → n / 100000 % 10 ≡ n / 100000
last n h = omega arith

combined : (v a b c d e f n n1 n2 n3 n4 n5 : ℕ) → n ≡ 10 * n1 + f → n1 ≡ 10 * n2 + e → n2 ≡ 10 * n3 + d → n3 ≡ 10 * n4 + c → n4 ≡ 10 * n5 + b → a ≡ n5
    → (((((v * 10 + a) * 10 + b) * 10 + c) * 10 + d) * 10 + e) * 10 + f ≡ v * 1000000 + n
combined v a b c d e f n n1 n2 n3 n4 n5 h1 h2 h3 h4 h5 h6 = omega arith

pub six_value : (v n : ℕ) → n < 1000000 → digits_value_after 10 v (six_digits n) ≡ v * 1000000 + n
six_value v n h =
    rw (
      value_of_digit (n / 100000),
      value_of_digit (n / 10000),
      value_of_digit (n / 1000),
      value_of_digit (n / 100),
      value_of_digit (n / 10),
      value_of_digit n,
    ) (combined v (n / 100000 % 10) (n / 10000 % 10) (n / 1000 % 10) (n / 100 % 10) (n / 10 % 10) (n % 10) n (n / 10) (n / 100) (n / 1000) (n / 10000) (n / 100000)
    (tenth n) (hundredth n) (thousandth n) (fourth n) (fifth n) (last n h))

-- the digits before and behind the dot write the number of millionths
pub printed_value : (n : ℕ) → n / 10 ^ 6 < 10 ^ 64 → digits_value 10 (decimal (n / 10 ^ 6) ++ six_digits (n % 10 ^ 6)) ≡ n
printed_value n h =
    let whole : digits_value 10 (decimal (n / 10 ^ 6)) ≡ n / 10 ^ 6 = (decimal_is_IsNumeral_wide (n / 10 ^ 6) h).1 in
    let rest : n % 10 ^ 6 < 1000000 = omega arith in
    digits_value_after-append 0 (decimal (n / 10 ^ 6)) (six_digits (n % 10 ^ 6))
    ∙ ap (λ v. digits_value_after 10 v (six_digits (n % 10 ^ 6))) whole ∙ six_value (n / 10 ^ 6) (n % 10 ^ 6) rest ∙ omega arith
