-- Seconds, written as digits behind a whole number, in units of 2^-30 s.
use Rattle.cd_text.proofs.DigitRuns.{digits_value_after-append}
use Rattle.cd_text.proofs.Powers.{ten_le, ten_pos}
use Rattle.cd_text.specs.Time.{units}
use Rattle.cd_text.specs.declared.fault.NumFault.TheVariants.{OutOfRange}
use Rattle.std.proofs.Common.{Err, List, Ok, [], ap, arith, length, min, refl, subst, sym, ℕ, ◌*◌, ◌++◌, ◌+◌, ◌/◌, ◌<◌, ◌^◌, ◌∙◌, ◌∷◌, ◌≡◌, ◌≤◌}
use Rattle.std.proofs.Math.Nat.{mul-le-mul_right, mul_assoc}
use Rattle.std.proofs.lemmas.Bool.{cond_above, cond_below}
use Rattle.std.proofs.lemmas.Nat.{div_below, pow-add}
use Rattle.std.specs.Char.{digit_value}
use Rattle.std.specs.Str.Parse.{digits_value, digits_value_after}

-- digits behind a number make it no less
pub digits_value_after-low : (n : ℕ) (ds : List ℕ) → n * 10 ^ length ds ≤ digits_value_after 10 n ds
digits_value_after-low n [] = omega arith
digits_value_after-low n (d ∷ ds) =
    let h : (n * 10 + digit_value d) * 10 ^ length ds ≤ digits_value_after 10 (n * 10 + digit_value d) ds = digits_value_after-low (n * 10 + digit_value d) ds in
    let p : 10 ^ (length ds + 1) ≡ 10 * 10 ^ length ds = omega (arith, pow-add 10 (length ds) 1) in
    let q : n * 10 ^ (length ds + 1) ≡ n * 10 * 10 ^ length ds = ap (λ (m : ℕ). n * m) p ∙ sym (mul_assoc n 10 (10 ^ length ds)) in
    let m : n * 10 * 10 ^ length ds ≤ (n * 10 + digit_value d) * 10 ^ length ds = mul-le-mul_right (10 ^ length ds) (omega arith) in
    let s : length ds + 1 ≡ length (d ∷ ds) = omega arith in
    subst (λ (k : ℕ). n * 10 ^ k ≤ digits_value_after 10 n (d ∷ ds)) s (omega (arith, q, h, m))

pub past_end : (whole fraction : List ℕ) (capped : ℕ) → capped ≡ min (digits_value 10 whole) (2 ^ 34) → capped ≡ 2 ^ 34
    → Err OutOfRange ≡ units (digits_value 10 (whole ++ fraction)) (10 ^ length fraction)
unfolding units
past_end whole fraction capped e over =
    let w : 2 ^ 34 ≤ digits_value 10 whole = omega arith in
    let m : 2 ^ 34 * 10 ^ length fraction ≤ digits_value 10 whole * 10 ^ length fraction = mul-le-mul_right (10 ^ length fraction) w in
    let low = digits_value_after-low (digits_value 10 whole) fraction in
    let same = digits_value_after-append 0 whole fraction in
    let n : ℕ = digits_value 10 (whole ++ fraction) in
    let d : ℕ = 10 ^ length fraction in
    cond_above n (2 ^ 34 * d) (Ok (n * 2 ^ 30 / d)) (Err OutOfRange) (Err OutOfRange) (omega (arith, m, low, same)) refl

pub before_end : (whole fraction : List ℕ) (capped result : ℕ) → capped ≡ min (digits_value 10 whole) (2 ^ 34) → (capped ≡ 2 ^ 34 → ⊥)
    → result ≡ digits_value_after 10 capped fraction * 2 ^ 30 / 10 ^ length fraction → digits_value_after 10 capped fraction < 2 ^ 34 * 10 ^ length fraction
    → Ok result ≡ units (digits_value 10 (whole ++ fraction)) (10 ^ length fraction)
unfolding units
before_end whole fraction capped result e under r in_range =
    let w : digits_value 10 whole ≡ capped = omega arith in
    let same : digits_value 10 (whole ++ fraction) ≡ digits_value_after 10 capped fraction
    = digits_value_after-append 0 whole fraction ∙ ap (λ (k : ℕ). digits_value_after 10 k fraction) w in
    let n : ℕ = digits_value_after 10 capped fraction in
    let d : ℕ = 10 ^ length fraction in
    rw (same, r) (cond_below n (2 ^ 34 * d) (Ok (n * 2 ^ 30 / d)) (Err OutOfRange) in_range)

-- what of it fits
pub numerator_small : (whole numerator k : ℕ) → whole < 2 ^ 34 → numerator < (whole + 1) * 10 ^ k → numerator < 2 ^ 34 * 10 ^ k
numerator_small whole numerator k under high =
    let m : (whole + 1) * 10 ^ k ≤ 2 ^ 34 * 10 ^ k = mul-le-mul_right (10 ^ k) (omega arith) in
    omega arith

pub numerator_fits : (numerator k : ℕ) → k ≤ 9 → numerator < 2 ^ 34 * 10 ^ k → numerator * 2 ^ 30 < 2 ^ 128
numerator_fits numerator k le small = let h = ten_le k 9 le in omega (arith, h)

pub units_fit : (numerator denominator k : ℕ) → numerator < 2 ^ 34 * 10 ^ k → denominator ≡ 10 ^ k → numerator * 2 ^ 30 / denominator < 2 ^ 64
units_fit numerator denominator k small d =
    rw d (div_below (numerator * 2 ^ 30) (10 ^ k) (2 ^ 64) (ten_pos k) (omega arith))
