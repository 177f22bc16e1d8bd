-- The value of a run of digits that grows by one.
use Rattle.cd_text.proofs.Powers.{ten_le}
use Rattle.std.proofs.Common.{List, [], ap, arith, get_or, length, refl, sym, take, true, ℕ, ◌*◌, ◌++◌, ◌+◌, ◌<◌, ◌^◌, ◌∙◌, ◌∷◌, ◌≡◌, ◌≤◌}
use Rattle.std.proofs.Math.Nat.{mul-le-mul_left, mul-le-mul_right, mul_assoc}
use Rattle.std.proofs.lemmas.Bool.{and_parts, leb-true}
use Rattle.std.proofs.lemmas.List.Folds.{list_all-append}
use Rattle.std.proofs.lemmas.List.Sums.{AllPass-from_list_all}
use Rattle.std.proofs.lemmas.List.{take_more}
use Rattle.std.proofs.lemmas.Nat.{pow-add}
use Rattle.std.specs.Char.{digit_value, is_ascii_digit}
use Rattle.std.specs.Int.{IsInRange}
use Rattle.std.specs.List.{list_all}
use Rattle.std.specs.Prelude.{nat_le}
use Rattle.std.specs.Str.Parse.{digits_value_after}

pub digits_value_after-append : (n : ℕ) (xs ys : List ℕ) → digits_value_after 10 n (xs ++ ys) ≡ digits_value_after 10 (digits_value_after 10 n xs) ys
digits_value_after-append n [] ys = refl
digits_value_after-append n (x ∷ xs) ys = digits_value_after-append (n * 10 + digit_value x) xs ys

pub one_more : (n : ℕ) (ds : List ℕ) (i : ℕ) → i < length ds → digits_value_after 10 n (take (i + 1) ds) ≡ digits_value_after 10 n (take i ds) * 10 + digit_value (get_or ds i 0)
one_more n ds i lt =
    ap (digits_value_after 10 n) (take_more ds i 0 lt) ∙ digits_value_after-append n (take i ds) (get_or ds i 0 ∷ [])

-- each byte of a run of digits is one
pub is_digit : (ds : List ℕ) (i : ℕ) → list_all is_ascii_digit ds ≡ true → i < length ds → IsInRange 48 57 (get_or ds i 0)
is_digit ds i all lt =
    let one : is_ascii_digit (get_or ds i 0) ≡ true = AllPass-from_list_all is_ascii_digit ds all i 0 lt in
    let both = and_parts (nat_le 48 (get_or ds i 0)) (nat_le (get_or ds i 0) 57) one in
    (leb-true 48 (get_or ds i 0) both.0, leb-true (get_or ds i 0) 57 both.1)

pub parts_are_digits : (front back : List ℕ) → list_all is_ascii_digit (front ++ back) ≡ true → (list_all is_ascii_digit front ≡ true) × (list_all is_ascii_digit back ≡ true)
parts_are_digits front back all = and_parts (list_all is_ascii_digit front) (list_all is_ascii_digit back) (sym (list_all-append is_ascii_digit front back) ∙ all)

-- the bounds of a number that has one digit more
ten_more : (i : ℕ) → 10 ^ (i + 1) ≡ 10 ^ i * 10
ten_more i = pow-add 10 i 1

pub low_more : (n value d i : ℕ) → n * 10 ^ i ≤ value → n * 10 ^ (i + 1) ≤ value * 10 + d
low_more n value d i low = let e = mul_assoc n (10 ^ i) 10 in rw (ten_more i) (omega (arith, e))

pub high_more : (n value d i : ℕ) → value < (n + 1) * 10 ^ i → d < 10 → value * 10 + d < (n + 1) * 10 ^ (i + 1)
high_more n value d i high digit = let e = mul_assoc (n + 1) (10 ^ i) 10 in rw (ten_more i) (omega (arith, e))

-- what has room for all digits has room for the first
pub room_for : (n i k : ℕ) → i ≤ k → (n + 1) * 10 ^ k ≤ 10 ^ 38 → (n + 1) * 10 ^ i ≤ 10 ^ 38
room_for n i k le room = let h = mul-le-mul_left (n + 1) (ten_le i k le) in omega (arith, h)

-- a number of i digits and k digits behind it
pub room_behind : (n i k : ℕ) → n < (0 + 1) * 10 ^ i → i + k ≤ 36 → (n + 1) * 10 ^ k ≤ 10 ^ 36
room_behind n i k small le =
    let e : 10 ^ (i + k) ≡ 10 ^ i * 10 ^ k = pow-add 10 i k in
    let h : (n + 1) * 10 ^ k ≤ 10 ^ i * 10 ^ k = mul-le-mul_right (10 ^ k) (omega arith) in
    let g : 10 ^ (i + k) ≤ 10 ^ 36 = ten_le (i + k) 36 le in
    omega arith
