-- A number that is printed is read as itself.
use Rattle.cd_conf.specs.Canonical.{decimals, fraction_text, number_text, unsigned_text}
use Rattle.cd_conf.specs.Characters.{is_in_word}
use Rattle.cd_conf.specs.Numbers.{Digits, all_digits, are_digits, at_most, decimal_digits, digits, digits_of, fraction, is_false_word, is_hexadecimal, is_octal, is_true_word, is_whole, magnitude, millionths, millionths_limit, number_arg, plain_arg, with_sign, word_arg}
use Rattle.cd_conf.specs.declared.item.Arg.TheVariants.{Number}
use Rattle.cd_text.specs.Digits.{after_place, is_dot}
use Rattle.cd_value.proofs.Cuts.{place_behind, place_none}
use Rattle.cd_value.specs.Print.{digit}
use Rattle.std.proofs.Common.{Bool, List, None, Ok, Some, [], ap, arith, false, length, length-append, pos, refl, subst, suc, sym, take, true, zero, ℕ, ℤ, ◌%◌, ◌&&◌, ◌*◌, ◌++◌, ◌+◌, ◌-◌, ◌/◌, ◌<◌, ◌==◌, ◌^◌, ◌||◌, ◌∙◌, ◌∷◌, ◌≡◌, ◌≤◌}
use Rattle.std.proofs.Math.Nat.{div-lt_iff_lt-mul, one-le-pow}
use Rattle.std.proofs.Math.Seq.{drop-append-add, take-append_seam, take-length}
use Rattle.std.proofs.lemmas.Bool.{and_from, and_left, and_parts, and_right, both_ways, eqb-true, le-leb, le-ltb, lt-ltb, ltb-false, ltb-true, ne_eqb, or_right}
use Rattle.std.proofs.lemmas.Fmt.{decimal_digit, decimal_is_IsNumeral_wide, first_decimal}
use Rattle.std.proofs.lemmas.List.Folds.{list_all-append}
use Rattle.std.proofs.lemmas.List.{append-nil}
use Rattle.std.proofs.lemmas.Nat.{pow-add}
use Rattle.std.proofs.lemmas.Str.Parse.{digit_from_value}
use Rattle.std.proofs.lemmas.Str.{digit_value_digit}
use Rattle.std.specs.Char.{digit_value, is_digit}
use Rattle.std.specs.Fmt.{decimal}
use Rattle.std.specs.Int.{IsInRange}
use Rattle.std.specs.List.{before_first, list_all, list_any, position, position_or_len}
use Rattle.std.specs.Prelude.{nat_abs, nat_lt, negsuc, slice_index}
use Rattle.std.specs.Str.Parse.{AllDigits, IsNumeral, digits_value, digits_value_after, starts_with_minus, without_leading_sign}

-- ---- decimals

digit_range : (n : ℕ) → IsInRange 48 57 (digit n)
digit_range n = (omega arith, omega arith)

value_of_digit : (n : ℕ) → digit_value (digit n) ≡ n % 10
value_of_digit n = let e : digit_value (digit n) + 48 ≡ digit n = digit_value_digit (digit n) (digit_range n) in omega arith

digit_is : (n : ℕ) → is_digit (digit n) 10 ≡ true
digit_is n = lt-ltb (digit_value (digit n)) 10 (let e = value_of_digit n in omega (arith, e))

pub decimals_are_digits : (k n : ℕ) → all_digits 10 (decimals k n) ≡ true
unfolding decimals
decimals_are_digits zero n = refl
decimals_are_digits (suc k) n = by (n == 0) refl (decimals_are_digits k (n % 10 ^ k))
  where
    by : (t : Bool) → (n == 0) ≡ t → all_digits 10 (decimals k (n % 10 ^ k)) ≡ true → all_digits 10 (decimals (suc k) n) ≡ true
    by true e h = rw e refl
    by false e h = rw (e, digit_is (n / 10 ^ k), h) refl

pub decimals_few : (k n : ℕ) → length (decimals k n) ≤ k
unfolding decimals
decimals_few zero n = omega arith
decimals_few (suc k) n = by (n == 0) refl (decimals_few k (n % 10 ^ k))
  where
    by : (t : Bool) → (n == 0) ≡ t → length (decimals k (n % 10 ^ k)) ≤ k → length (decimals (suc k) n) ≤ suc k
    by true e h = rw e (omega arith)
    by false e h = rw e (omega (arith, h))

pub decimals_some : (k n : ℕ) → (n == 0) ≡ false → 0 < length (decimals (suc k) n)
unfolding decimals
decimals_some k n e = rw e (omega arith)

ten : (k : ℕ) → 10 ^ (suc k) ≡ 10 * 10 ^ k
ten k = let e : 10 ^ (1 + k) ≡ 10 ^ 1 * 10 ^ k = pow-add 10 1 k in ap (λ (j : ℕ). 10 ^ j) (omega arith) ∙ e

first_small : (k n : ℕ) → n < 10 ^ (suc k) → n / 10 ^ k < 10
first_small k n h =
    let p : 0 < 10 ^ k = one-le-pow k 10 (omega arith) in
    let e = ten k in
    (div-lt_iff_lt-mul {k = 10 ^ k} {x = n} {y = 10} p).1 (omega (arith, e))

joined : (w d p r n k : ℕ) → n ≡ d * p + r → (w * 10 + d) * p + r ≡ w * (10 * p) + n
joined w d p r n k h = omega arith

-- the digits that are printed of a number below 1 have its value
pub decimals_value : (k n w : ℕ) → n < 10 ^ k → digits_value_after 10 w (decimals k n) * 10 ^ (k - length (decimals k n)) ≡ w * 10 ^ k + n
unfolding decimals
decimals_value zero n w h = omega arith
decimals_value (suc k) n w h =
    by (n == 0) refl (decimals_value k (n % 10 ^ k) (w * 10 + digit_value (digit (n / 10 ^ k))) (let p : 0 < 10 ^ k = one-le-pow k 10 (omega arith) in omega arith))
  where
    by : (t : Bool) → (n == 0) ≡ t
        → digits_value_after 10 (w * 10 + digit_value (digit (n / 10 ^ k))) (decimals k (n % 10 ^ k)) * 10 ^ (k - length (decimals k (n % 10 ^ k)))
        ≡ (w * 10 + digit_value (digit (n / 10 ^ k))) * 10 ^ k + n % 10 ^ k
        → digits_value_after 10 w (decimals (suc k) n) * 10 ^ (suc k - length (decimals (suc k) n)) ≡ w * 10 ^ (suc k) + n
    by true e so_far =
        let z : n ≡ 0 = eqb-true n 0 e in
        let all : suc k - 0 ≡ suc k = omega arith in
        let same : w * 10 ^ (suc k) ≡ w * 10 ^ (suc k) + n = omega arith in
        rw e (ap (λ (j : ℕ). w * 10 ^ j) all ∙ same)
    by false e so_far =
        let p : 0 < 10 ^ k = one-le-pow k 10 (omega arith) in
        let s : n / 10 ^ k < 10 = first_small k n h in
        let v : digit_value (digit (n / 10 ^ k)) ≡ n / 10 ^ k = value_of_digit (n / 10 ^ k) ∙ omega arith in
        let parts : n ≡ n / 10 ^ k * 10 ^ k + n % 10 ^ k = omega arith in
        let less : suc k - suc (length (decimals k (n % 10 ^ k))) ≡ k - length (decimals k (n % 10 ^ k)) = omega arith in
        rw e (ap (λ (j : ℕ). digits_value_after 10 (w * 10 + digit_value (digit (n / 10 ^ k))) (decimals k (n % 10 ^ k)) * 10 ^ j) less
        ∙ so_far ∙ ap (λ (d : ℕ). (w * 10 + d) * 10 ^ k + n % 10 ^ k) v ∙ joined w (n / 10 ^ k) (10 ^ k) (n % 10 ^ k) n k parts ∙ ap (λ (x : ℕ). w * x + n) (sym (ten k)))

-- ---- the digits before the dot

digits_pass : (ds : List ℕ) → AllDigits 10 ds → all_digits 10 ds ≡ true
digits_pass [] h = refl
digits_pass (c ∷ cs) h = rw (lt-ltb (digit_value c) 10 h.0, digits_pass cs h.1) refl

pub decimal_is_whole : (n : ℕ) → n < 2 ^ 64 → is_whole (decimal n) ≡ true
decimal_is_whole n h = by (nat_lt n 10) refl
  where
    numeral : are_digits 10 (decimal n) ≡ true
    numeral =
        let d = (decimal_is_IsNumeral_wide n (omega arith)).0 in
        and_from (nat_lt 0 (length (decimal n))) (all_digits 10 (decimal n)) (lt-ltb 0 (length (decimal n)) d.0) (digits_pass (decimal n) d.1)

    front : (t : Bool) → nat_lt n 10 ≡ t → (length (decimal n) == 1 || nat_lt 48 (slice_index (decimal n) 0)) ≡ true
    front true e = let one : decimal n ≡ (48 + n) ∷ [] = decimal_digit n (ltb-true n 10 e) in rw one refl
    front false e =
        let big : 48 < slice_index (decimal n) 0 = first_decimal n (let b = ltb-false n 10 e in omega arith) h in
        or_right (length (decimal n) == 1) (nat_lt 48 (slice_index (decimal n) 0)) (lt-ltb 48 (slice_index (decimal n) 0) big)

    by : (t : Bool) → nat_lt n 10 ≡ t → is_whole (decimal n) ≡ true
    by t e = and_from (are_digits 10 (decimal n)) (length (decimal n) == 1 || nat_lt 48 (slice_index (decimal n) 0)) numeral (front t e)

-- a byte that is a digit is none of the others
digit_in : (c : ℕ) → is_digit c 10 ≡ true → IsInRange 48 57 c
digit_in c h = digit_from_value c (ltb-true (digit_value c) 10 h)

digit_apart : (c other : ℕ) → is_digit c 10 ≡ true → is_digit other 10 ≡ false → (c == other) ≡ false
digit_apart c other h e = ne_eqb c other (λ same. both_ways (is_digit other 10) e (subst (λ (n : ℕ). is_digit n 10 ≡ true) same h))

no_dots : (ds : List ℕ) → all_digits 10 ds ≡ true → list_any is_dot ds ≡ false
no_dots [] all = refl
no_dots (c ∷ cs) all =
    let both = and_parts (is_digit c 10) (all_digits 10 cs) all in
    rw (digit_apart c 46 both.0 refl, no_dots cs both.1) refl

-- ---- which digits a printed number has

-- what may follow the digits before a dot: nothing, or a dot
abbrev is_tail : List ℕ → Bool
is_tail [] = true
is_tail (c ∷ cs) = c == 46

not_hexadecimal : (w f : List ℕ) → is_whole w ≡ true → is_tail f ≡ true → is_hexadecimal (w ++ f) ≡ false
not_hexadecimal [] f whole tail = absurd (cc whole)
not_hexadecimal (d ∷ []) [] whole tail = and_right (d == 48) (0 == 120 && are_digits 16 []) refl
not_hexadecimal (d ∷ []) (c ∷ cs) whole tail =
    let dot : c ≡ 46 = eqb-true c 46 tail in
    and_right (d == 48) (c == 120 && are_digits 16 cs) (and_left (c == 120) (are_digits 16 cs) (ne_eqb c 120 (λ e. absurd (omega arith))))
not_hexadecimal (d ∷ e ∷ ds) f whole tail =
    let all = (and_parts (nat_lt 0 (length (d ∷ e ∷ ds))) (all_digits 10 (d ∷ e ∷ ds)) (and_parts (are_digits 10 (d ∷ e ∷ ds)) _ whole).0).1 in
    let one = (and_parts (is_digit e 10) (all_digits 10 ds) (and_parts (is_digit d 10) (all_digits 10 (e ∷ ds)) all).1).0 in
    and_right (d == 48) (e == 120 && are_digits 16 (ds ++ f)) (and_left (e == 120) (are_digits 16 (ds ++ f)) (digit_apart e 120 one refl))

not_octal : (w f : List ℕ) → is_whole w ≡ true → is_tail f ≡ true → is_octal (w ++ f) ≡ false
not_octal [] f whole tail = absurd (cc whole)
not_octal (d ∷ []) [] whole tail = and_right (d == 48) (are_digits 8 []) refl
not_octal (d ∷ []) (c ∷ cs) whole tail =
    let dot : c ≡ 46 = eqb-true c 46 tail in
    and_right (d == 48) (are_digits 8 (c ∷ cs)) (and_right (nat_lt 0 (length (c ∷ cs))) (all_digits 8 (c ∷ cs)) (rw dot refl))
not_octal (d ∷ e ∷ ds) f whole tail =
    let front = (and_parts (are_digits 10 (d ∷ e ∷ ds)) (length (d ∷ e ∷ ds) == 1 || nat_lt 48 d) whole).1 in
    let long : (length (d ∷ e ∷ ds) == 1) ≡ false = ne_eqb (length (d ∷ e ∷ ds)) 1 (λ same. absurd (omega arith)) in
    let first : (length (d ∷ e ∷ ds) == 1 || nat_lt 48 d) ≡ nat_lt 48 d = rw long refl in
    let big : 48 < d = ltb-true 48 d (sym first ∙ front) in
    and_left (d == 48) (are_digits 8 (e ∷ ds ++ f)) (ne_eqb d 48 (λ same. absurd (omega arith)))

as_decimal : (t : List ℕ) → is_hexadecimal t ≡ false → is_octal t ≡ false → digits_of t ≡ decimal_digits t
as_decimal t h o = rw (h, o) refl

-- digits, and a dot and digits behind them
module _ (w ds : List ℕ) (whole : is_whole w ≡ true) (some : are_digits 10 ds ≡ true) where
  all : all_digits 10 w ≡ true
  all = (and_parts (nat_lt 0 (length w)) (all_digits 10 w) (and_parts (are_digits 10 w) (length w == 1 || nat_lt 48 (slice_index w 0)) whole).0).1

  dot_place : position_or_len is_dot (w ++ 46 ∷ ds) ≡ length w
  dot_place = place_behind is_dot w 46 ds (no_dots w all) refl

  before : before_first is_dot (w ++ 46 ∷ ds) ≡ w
  before = ap (λ (n : ℕ). take n (w ++ 46 ∷ ds)) dot_place ∙ take-append_seam w (46 ∷ ds)

  found : position is_dot (w ++ 46 ∷ ds) ≡ Some (length w)
  found = rw (dot_place, lt-ltb (length w) (length (w ++ 46 ∷ ds)) (omega (arith, length-append w (46 ∷ ds)))) refl

  behind : fraction (w ++ 46 ∷ ds) ≡ Some ds
  behind = ap (after_place (w ++ 46 ∷ ds)) found ∙ ap Some (drop-append-add w (46 ∷ ds) 1)

  dotted_digits : decimal_digits (w ++ 46 ∷ ds) ≡ Some (digits 10 w ds)
  dotted_digits = rw (before, behind, whole, some) refl

  dotted : digits_of (w ++ 46 ∷ ds) ≡ Some (digits 10 w ds)
  dotted = as_decimal (w ++ 46 ∷ ds) (not_hexadecimal w (46 ∷ ds) whole refl) (not_octal w (46 ∷ ds) whole refl) ∙ dotted_digits

module _ (w : List ℕ) (whole : is_whole w ≡ true) where
  all_alone : all_digits 10 w ≡ true
  all_alone = (and_parts (nat_lt 0 (length w)) (all_digits 10 w) (and_parts (are_digits 10 w) (length w == 1 || nat_lt 48 (slice_index w 0)) whole).0).1

  none : position_or_len is_dot w ≡ length w
  none = place_none is_dot w (no_dots w all_alone)

  before_alone : before_first is_dot w ≡ w
  before_alone = ap (λ (n : ℕ). take n w) none ∙ take-length w

  not_found : position is_dot w ≡ None
  not_found = rw (none, le-ltb (length w) (length w) (omega arith)) refl

  behind_alone : fraction w ≡ None
  behind_alone = ap (after_place w) not_found

  plain_digits : decimal_digits w ≡ Some (digits 10 w [])
  plain_digits = rw (before_alone, behind_alone, whole) refl

  plain : digits_of w ≡ Some (digits 10 w [])
  plain =
      let h : is_hexadecimal (w ++ []) ≡ false = not_hexadecimal w [] whole refl in
      let o : is_octal (w ++ []) ≡ false = not_octal w [] whole refl in
      as_decimal w (ap is_hexadecimal (sym (append-nil w)) ∙ h) (ap is_octal (sym (append-nil w)) ∙ o) ∙ plain_digits

-- ---- a printed number as a word

within : (n : ℕ) → n ≤ millionths_limit → at_most millionths_limit n ≡ Some n
within n h = rw (le-leb n millionths_limit h) refl

sized : (ds : Digits) (n : ℕ) → length ds.decimals ≤ 6 → millionths ds ≡ n → n ≤ millionths_limit → magnitude ds ≡ Some n
unfolding magnitude
sized ds n few e h = rw (le-leb (length ds.decimals) 6 few, e) (within n h)

abbrev units : ℕ → List ℕ
units n = decimal (n / 10 ^ 6)

-- the digits of a printed number, which have its value
unsigned_reads : (n : ℕ) → n ≤ millionths_limit → (ds : Digits) × (digits_of (unsigned_text n) ≡ Some ds) × (magnitude ds ≡ Some n)
unsigned_reads n h = by (n % 10 ^ 6 == 0) refl
  where
    small : n / 10 ^ 6 < 2 ^ 64
    small = omega arith

    whole : is_whole (units n) ≡ true
    whole = decimal_is_whole (n / 10 ^ 6) small

    value : digits_value 10 (units n) ≡ n / 10 ^ 6
    value = (decimal_is_IsNumeral_wide (n / 10 ^ 6) (omega arith)).1

    by : (t : Bool) → (n % 10 ^ 6 == 0) ≡ t → (ds : Digits) × (digits_of (unsigned_text n) ≡ Some ds) × (magnitude ds ≡ Some n)
    by true e =
        let z : n % 10 ^ 6 ≡ 0 = eqb-true (n % 10 ^ 6) 0 e in
        let text : unsigned_text n ≡ units n = ap (λ (f : List ℕ). units n ++ f) (rw e refl) ∙ append-nil (units n) in
        let total : digits_value 10 (units n) * 10 ^ 6 ≡ n = ap (λ (v : ℕ). v * 10 ^ 6) value ∙ omega arith in
        (digits 10 (units n) [], ap digits_of text ∙ plain (units n) whole, sized (digits 10 (units n) []) n (omega arith) total h)
    by false e =
        let ds : List ℕ = decimals 6 (n % 10 ^ 6) in
        let some : are_digits 10 ds ≡ true = and_from (nat_lt 0 (length ds)) (all_digits 10 ds) (lt-ltb 0 (length ds) (decimals_some 5 (n % 10 ^ 6) e)) (decimals_are_digits 6 (n % 10 ^ 6)) in
        let text : unsigned_text n ≡ units n ++ 46 ∷ ds = ap (λ (f : List ℕ). units n ++ f) (rw e refl) in
        let total : millionths (digits 10 (units n) ds) ≡ n
        = decimals_value 6 (n % 10 ^ 6) (digits_value 10 (units n)) (omega arith) ∙ ap (λ (v : ℕ). v * 10 ^ 6 + n % 10 ^ 6) value ∙ omega arith in
        (digits 10 (units n) ds, ap digits_of text ∙ dotted (units n) ds whole some, sized (digits 10 (units n) ds) n (decimals_few 6 (n % 10 ^ 6)) total h)

-- a word that begins with no letter is no flag
apart_from : (d x : ℕ) → nat_lt d 65 ≡ true → 65 ≤ x → (d == x) ≡ false
apart_from d x h le = let l = ltb-true d 65 h in ne_eqb d x (λ e. absurd (omega (arith, l)))

not_true_word : (d : ℕ) (ds : List ℕ) → nat_lt d 65 ≡ true → is_true_word (d ∷ ds) ≡ false
not_true_word d ds h = rw (h, apart_from d 116 h (omega arith), apart_from d 121 h (omega arith), apart_from d 111 h (omega arith)) refl

not_false_word : (d : ℕ) (ds : List ℕ) → nat_lt d 65 ≡ true → is_false_word (d ∷ ds) ≡ false
not_false_word d ds h = rw (h, apart_from d 102 h (omega arith), apart_from d 110 h (omega arith), apart_from d 111 h (omega arith)) refl

word_number : (line d n : ℕ) (cs : List ℕ) (is_negative : Bool) (ds : Digits) → nat_lt d 65 ≡ true → starts_with_minus (d ∷ cs) ≡ is_negative
    → digits_of (without_leading_sign (d ∷ cs)) ≡ Some ds → magnitude ds ≡ Some n → word_arg line (d ∷ cs) ≡ Ok (Number (with_sign is_negative n))
unfolding word_arg
word_number line d n cs is_negative ds low minus read size =
    rw (not_true_word d cs low, not_false_word d cs low) (ap (plain_arg line (d ∷ cs)) read
    ∙ ap (number_arg line (starts_with_minus (d ∷ cs))) size ∙ ap (λ (b : Bool). Ok (Number (with_sign b n))) minus)

-- the first digit of a printed number
first_digit : (n : ℕ) → n ≤ millionths_limit → (d : ℕ) × (ds : List ℕ) × (unsigned_text n ≡ d ∷ ds) × (is_digit d 10 ≡ true)
first_digit n h = by (decimal (n / 10 ^ 6)) (decimal_is_IsNumeral_wide (n / 10 ^ 6) (omega arith)).0
  where
    by : (w : List ℕ) → IsNumeral 10 w → (d : ℕ) × (ds : List ℕ) × (w ++ fraction_text (n % 10 ^ 6) ≡ d ∷ ds) × (is_digit d 10 ≡ true)
    by [] g = absurd (omega (arith, g.0))
    by (d ∷ ds) g = (d, ds ++ fraction_text (n % 10 ^ 6), refl, lt-ltb (digit_value d) 10 g.1.0)

unsigned_word : (line n d : ℕ) (cs : List ℕ) → n ≤ millionths_limit → unsigned_text n ≡ d ∷ cs → is_digit d 10 ≡ true → word_arg line (unsigned_text n) ≡ Ok (Number (pos n))
unsigned_word line n d cs h e first =
    let r = unsigned_reads n h in
    let range = digit_in d first in
    let minus : (d == 45) ≡ false = digit_apart d 45 first refl in
    let plus : (d == 43) ≡ false = digit_apart d 43 first refl in
    let bare : without_leading_sign (d ∷ cs) ≡ d ∷ cs = rw (minus, plus) refl in
    ap (word_arg line) e
    ∙ word_number line d n cs false r.0 (lt-ltb d 65 (let high = range.1 in omega (arith, high))) minus (ap digits_of (bare ∙ sym e) ∙ r.1) r.2

-- a printed number is read as itself
pub number_reads : (line : ℕ) (z : ℤ) → nat_abs z ≤ millionths_limit → word_arg line (number_text z) ≡ Ok (Number z)
number_reads line (pos n) h = let f = first_digit n h in unsigned_word line n f.0 f.1 h f.2 f.3
number_reads line (negsuc n) h = let r = unsigned_reads (suc n) h in word_number line 45 (suc n) (unsigned_text (suc n)) true r.0 refl refl r.1 r.2

-- ---- the characters of a printed number

digit_in_word : (c : ℕ) → is_digit c 10 ≡ true → is_in_word c ≡ true
digit_in_word c h =
    let range = digit_in c h in
    rw (le-leb 48 c range.0, le-leb c 57 range.1) refl

digits_in_word : (ds : List ℕ) → all_digits 10 ds ≡ true → list_all is_in_word ds ≡ true
digits_in_word [] h = refl
digits_in_word (c ∷ cs) h =
    let both = and_parts (is_digit c 10) (all_digits 10 cs) h in
    rw (digit_in_word c both.0, digits_in_word cs both.1) refl

fraction_in_word : (n : ℕ) → list_all is_in_word (fraction_text n) ≡ true
fraction_in_word n = by (n == 0) refl
  where
    by : (t : Bool) → (n == 0) ≡ t → list_all is_in_word (fraction_text n) ≡ true
    by true e = rw e refl
    by false e = rw e (digits_in_word (decimals 6 n) (decimals_are_digits 6 n))

unsigned_in_word : (n : ℕ) → n ≤ millionths_limit → (0 < length (unsigned_text n)) × (list_all is_in_word (unsigned_text n) ≡ true)
unsigned_in_word n h =
    let d = (decimal_is_IsNumeral_wide (n / 10 ^ 6) (omega arith)).0 in
    let some = d.0 in
    let w = digits_in_word (units n) (digits_pass (units n) d.1) in (
      omega (arith, some, length-append (units n) (fraction_text (n % 10 ^ 6))),
      list_all-append is_in_word (units n) (fraction_text (n % 10 ^ 6)) ∙ and_from (list_all is_in_word (units n)) (list_all is_in_word (fraction_text (n % 10 ^ 6))) w (fraction_in_word (n % 10 ^ 6)),
    )

pub number_in_word : (z : ℤ) → nat_abs z ≤ millionths_limit → (0 < length (number_text z)) × (list_all is_in_word (number_text z) ≡ true)
number_in_word (pos n) h = unsigned_in_word n h
number_in_word (negsuc n) h = let w = unsigned_in_word (suc n) h in (omega arith, w.1)
