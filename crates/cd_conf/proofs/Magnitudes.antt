-- The value of digits, and its limit.
use Rattle.cd_conf.specs.Numbers.{at_most}
use Rattle.std.proofs.Common.{Bool, List, None, Some, [], add-one, ap, arith, drop, drop-cons, false, get_or, length, lit<, refl, sym, true, ℕ, ◌*◌, ◌+◌, ◌<◌, ◌^◌, ◌∙◌, ◌∷◌, ◌≡◌, ◌≤◌}
use Rattle.std.proofs.Math.Nat.{mul-le-mul_left, one-le-pow}
use Rattle.std.proofs.lemmas.Bool.{leb-false, leb-true, lt-leb}
use Rattle.std.specs.Char.{digit_value}
use Rattle.std.specs.Prelude.{nat_le}
use Rattle.std.specs.Str.Parse.{digits_value_after}

-- more digits make no smaller number
pub grows : (base n : ℕ) (ds : List ℕ) → 1 ≤ base → n ≤ digits_value_after base n ds
grows base n [] b = omega arith
grows base n (d ∷ ds) b =
    let h = grows base (n * base + digit_value d) ds b in
    let g : n * 1 ≤ n * base = mul-le-mul_left n b in
    omega (arith, h, g)

-- one digit more
pub one_more : (base n : ℕ) (ds : List ℕ) (i : ℕ) → i < length ds → digits_value_after base n (drop i ds) ≡ digits_value_after base (n * base + digit_value (get_or ds i 0)) (drop (i + 1) ds)
one_more base n ds i lt =
    let at : drop i ds ≡ get_or ds i 0 ∷ drop (i + 1) ds = rw add-one (drop-cons ds i 0 lt) in
    ap (digits_value_after base n) at

pub above : (limit n m : ℕ) → at_most limit n ≡ None → n ≤ m → at_most limit m ≡ None
above limit n m h le = past (nat_le n limit) refl
  where
    past : (t : Bool) → nat_le n limit ≡ t → at_most limit m ≡ None
    past true e = absurd (let f : Some n ≡ None = sym (rw e refl) ∙ h in cc f)
    past false e = rw (lt-leb m limit (omega (arith, leb-false n limit e))) refl

pub within : (limit n m : ℕ) → at_most limit n ≡ Some m → (m ≡ n) × (n ≤ limit)
within limit n m h = by (nat_le n limit) refl
  where
    by : (t : Bool) → nat_le n limit ≡ t → (m ≡ n) × (n ≤ limit)
    by true e = let f : Some n ≡ Some m = sym (rw e refl) ∙ h in (cc, leb-true n limit e)
    by false e = absurd (let f : None ≡ Some m = sym (rw e refl) ∙ h in cc f)

-- what is above the limit stays above it
pub above_digits : (limit base n : ℕ) (ds : List ℕ) (total : ℕ) → 1 ≤ base → digits_value_after base n ds ≡ total → None ≡ at_most limit n → None ≡ at_most limit total
above_digits limit base n ds total b e h =
    let g = grows base n ds b in sym (above limit n total (sym h) (omega (arith, g)))

pub above_power : (limit n k : ℕ) → None ≡ at_most limit n → None ≡ at_most limit (n * 10 ^ k)
above_power limit n k h =
    let g : n * 1 ≤ n * 10 ^ k = mul-le-mul_left n (one-le-pow k 10 (lit< tt)) in sym (above limit n (n * 10 ^ k) (sym h) (omega (arith, g)))
