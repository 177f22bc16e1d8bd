-- A fraction with powers of ten, in millionths.
use Rattle.cd_text.specs.Millionths.{bounded_millionths, scaled_millionths}
use Rattle.std.proofs.Common.{None, Some, ap, arith, inl, inr, refl, sym, ℕ, ◌*◌, ◌+◌, ◌-◌, ◌/◌, ◌<◌, ◌^◌, ◌∙◌, ◌≡◌, ◌≤◌}
use Rattle.std.proofs.Math.Nat.{div-eq_of_lt, div-le_of_le-mul, div-mul-le_self, mul-div-mul_right, mul-div_cancel, mul-le-mul_left, mul-le-mul_right, mul-lt-mul_of_pos_right, mul_assoc, pow-le-pow_right}
use Rattle.std.proofs.lemmas.Bool.{cases_lt, cond_above, cond_below}
use Rattle.std.proofs.lemmas.Nat.{pow-add}

pub ten_le : (i j : ℕ) → i ≤ j → 10 ^ i ≤ 10 ^ j
ten_le i j le = pow-le-pow_right {n = 10} (omega arith) le

pub ten_pos : (i : ℕ) → 0 < 10 ^ i
ten_pos i = let h : 10 ^ 0 ≤ 10 ^ i = ten_le 0 i (omega arith) in omega arith

-- two parts of a power
pub ten_split : (i j k : ℕ) → i + j ≡ k → 10 ^ k ≡ 10 ^ i * 10 ^ j
ten_split i j k e = ap (λ (m : ℕ). 10 ^ m) (sym e) ∙ pow-add 10 i j

pub none_above : (n up down : ℕ) → 10 ^ 24 * 10 ^ down < n * 10 ^ up → None ≡ scaled_millionths n up down
unfolding bounded_millionths
none_above n up down h = cond_below _ _ _ _ h

pub some_below : (n up down m : ℕ) → n * 10 ^ up ≤ 10 ^ 24 * 10 ^ down → n * 10 ^ up * 10 ^ 6 / 10 ^ down ≡ m → Some m ≡ scaled_millionths n up down
unfolding bounded_millionths
some_below n up down m h e = cond_above _ _ _ _ _ h (ap (λ (k : ℕ). Some k) (sym e))

-- a common power goes
pub cancelled : (n up down k : ℕ) → scaled_millionths n up down ≡ scaled_millionths n (up + k) (down + k)
cancelled n up down k =
    let a : 10 ^ (up + k) ≡ 10 ^ up * 10 ^ k = pow-add 10 up k in
    let b : 10 ^ (down + k) ≡ 10 ^ down * 10 ^ k = pow-add 10 down k in
    let left : n * 10 ^ (up + k) ≡ n * 10 ^ up * 10 ^ k = rw a (sym (mul_assoc n (10 ^ up) (10 ^ k))) in
    let right : 10 ^ 24 * 10 ^ (down + k) ≡ 10 ^ 24 * 10 ^ down * 10 ^ k = rw b (sym (mul_assoc (10 ^ 24) (10 ^ down) (10 ^ k))) in
    let pos : 0 < 10 ^ k = ten_pos k in
    elim (cases_lt (10 ^ 24 * 10 ^ down) (n * 10 ^ up)) [
      | inl lt ↦
          let more : 10 ^ 24 * 10 ^ down * 10 ^ k < n * 10 ^ up * 10 ^ k = mul-lt-mul_of_pos_right lt pos in
          let more' : 10 ^ 24 * 10 ^ (down + k) < n * 10 ^ (up + k) = rw (left, right) more in
          sym (none_above n up down lt) ∙ none_above n (up + k) (down + k) more'
      | inr le ↦
          let more : n * 10 ^ up * 10 ^ k ≤ 10 ^ 24 * 10 ^ down * 10 ^ k = mul-le-mul_right (10 ^ k) le in
          let more' : n * 10 ^ (up + k) ≤ 10 ^ 24 * 10 ^ (down + k) = rw (left, right) more in
          let turn : n * 10 ^ up * 10 ^ k * 10 ^ 6 ≡ n * 10 ^ up * 10 ^ 6 * 10 ^ k = omega arith in
          let same : n * 10 ^ (up + k) * 10 ^ 6 / 10 ^ (down + k) ≡ n * 10 ^ up * 10 ^ 6 / 10 ^ down
          = rw (left, b, turn) (mul-div-mul_right (n * 10 ^ up * 10 ^ 6) (10 ^ down) pos) in
          sym (some_below n up down _ le refl) ∙ some_below n (up + k) (down + k) _ more' same
    ]

pub rising : (n up down : ℕ) → down ≤ up → scaled_millionths n (up - down) 0 ≡ scaled_millionths n up down
rising n up down le =
    let e : up - down + down ≡ up = omega arith in
    let z : 0 + down ≡ down = omega arith in
    cancelled n (up - down) 0 down ∙ ap (λ (k : ℕ). scaled_millionths n k (0 + down)) e ∙ ap (scaled_millionths n up) z

pub falling : (n up down : ℕ) → up < down → scaled_millionths n 0 (down - up) ≡ scaled_millionths n up down
falling n up down lt =
    let e : down - up + up ≡ down = omega arith in
    let z : 0 + up ≡ up = omega arith in
    cancelled n 0 (down - up) up ∙ ap (λ (k : ℕ). scaled_millionths n k (down - up + up)) z ∙ ap (scaled_millionths n up) e

pub zero_scaled : (up down : ℕ) → Some 0 ≡ scaled_millionths 0 up down
zero_scaled up down =
    let h : 0 * 10 ^ up ≡ 0 = omega arith in
    let d : 0 / 10 ^ down ≡ 0 = div-eq_of_lt (ten_pos down) in
    some_below 0 up down 0 (omega arith) (rw h d)

-- n times a power of ten
pub up_far : (n shift : ℕ) → 0 < n → 24 < shift → None ≡ scaled_millionths n shift 0
up_far n shift pos far =
    let a : 10 ^ 25 ≤ 10 ^ shift = ten_le 25 shift (omega arith) in
    let b : 1 * 10 ^ shift ≤ n * 10 ^ shift = mul-le-mul_right (10 ^ shift) pos in
    none_above n shift 0 (omega arith)

pub up_none : (n shift most : ℕ) → shift ≤ 24 → most ≡ 10 ^ (24 - shift) → most < n → None ≡ scaled_millionths n shift 0
up_none n shift most le e near =
    let a : 10 ^ 24 ≡ 10 ^ (24 - shift) * 10 ^ shift = ten_split (24 - shift) shift 24 (omega arith) in
    let b : most * 10 ^ shift < n * 10 ^ shift = mul-lt-mul_of_pos_right near (ten_pos shift) in
    let b' : 10 ^ (24 - shift) * 10 ^ shift < n * 10 ^ shift = rw (← e) b in
    none_above n shift 0 (omega arith)

pub up_bound : (n shift most : ℕ) → shift ≤ 24 → most ≡ 10 ^ (24 - shift) → n ≤ most → n * 10 ^ shift ≤ 10 ^ 24
up_bound n shift most le e small =
    let a : 10 ^ 24 ≡ 10 ^ (24 - shift) * 10 ^ shift = ten_split (24 - shift) shift 24 (omega arith) in
    let b : n * 10 ^ shift ≤ most * 10 ^ shift = mul-le-mul_right (10 ^ shift) small in
    let b' : n * 10 ^ shift ≤ 10 ^ (24 - shift) * 10 ^ shift = rw (← e) b in
    omega arith

pub up_value : (n shift : ℕ) → n * 10 ^ (shift + 6) ≡ n * 10 ^ shift * 10 ^ 6
up_value n shift = let a : 10 ^ (shift + 6) ≡ 10 ^ shift * 10 ^ 6 = pow-add 10 shift 6 in rw a (sym (mul_assoc n (10 ^ shift) (10 ^ 6)))

pub up_small : (n shift most k : ℕ) → shift ≤ 24 → most ≡ 10 ^ (24 - shift) → n ≤ most → k ≡ 10 ^ (shift + 6) → n * k ≤ 10 ^ 30
up_small n shift most k le e small ke = let a = up_value n shift in let b = up_bound n shift most le e small in rw ke (omega (arith, a, b))

pub up_some : (n shift most k : ℕ) → shift ≤ 24 → most ≡ 10 ^ (24 - shift) → n ≤ most → k ≡ 10 ^ (shift + 6) → Some (n * k) ≡ scaled_millionths n shift 0
up_some n shift most k le e small ke =
    let b = up_bound n shift most le e small in
    rw ke (some_below n shift 0 _ (omega (arith, b)) (omega (arith, up_value n shift)))

-- n by a power of ten
pub down_none : (n shift most : ℕ) → most ≡ 10 ^ (24 + shift) → most < n → None ≡ scaled_millionths n 0 shift
down_none n shift most e h = let a : 10 ^ (24 + shift) ≡ 10 ^ 24 * 10 ^ shift = pow-add 10 24 shift in none_above n 0 shift (omega arith)

far_bound : (n shift : ℕ) → n < 10 ^ 36 → 12 < shift → n * 10 ^ 0 ≤ 10 ^ 24 * 10 ^ shift
far_bound n shift small far = let a : 10 ^ 13 ≤ 10 ^ shift = ten_le 13 shift (omega arith) in omega arith

near_bound : (n shift most : ℕ) → most ≡ 10 ^ (24 + shift) → n ≤ most → n * 10 ^ 0 ≤ 10 ^ 24 * 10 ^ shift
near_bound n shift most e near = let a : 10 ^ (24 + shift) ≡ 10 ^ 24 * 10 ^ shift = pow-add 10 24 shift in omega arith

cut_value : (n shift k : ℕ) → 6 < shift → k ≡ 10 ^ (shift - 6) → n * 10 ^ 0 * 10 ^ 6 / 10 ^ shift ≡ n / k
cut_value n shift k lt e =
    let a : 10 ^ shift ≡ k * 10 ^ 6 = rw e (ten_split (shift - 6) 6 shift (omega arith)) in
    let b : n * 10 ^ 0 * 10 ^ 6 ≡ n * 10 ^ 6 = omega arith in
    rw (b, a) (mul-div-mul_right {m = 10 ^ 6} n k (omega arith))

pub down_all : (n shift : ℕ) → n < 10 ^ 36 → 42 < shift → Some 0 ≡ scaled_millionths n 0 shift
down_all n shift small far =
    let a : 10 ^ 43 ≤ 10 ^ shift = ten_le 43 shift (omega arith) in
    some_below n 0 shift 0 (far_bound n shift small (omega arith)) (div-eq_of_lt (omega arith))

pub down_far : (n shift k : ℕ) → n < 10 ^ 36 → 12 < shift → k ≡ 10 ^ (shift - 6) → Some (n / k) ≡ scaled_millionths n 0 shift
down_far n shift k small far e = some_below n 0 shift (n / k) (far_bound n shift small far) (cut_value n shift k (omega arith) e)

pub down_near : (n shift most k : ℕ) → most ≡ 10 ^ (24 + shift) → n ≤ most → 6 < shift → k ≡ 10 ^ (shift - 6) → Some (n / k) ≡ scaled_millionths n 0 shift
down_near n shift most k m near far e = some_below n 0 shift (n / k) (near_bound n shift most m near) (cut_value n shift k far e)

pub down_few : (n shift most k : ℕ) → most ≡ 10 ^ (24 + shift) → n ≤ most → shift ≤ 6 → k ≡ 10 ^ (6 - shift) → Some (n * k) ≡ scaled_millionths n 0 shift
down_few n shift most k m near le e =
    let a : 10 ^ 6 ≡ k * 10 ^ shift = rw e (ten_split (6 - shift) shift 6 (omega arith)) in
    let b : n * 10 ^ 0 * 10 ^ 6 ≡ n * k * 10 ^ shift = omega (arith, ap (λ (m : ℕ). n * m) a, mul_assoc n k (10 ^ shift)) in
    some_below n 0 shift (n * k) (near_bound n shift most m near) (rw b (mul-div_cancel (n * k) (ten_pos shift)))

pub few_small : (n shift most k : ℕ) → most ≡ 10 ^ (24 + shift) → n ≤ most → shift ≤ 6 → k ≡ 10 ^ (6 - shift) → n * k ≤ 10 ^ 30
few_small n shift most k m near le e =
    let a : 10 ^ 30 ≡ 10 ^ (24 + shift) * 10 ^ (6 - shift) = ten_split (24 + shift) (6 - shift) 30 (omega arith) in
    let b : n * k ≤ most * k = mul-le-mul_right k near in
    let b' : n * k ≤ 10 ^ (24 + shift) * 10 ^ (6 - shift) = rw (← m, ← e) b in
    omega arith

pub far_small : (n k shift : ℕ) → n < 10 ^ 36 → 12 < shift → k ≡ 10 ^ (shift - 6) → n / k ≤ 10 ^ 30
far_small n k shift small far e =
    let a : 10 ^ 7 ≤ 10 ^ (shift - 6) = ten_le 7 (shift - 6) (omega arith) in
    let b : n / k * k ≤ n = div-mul-le_self n k in
    let c : n / k * 10 ^ 7 ≤ n / k * k = mul-le-mul_left (n / k) (omega arith) in
    omega arith

pub near_small : (n k shift most : ℕ) → most ≡ 10 ^ (24 + shift) → n ≤ most → 6 < shift → k ≡ 10 ^ (shift - 6) → n / k ≤ 10 ^ 30
near_small n k shift most m near far e =
    let a : 10 ^ (24 + shift) ≡ 10 ^ 30 * 10 ^ (shift - 6) = ten_split 30 (shift - 6) (24 + shift) (omega arith) in
    div-le_of_le-mul k (rw e (omega arith))

pub ten_small : (k : ℕ) → k ≤ 38 → 10 ^ k < 2 ^ 128
ten_small k le = omega (arith, ten_le k 38 le)

pub ruleset tens = (ten_pos, ten_small)

pub ruleset cases = (zero_scaled, rising, falling)
