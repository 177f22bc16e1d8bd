-- The first place of a byte, and the text before and after it.
use Rattle.cd_text.specs.Digits.{after_place as behind_place}
use Rattle.std.proofs.Common.{Bool, List, None, Some, ap, arith, drop, length, sym, take, ℕ, ◌+◌, ◌-◌, ◌<◌, ◌∙◌, ◌≡◌, ◌≤◌}
use Rattle.std.proofs.lemmas.Grind.{common_steps}
use Rattle.std.proofs.lemmas.List.Sums.{prefix_len-le-length}
use Rattle.std.proofs.lemmas.List.{drop_all, length-drop, take_all}
use Rattle.std.proofs.lemmas.Option.{cond_some}
use Rattle.std.specs.List.{after_first, before_first, position, position_or_len}
use Rattle.std.specs.Prelude.{nat_lt, not}

pub position_is : (p : ℕ → Bool) (xs : List ℕ) (i : ℕ) → Some i ≡ position p xs → (position_or_len p xs ≡ i) × (i < length xs)
position_is p xs i e = let s = cond_some (nat_lt (position_or_len p xs) (length xs)) (position_or_len p xs) i (sym e) in grind (arith, common_steps, s)

pub position_none : (p : ℕ → Bool) (xs : List ℕ) → None ≡ position p xs → length xs ≤ position_or_len p xs
position_none p xs e = grind (arith, common_steps)

pub before_place : (p : ℕ → Bool) (xs : List ℕ) (i : ℕ) → Some i ≡ position p xs → take i xs ≡ before_first p xs
before_place p xs i e = ap (λ (k : ℕ). take k xs) (sym (position_is p xs i e).0)

pub after_place : (p : ℕ → Bool) (xs : List ℕ) (i : ℕ) → Some i ≡ position p xs → take (length xs - (i + 1)) (drop (i + 1) xs) ≡ after_first p xs
after_place p xs i e =
    take_all (length xs - (i + 1)) (drop (i + 1) xs) (omega (arith, length-drop (i + 1) xs))
    ∙ ap (λ (k : ℕ). drop (k + 1) xs) (sym (position_is p xs i e).0)

pub before_none : (p : ℕ → Bool) (xs : List ℕ) → None ≡ position p xs → xs ≡ before_first p xs
before_none p xs e = sym (take_all (position_or_len p xs) xs (position_none p xs e))

pub after_none : (p : ℕ → Bool) (xs : List ℕ) → None ≡ position p xs → take (length xs - length xs) (drop (length xs) xs) ≡ after_first p xs
after_none p xs e =
    let past : length xs ≤ position_or_len p xs + 1 = omega (arith, position_none p xs e) in
    take_all (length xs - length xs) (drop (length xs) xs) (omega (arith, length-drop (length xs) xs))
    ∙ drop_all (length xs) xs (omega arith) ∙ sym (drop_all (position_or_len p xs + 1) xs past)

pub rest_place : (p : ℕ → Bool) (xs : List ℕ) (i : ℕ) → Some i ≡ position p xs → Some (take (length xs - (i + 1)) (drop (i + 1) xs)) ≡ behind_place xs (position p xs)
rest_place p xs i e = rw (← e) (ap (λ (ys : List ℕ). Some ys) (take_all (length xs - (i + 1)) (drop (i + 1) xs) (omega (arith, length-drop (i + 1) xs))))

pub some_place : (p : ℕ → Bool) (xs : List ℕ) (i : ℕ) → Some i ≡ position p xs → i ≡ position_or_len p xs
some_place p xs i e = sym (position_is p xs i e).0

pub none_place : (p : ℕ → Bool) (xs : List ℕ) → None ≡ position p xs → length xs ≡ position_or_len p xs
none_place p xs e = omega (arith, position_none p xs e, prefix_len-le-length (λ x. not (p x)) xs)

pub ruleset place_or_len = (some_place, none_place)

pub ruleset places = (before_place, after_place, before_none, after_none, rest_place)
