-- Decimals, one digit after the other.
use Rattle.cd_types.specs.Printed.{decimals}
use Rattle.cd_value.specs.Print.{digit}
use Rattle.std.proofs.Common.{List, [], ap, append_assoc, arith, false, refl, suc, sym, zero, ℕ, ◌%◌, ◌++◌, ◌+◌, ◌/◌, ◌<◌, ◌==◌, ◌^◌, ◌∙◌, ◌∷◌, ◌≡◌}
use Rattle.std.proofs.lemmas.Bool.{ne_eqb}
use Rattle.std.proofs.lemmas.List.{append-nil}

pub first_decimal : (k n : ℕ) → 0 < n → decimals (suc k) n ≡ digit (n / 10 ^ k) ∷ decimals k (n % 10 ^ k)
unfolding decimals
first_decimal k n h = let no : (n == 0) ≡ false = ne_eqb n 0 (λ e. absurd (omega arith)) in rw no refl

pub no_decimals : (k : ℕ) → decimals k 0 ≡ []
unfolding decimals
no_decimals zero = refl
no_decimals (suc k) = refl

-- a digit more is put behind
pub puts_digit : (left k n : ℕ) (old now total : List ℕ) → left ≡ k + 1 → 0 < n → now ≡ old ++ digit (n / 10 ^ k) ∷ []
    → old ++ decimals left n ≡ total → now ++ decimals k (n % 10 ^ k) ≡ total
puts_digit left k n old now total e h m so_far =
    let one : left ≡ suc k = omega arith in
    ap (λ (xs : List ℕ). xs ++ decimals k (n % 10 ^ k)) m ∙ append_assoc old (digit (n / 10 ^ k) ∷ []) (decimals k (n % 10 ^ k))
    ∙ ap (λ (xs : List ℕ). old ++ xs) (sym (ap (λ (j : ℕ). decimals j n) one ∙ first_decimal k n h)) ∙ so_far

pub ends_at_zero : (left n : ℕ) (text total : List ℕ) → n ≡ 0 → text ++ decimals left n ≡ total → text ≡ total
ends_at_zero left n text total e so_far =
    sym (append-nil text) ∙ ap (λ (xs : List ℕ). text ++ xs) (sym (ap (decimals left) e ∙ no_decimals left)) ∙ so_far

pub ends_at_last : (left n : ℕ) (text total : List ℕ) → left ≡ 0 → text ++ decimals left n ≡ total → text ≡ total
unfolding decimals
ends_at_last left n text total e so_far =
    sym (append-nil text) ∙ ap (λ (xs : List ℕ). text ++ xs) (sym (ap (λ (j : ℕ). decimals j n) e)) ∙ so_far
