-- Digits that are no port of 16 bits.
use Rattle.cd_settings.specs.Forms.{is_plain, is_port, only}
use Rattle.std.proofs.Common.{Bool, Err, IsTrue, List, None, Ok, Result, Some, [], arith, false, length, nat_le, refl, rules, true, ℕ, ◌&&◌, ◌<◌, ◌∷◌, ◌≡◌, ◌≤◌}
use Rattle.std.proofs.lemmas.Grind.{common_steps}
use Rattle.std.proofs.lemmas.Str.Parse.{IsNumeralModel, numerals_by_fold, parse_digits}
use Rattle.std.specs.Char.{is_ascii_digit}
use Rattle.std.specs.List.{list_all}
use Rattle.std.specs.Prelude.{if◌then◌else◌}
use Rattle.std.specs.Str.Parse.{ParsesUnsigned, digits_value, digits_value_after}

own : IsNumeralModel (λ ds. list_all is_ascii_digit ds ≡ true) (digits_value 10)
own = numerals_by_fold _ (search rules) (digits_value_after 10) (search rules)

digits : (bs : List ℕ) → IsTrue (is_plain bs) → list_all is_ascii_digit bs ≡ true
digits bs p = grind (arith, common_steps)

has_digit : (bs : List ℕ) → IsTrue (is_plain bs) → 0 < length bs
has_digit [] p = absurd (grind (arith, common_steps))
has_digit (b ∷ bs) p = omega arith

none : (n : ℕ) → (n ≤ 65535 → ⊥) → None ≡ only is_port (Some n)
none n above = by (nat_le 1 n && nat_le n 65535) refl
  where
    by : (b : Bool) → nat_le 1 n && nat_le n 65535 ≡ b → None ≡ (if b then Some n else None)
    by true e = absurd (above (grind (arith, common_steps)))
    by false e = refl

-- what `parse` refuses is no port
pub is_refused : {E : Type 0} (bs : List ℕ) (r : Result ℕ E) (x : E) → ParsesUnsigned 16 10 bs r → IsTrue (is_plain bs) → r ≡ Err x
    → None ≡ only is_port (Some (digits_value 10 bs))
is_refused bs (Ok m) x h p e = absurd (cc)
is_refused bs (Err y) x h p e =
    let d = parse_digits own 16 bs (Err y) h (digits bs p) in
    none (digits_value 10 bs) (λ high. d (has_digit bs p, omega (arith, high)))
