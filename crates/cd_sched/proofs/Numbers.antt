-- What the tests on numbers say.
use Rattle.std.proofs.Common.{arith, false, nat_le, nat_lt, true, ℕ, ◌<◌, ◌==◌, ◌≡◌, ◌≢◌, ◌≤◌}

pub itself : (n : ℕ) → (n == n) ≡ true
itself n = grind arith

pub same_is : (a b : ℕ) → (a == b) ≡ true → a ≡ b
same_is a b h = grind (arith, h)

pub is_same : (a b : ℕ) → a ≡ b → (a == b) ≡ true
is_same a b h = grind (arith, h)

pub differs : (a b : ℕ) → a ≢ b → (a == b) ≡ false
differs a b h = grind (arith, h)

pub differ_is : (a b : ℕ) → (a == b) ≡ false → a ≢ b
differ_is a b h = λ e. grind (arith, h, e)

pub lower_is : (a b : ℕ) → nat_lt a b ≡ true → a < b
lower_is a b h = grind (arith, h)

pub higher_is : (a b : ℕ) → nat_lt a b ≡ false → b ≤ a
higher_is a b h = grind (arith, h)

pub lower_differs : (a b : ℕ) → nat_lt a b ≡ true → (a == b) ≡ false
lower_differs a b h = grind (arith, h)

pub above_differs : (a b : ℕ) → b < a → (a == b) ≡ false
above_differs a b h = grind (arith, h)

pub up_to_is : (a b : ℕ) → a ≤ b → nat_le a b ≡ true
up_to_is a b h = grind (arith, h)

pub above_is : (a b : ℕ) → b < a → nat_le a b ≡ false
above_is a b h = grind (arith, h)
