-- What an object of the outside tells, before and after a call.
use Rattle.std.specs.Option.{option_map}
use Rattle.std.specs.Prelude.{List, None, Option, Some, min, ℕ, ◌%◌, ◌++◌, ◌+◌, ◌-◌, ◌^◌, ◌≡◌}

-- what is told moves by a step, or isn't told from then on; what wasn't told is never told
abbrev pub Moves : {A : Type 0} → (A → A → Type 0) → Option A → Option A → Type 0
Moves step old None = Unit {0}
Moves step None (Some new) = ⊥
Moves step (Some old) (Some new) = step old new

-- these bytes were put behind those told
abbrev pub Grows : List ℕ → Option (List ℕ) → Option (List ℕ) → Type 0
Grows bytes old new = Moves (λ x y. y ≡ x ++ bytes) old new

-- these items were taken from the front of those told
abbrev pub Loses : {A : Type 0} → List A → Option (List A) → Option (List A) → Type 0
Loses bytes old new = Moves (λ x y. x ≡ bytes ++ y) old new

-- these items were put behind those told
abbrev pub Adds : {A : Type 0} → List A → Option (List A) → Option (List A) → Type 0
Adds more old new = Moves (λ x y. y ≡ x ++ more) old new

-- these bytes were taken from the front of those told, and the rest is told; what wasn't told is never told
abbrev pub Takes : List ℕ → Option (List ℕ) → Option (List ℕ) → Type 0
Takes bytes old new = old ≡ option_map (λ rest. bytes ++ rest) new

-- a clock's next moment and its step, after a moment: the next is a step later, up to the last number of 64 bits
abbrev pub clock_after : ℕ × ℕ → ℕ × ℕ
clock_after pair = (min (pair.0 + pair.1) (2 ^ 64 - 1), pair.1)

-- the next word of dice and their step, after a word: the next is a step further, round the end of 64 bits
abbrev pub dice_after : ℕ × ℕ → ℕ × ℕ
dice_after pair = ((pair.0 + pair.1) % (2 ^ 64), pair.1)
