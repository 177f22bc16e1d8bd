-- What the clock and the dice gave.
use Rattle.cd_history.specs.declared.given.Given.TheVariants.{Answered, Now, Read, Word}
use Rattle.cd_history.specs.declared.given.Given.{Given}
use Rattle.cd_io.specs.Told.{clock_after, dice_after}
use Rattle.std.specs.Option.{option_map}
use Rattle.std.specs.Prelude.{IfSome, List, Option, [], ℕ, ◌∷◌, ◌≡◌}

-- the moments among what was given, in order
abbrev pub moments : List Given → List ℕ
moments [] = []
moments (Now now ∷ given) = now ∷ moments given
moments (Word word ∷ given) = moments given
moments (Answered answer ∷ given) = moments given
moments (Read lists ∷ given) = moments given

-- the words of the dice among what was given, in order
abbrev pub words : List Given → List ℕ
words [] = []
words (Now now ∷ given) = words given
words (Word word ∷ given) = word ∷ words given
words (Answered answer ∷ given) = words given
words (Read lists ∷ given) = words given

-- these are the first numbers of what tells, as a pair, which number comes next and the step
abbrev pub Gave : (ℕ × ℕ → ℕ × ℕ) → Option (ℕ × ℕ) → List ℕ → Type 0
Gave after begun [] = Unit {0}
Gave after begun (n ∷ numbers) = IfSome begun (λ pair. n ≡ pair.0) × Gave after (option_map after begun) numbers

-- what a clock and dice tell
pub record Pairs : Type 0 where
  pub clock : Option (ℕ × ℕ)
  pub dice : Option (ℕ × ℕ)

-- the moments and words among what was given are the first of a clock and of dice, in order
pub record GaveAll (begun : Pairs) (given : List Given) : Type 0 where
  pub moments : Gave clock_after begun.clock (moments given)
  pub words : Gave dice_after begun.dice (words given)
