-- The first fault in an order, and verdicts that depend on what came before.
use Rattle.std.specs.Prelude.{Bool, Err, List, Ok, Result, [], if◌then◌else◌, ◌++◌, ◌∷◌}

-- what f reads of a value, unless there was a fault
infixl 10 ◌>>=◌
abbrev pub ◌>>=◌ : {A B F : Type 0} → Result A F → (A → Result B F) → Result B F
(Ok x) >>= f = f x
(Err e) >>= f = Err e

-- all values, or the first fault
unfoldable pub all_or_first : {A F : Type 0} → List (Result A F) → Result (List A) F
all_or_first [] = Ok []
all_or_first (r ∷ rs) = r >>= λ x. all_or_first rs >>= λ xs. Ok (x ∷ xs)

-- the value, unless a test fails: then the fault of the first that does
abbrev pub unless : {A F : Type 0} → List (Bool × F) → A → Result A F
unless [] x = Ok x
unless (t ∷ ts) x = if t.0 then unless ts x else Err t.1

-- what f gives at each of a list, after those before it
unfoldable pub each_after : {X Y : Type 0} → (List X → X → Y) → List X → List X → List Y
each_after f before [] = []
each_after f before (x ∷ xs) = f before x ∷ each_after f (before ++ x ∷ []) xs
