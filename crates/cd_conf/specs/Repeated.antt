-- A step that is taken again and again.
use Rattle.cd_reading.specs.First.{◌>>=◌}
use Rattle.std.specs.Prelude.{List, None, Ok, Option, Result, Some, [], suc, zero, ℕ, ◌++◌}

-- what was given, and where it went on, with more in front
abbrev pub in_front : {A S F : Type 0} → List A → Result (List A × S) F → Result (List A × S) F
in_front front read = read >>= λ r. Ok (front ++ r.0, r.1)

-- what goes on gives after a step that gave something; where it gave nothing, that is the end
abbrev pub go_on :
    {A S F : Type 0} → S → (S → Result (List A × S) F) → Option (List A × S) → Result (List A × S) F
go_on s further None = Ok ([], s)
go_on s further (Some given) = in_front given.0 (further given.1)

-- all that a step gives from a state on, until it gives none, and the state then; it is taken at
-- most so often
unfoldable pub repeated :
    {A S F : Type 0} → (S → Result (Option (List A × S)) F) → ℕ → S → Result (List A × S) F
repeated step zero s = Ok ([], s)
repeated step (suc n) s = step s >>= go_on s (repeated step n)
