-- What a reader gives, unless memory ran out.
use Rattle.std.specs.Prelude.{Err, None, Ok, Option, Result, Some, ◌≡◌}

-- the fault is the one that was read; want of memory, which is none, says nothing
abbrev pub Refuses : {Y F : Type 0} → Option F → Result Y F → Type 0
Refuses None read = Unit {0}
Refuses (Some f) read = read ≡ Err f

-- the result, of which view tells the value and fault the error, is what was read
abbrev pub Gives : {X Y E F : Type 0} → (X → Y) → (E → Option F) → Result X E → Result Y F → Type 0
Gives view fault (Ok x) read = read ≡ Ok (view x)
Gives view fault (Err e) read = Refuses (fault e) read
