-- How often a bell was rung, and by whom.
use Rattle.cd_turn_tests.specs.declared.bell.Tower.{Tower}
use Rattle.std.specs.Prelude.{List, length, ℕ, ◌%◌, ◌^◌, ◌≡◌}

-- as often as there were turns, wrapping
abbrev pub Rung : {B : Type 0} → Unit {0} → List ℕ → Tower B → Type 0
Rung k log t = t.rung ≡ length log % 2 ^ 64

-- an entry is the number of who rang
abbrev pub rung_by : ℕ → ℕ
rung_by n = n
