-- What a count stands for.
use Rattle.cd_turn_tests.specs.declared.count.Count.{Count}
use Rattle.cd_turn_tests.specs.declared.count.Tick.{Tick}
use Rattle.std.specs.Prelude.{List, length, ◌%◌, ◌^◌, ◌≡◌}

-- the length of the history, wrapping
abbrev pub Counts : Unit {0} → List Tick → Count → Type 0
Counts k log c = c.count ≡ length log % 2 ^ 64
