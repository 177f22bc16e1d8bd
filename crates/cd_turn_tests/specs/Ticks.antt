-- Ticks.
use Rattle.cd_turn_tests.specs.declared.count.Tick.{Tick}
use Rattle.std.specs.Prelude.{ℕ}

abbrev pub tick_by : Tick → ℕ
tick_by t = t.by

abbrev pub tick : ℕ → Tick
tick n = record { by = n }
