-- When a file may be called one that couldn't be opened, or couldn't be read.
use Rattle.cd_io.specs.Causes.{Counts}
use Rattle.cd_io.specs.World.{WorldTells}
use Rattle.cd_opening.specs.declared.fault.OpeningFault.TheVariants as faults
use Rattle.cd_opening.specs.declared.fault.OpeningFault.{OpeningFault}
use Rattle.std.specs.Prelude.{Bool, Err, Ok, Result, false, true}

abbrev pub is_open_fault : OpeningFault → Bool
is_open_fault (faults.Open path) = true
is_open_fault _ = false

abbrev pub is_read_fault : OpeningFault → Bool
is_read_fault (faults.Read path) = true
is_read_fault _ = false

abbrev pub fails_by : {A : Type 0} → (OpeningFault → Bool) → Result A OpeningFault → Bool
fails_by test (Ok x) = false
fails_by test (Err fault) = test fault

-- The world's count of faults rose exactly where the answer is that a file couldn't be opened, and its count of reading
-- faults exactly where it is that one couldn't be read.
pub record Tries {A : Type 0} (answer : Result A OpeningFault) (before after : WorldTells) : Type 0 where
  pub faults : Counts (fails_by is_open_fault answer) before.faults after.faults
  pub reading_faults : Counts (fails_by is_read_fault answer) before.reading_faults after.reading_faults
