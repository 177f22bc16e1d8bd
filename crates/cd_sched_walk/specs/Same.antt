-- A schedule and a plain list of the same readers.
use Rattle.cd_sched.specs.Schedule.{ReaderMap}
use Rattle.std.specs.Prelude.{◌≡◌}

-- they have the same readers and the same longest interval
pub record IsSame (schedule plain : ReaderMap) : Type 0 where
  pub readers : schedule.readers ≡ plain.readers
  pub longest : schedule.longest ≡ plain.longest
