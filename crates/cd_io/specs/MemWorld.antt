-- What a world in memory tells, and which calls of `file` on it fail.
use Rattle.cd_io.specs.MemFile.{plan_at, plan_of, shown}
use Rattle.cd_io.specs.MemLink.{is_among}
use Rattle.cd_io.specs.MemSource.{PlanTells}
use Rattle.cd_io.specs.World.{FileTells, WorldTells, opening}
use Rattle.cd_io.specs.declared.memory.world.MemWorld.{MemWorld}
use Rattle.std.specs.Prelude.{Bool, List, Option, Some, is_none, map, ℕ, ◌||◌}

-- what a world in memory tells of its files
abbrev pub files_of : MemWorld → List FileTells
files_of world = map shown world.files.items

abbrev pub tells_of : MemWorld → WorldTells
tells_of world = record { files = Some (files_of world); faults = world.faults; reading_faults = world.reading_faults }

-- the plans by which its files are read
abbrev pub plans_of : MemWorld → List PlanTells
plans_of world = map plan_of world.files.items

-- the plan of the first file that lies at a path
abbrev pub plan_for : MemWorld → List ℕ → Option PlanTells
plan_for world path = plan_at path world.files.items

-- the calls of `file` that are to fail
abbrev pub failing_of : MemWorld → List ℕ
failing_of world = world.failing_files.items

-- the number of the next call of `file`
abbrev pub calls_of : MemWorld → ℕ
calls_of world = world.calls

-- the next call of `file` with this path fails: it is to fail, or nothing lies there
abbrev pub fails : MemWorld → List ℕ → Bool
fails world path = is_among world.calls world.failing_files.items || is_none (opening path (files_of world))
