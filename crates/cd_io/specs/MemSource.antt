-- What a source in memory tells, and which calls on it fail.
use Rattle.cd_io.specs.MemLink.{is_among}
use Rattle.cd_io.specs.Source.{SourceTells}
use Rattle.cd_io.specs.declared.memory.source.MemSource.{MemSource}
use Rattle.cd_io.specs.declared.memory.source.SourcePlan.{SourcePlan}
use Rattle.std.specs.Prelude.{Bool, List, Some, [], drop, if◌then◌else◌, length, max, min, ℕ, ◌-◌, ◌^◌, ◌≡◌}

-- what a source in memory tells
abbrev pub tells_of : MemSource → SourceTells
tells_of source = record { left = Some (drop source.taken source.bytes.items); faults = source.faults }

-- what it tells before the first call, where it gives these bytes
abbrev pub told_first : List ℕ → SourceTells
told_first bytes = record { left = Some bytes; faults = 0 }

-- which calls fail, and how much one gives
abbrev pub plan_of : MemSource → SourcePlan
plan_of source = source.plan

-- what a plan says: the calls that fail, and how many bytes one gives at most
pub record PlanTells : Type 0 where
  pub failing : List ℕ
  pub limit : ℕ

abbrev pub plan_tells : SourcePlan → PlanTells
plan_tells plan = record { failing = plan.failing_reads.items; limit = plan.piece_limit }

-- no call fails, and each gives what the buffer holds
abbrev pub no_plan : PlanTells
no_plan = record { failing = []; limit = 2 ^ 64 - 1 }

-- a source that was not read yet, and goes by this plan
pub record BeginsBy (plan : PlanTells) (source : MemSource) : Type 0 where
  pub goes_by : plan_tells (plan_of source) ≡ plan
  pub unread : source.reads ≡ 0

-- the number of the next call
abbrev pub reads_of : MemSource → ℕ
reads_of source = source.reads

-- a call with this number fails
abbrev pub fails : SourcePlan → ℕ → Bool
fails plan number = is_among number plan.failing_reads.items

-- how many bytes the next call gives for a buffer of this length
abbrev pub planned_count : MemSource → ℕ → ℕ
planned_count source room =
    if fails source.plan source.reads then 0
    else min (length (drop source.taken source.bytes.items)) (min room (max source.plan.piece_limit 1))
