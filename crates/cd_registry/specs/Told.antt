-- What plug-ins tell of the calls that they got, and of the readings that they gave.
use Rattle.cd_registry.specs.declared.calls.Answer.TheVariants as answer
use Rattle.cd_registry.specs.declared.calls.Answer.{Answer}
use Rattle.cd_registry.specs.declared.calls.AnsweredCall.{AnsweredCall}
use Rattle.cd_registry.specs.declared.calls.Call.{Call}
use Rattle.cd_registry.specs.declared.plug.PlugTells.{PlugTells}
use Rattle.cd_registry.specs.declared.probe.ProbeTells.{ProbeTells}
use Rattle.cd_registry.specs.declared.probe.Reading.TheVariants as reading
use Rattle.cd_registry.specs.declared.probe.Reading.{Reading}
use Rattle.cd_registry.specs.declared.probe.TimedReading.{TimedReading}
use Rattle.std.specs.Prelude.{List, None, Option, Some, [], min, ℕ, ◌++◌, ◌+◌, ◌-◌, ◌^◌, ◌∷◌, ◌≡◌, ◌≤◌}

-- the calls told after one more: it comes behind the others, unless memory was lacking, after which none are told
abbrev pub calls_after : Call → Answer → Option (List AnsweredCall) → Option (List AnsweredCall)
calls_after call answer.Memory told = None
calls_after call a None = None
calls_after call a (Some told) = Some (told ++ record { call = call; answer = a } ∷ [])

-- what a plug-in tells after a call and its answer
abbrev pub told_after : Call → Answer → PlugTells → PlugTells
told_after call a told = record { mark = told.mark; calls = calls_after call a told.calls }

-- what it tells after calls with their answers, in order
abbrev pub told_after_all : List AnsweredCall → PlugTells → PlugTells
told_after_all [] told = told
told_after_all (one ∷ more) told = told_after_all more (told_after one.call one.answer told)

-- the readings told after one more
abbrev pub readings_after : ℕ → Reading → Option (List TimedReading) → Option (List TimedReading)
readings_after now reading.Memory told = None
readings_after now r None = None
readings_after now r (Some told) = Some (told ++ record { moment = now; reading = r } ∷ [])

-- the count of failed readings never falls; it rose where the reading failed, and stands where it didn't
abbrev pub CountsFailures : Reading → ℕ → ℕ → Type 0
CountsFailures reading.Failed old new = (old ≤ new) × (min (old + 1) (2 ^ 64 - 1) ≤ new)
CountsFailures (reading.Lists lists) old new = new ≡ old
CountsFailures reading.Memory old new = new ≡ old

-- a reader was read at a moment and gave a reading
pub record Reads (now : ℕ) (r : Reading) (old new : ProbeTells) : Type 0 where
  pub mark : new.mark ≡ old.mark
  pub readings : new.readings ≡ readings_after now r old.readings
  pub faults : CountsFailures r old.faults new.faults
