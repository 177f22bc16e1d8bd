-- What a source of bytes tells, and what a call on it does to that.
use Rattle.cd_io.specs.Causes.{Counts}
use Rattle.cd_io.specs.Told.{Takes}
use Rattle.cd_io.specs.declared.source.ReadAllFault.TheVariants as fault
use Rattle.cd_io.specs.declared.source.ReadAllFault.{ReadAllFault}
use Rattle.cd_io.specs.declared.traits.Failed.{Failed}
use Rattle.std.specs.Prelude.{Bool, Err, IfSome, List, Ok, Option, Result, [], false, is_err, length, take, true, ℕ, ◌<◌, ◌≡◌, ◌≤◌}

-- What a source tells: the bytes that it has left, where it tells them, and how many calls failed.
pub record SourceTells : Type 0 where
  pub left : Option (List ℕ)
  pub faults : ℕ

-- nothing is left, where the source tells it
abbrev pub IsAtEnd : SourceTells → Type 0
IsAtEnd source = IfSome source.left (λ bytes. bytes ≡ [])

-- how many bytes were read: none at a fault
abbrev pub read_count : Result ℕ Failed → ℕ
read_count (Ok n) = n
read_count (Err fault) = 0

-- what a call of `read` does that had this answer, and left these bytes in the buffer
pub record Reads (answer : Result ℕ Failed) (buffer : List ℕ) (before after : SourceTells) : Type 0 where
  pub takes : Takes (take (read_count answer) buffer) before.left after.left
  pub ended : answer ≡ Ok 0 → 0 < length buffer → IsAtEnd before
  pub faults : Counts (is_err answer) before.faults after.faults

-- these bytes are all that was left, at most so many, and nothing is left after them
pub record IsWhole (limit : ℕ) (bytes : List ℕ) (before after : SourceTells) : Type 0 where
  pub few : length bytes ≤ limit
  pub all : IfSome before.left (λ text. text ≡ bytes)
  pub ended : IsAtEnd after

-- the reading of a whole source failed at the source
abbrev pub is_reading_fault : {A : Type 0} → Result A ReadAllFault → Bool
is_reading_fault (Ok bytes) = false
is_reading_fault (Err fault.Failed) = true
is_reading_fault (Err fault.TooLong) = false
is_reading_fault (Err fault.Memory) = false
