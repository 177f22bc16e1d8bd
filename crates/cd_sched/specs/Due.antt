-- Which reading is due: the first of the readers at rest, by its moment and then by its number.
use Rattle.cd_sched.specs.Schedule.{reader_at}
use Rattle.cd_sched.specs.declared.reader.Due.TheVariants.{NoneReady, NotYet, Ready}
use Rattle.cd_sched.specs.declared.reader.Due.{Due}
use Rattle.cd_sched.specs.declared.reader.Reader.{Reader}
use Rattle.std.specs.Prelude.{Bool, List, None, Option, Some, [], false, if◌then◌else◌, nat_le, nat_lt, true, ℕ, ◌&&◌, ◌++◌, ◌<◌, ◌==◌, ◌||◌, ◌∷◌, ◌≡◌, ◌≤◌}

-- the next read of a reader, where no reading of it is under way: when it is due, and its number
abbrev pub next_read_of : ℕ × Reader → List (ℕ × ℕ)
next_read_of pair = if pair.1.under_way then [] else (pair.1.due, pair.0) ∷ []

abbrev pub next_reads_of : List (ℕ × Reader) → List (ℕ × ℕ)
next_reads_of [] = []
next_reads_of (pair ∷ readers) = next_read_of pair ++ next_reads_of readers

-- a next read comes before another: it is due earlier, or at the same moment under a lower number
abbrev pub is_before : ℕ × ℕ → ℕ × ℕ → Bool
is_before a b = nat_lt a.0 b.0 || ((a.0 == b.0) && nat_lt a.1 b.1)

-- the first of next reads
abbrev pub sooner : ℕ × ℕ → Option (ℕ × ℕ) → Option (ℕ × ℕ)
sooner read None = Some read
sooner read (Some first) = if is_before first read then Some first else Some read

abbrev pub first_of : List (ℕ × ℕ) → Option (ℕ × ℕ)
first_of [] = None
first_of (read ∷ reads) = sooner read (first_of reads)

-- what is due at a moment, where this is the first next read
abbrev pub due_at : ℕ → Option (ℕ × ℕ) → Due
due_at now None = NoneReady
due_at now (Some first) = if nat_le first.0 now then Ready first.1 else NotYet first.0

abbrev pub due_of : ℕ → List (ℕ × Reader) → Due
due_of now readers = due_at now (first_of (next_reads_of readers))

-- a reader is at rest under a number: it is there, and no reading of it is under way
pub record IsAtRest (number : ℕ) (reader : Reader) (readers : List (ℕ × Reader)) : Type 0 where
  pub there : reader_at number readers ≡ Some reader
  pub at_rest : reader.under_way ≡ false

-- it is the first of those at rest: none of them comes before it
pub record IsFirst (number : ℕ) (reader : Reader) (readers : List (ℕ × Reader)) : Type 0 where
  pub at_rest : IsAtRest number reader readers
  pub first : (other : ℕ) (later : Reader) → IsAtRest other later readers
      → is_before (later.due, other) (reader.due, number) ≡ false

-- What an answer says of the readers: the first is due; or it isn't due before that moment; or none is at rest.
abbrev pub IsDue : ℕ → List (ℕ × Reader) → Due → Type 0
IsDue now readers (Ready number) =
    (reader : Reader) × IsFirst number reader readers × (reader.due ≤ now)
IsDue now readers (NotYet at) =
    (number : ℕ) × (reader : Reader) × IsFirst number reader readers × (reader.due ≡ at) × (now < at)
IsDue now readers NoneReady =
    (number : ℕ) (reader : Reader) → reader_at number readers ≡ Some reader → reader.under_way ≡ true
