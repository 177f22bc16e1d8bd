-- Next reads in no order: which they are, by how many of them pass a test, and their first.
use Rattle.cd_sched.specs.Due.{is_before, next_reads_of}
use Rattle.cd_sched.specs.declared.reader.Reader.{Reader}
use Rattle.std.specs.List.{count_by}
use Rattle.std.specs.Ordering.{nat_cmp, ordering_then}
use Rattle.std.specs.Prelude.{Bool, List, None, Option, Some, [], if◌then◌else◌, ℕ, ◌&&◌, ◌<◌, ◌==◌, ◌≡◌}
use Rattle.std.specs.declared.cmp.Ordering.{Ordering}
use Rattle.std.specs.declared.cmp.Reverse.{Reverse}

-- next reads, and for how many there is room, with those
pub record NextReadList : Type 0 where
  pub reads : List (ℕ × ℕ)
  pub room : ℕ

-- the next read in an element of the heap, whose greatest is the first
abbrev pub read_in : Reverse (ℕ × ℕ) → ℕ × ℕ
read_in element = element.0

abbrev pub heap_order : Reverse (ℕ × ℕ) → Reverse (ℕ × ℕ) → Ordering
heap_order a b = ordering_then (nat_cmp b.0.0 a.0.0) (nat_cmp b.0.1 a.0.1)

abbrev pub is_same : ℕ × ℕ → ℕ × ℕ → Bool
is_same a b = (a.0 == b.0) && (a.1 == b.1)

-- one where a test holds
abbrev pub bit : Bool → ℕ
bit holds = if holds then 1 else 0

-- one is among others and none of them comes before it, or there is none
abbrev pub IsLeast : List (ℕ × ℕ) → Option (ℕ × ℕ) → Type 0
IsLeast reads None = reads ≡ []
IsLeast reads (Some read) =
    (0 < count_by (is_same read) reads) × (count_by (λ (other : ℕ × ℕ). is_before other read) reads ≡ 0)

-- these are the next reads of the readers at rest, in whatever order: as many of them pass each test
abbrev pub AreNextReadsOf : List (ℕ × Reader) → List (ℕ × ℕ) → Type 0
AreNextReadsOf readers reads = (p : ℕ × ℕ → Bool) → count_by p reads ≡ count_by p (next_reads_of readers)
