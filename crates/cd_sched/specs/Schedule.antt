-- The schedule of readers: a finite map from registration numbers to readers, and what is done to it.
use Rattle.cd_sched.specs.declared.reader.Reader.{Reader}
use Rattle.std.specs.Map.{lookup, remove_entry}
use Rattle.std.specs.Prelude.{Bool, List, Option, [], false, if◌then◌else◌, max, min, nat_lt, true, ℕ, ◌*◌, ◌+◌, ◌-◌, ◌==◌, ◌^◌, ◌∷◌, ◌≡◌, ◌≢◌}

-- a schedule as contracts see it: the longest interval; the map, as its pairs of a registration number and a reader in
-- the order of the numbers, each number once; and for how many more readers there is room
pub record ReaderMap : Type 0 where
  pub longest : ℕ
  pub readers : List (ℕ × Reader)
  pub spare : ℕ

-- the reader of a number
abbrev pub reader_at : ℕ → List (ℕ × Reader) → Option Reader
reader_at number readers = lookup (λ (other : ℕ). other == number) readers

-- each other number has the reader that it had
abbrev pub KeepsOthers : ℕ → List (ℕ × Reader) → List (ℕ × Reader) → Type 0
KeepsOthers number old new = (other : ℕ) → other ≢ number → reader_at other new ≡ reader_at other old

-- the map with a reader under a number that has none: behind those of lower numbers
abbrev pub with_reader : ℕ → Reader → List (ℕ × Reader) → List (ℕ × Reader)
with_reader number reader [] = (number, reader) ∷ []
with_reader number reader (pair ∷ readers) =
    if nat_lt pair.0 number then pair ∷ with_reader number reader readers
    else (number, reader) ∷ pair ∷ readers

-- the map with the reader of a number changed
abbrev pub changed : ℕ → (Reader → Reader) → List (ℕ × Reader) → List (ℕ × Reader)
changed number change [] = []
changed number change (pair ∷ readers) =
    if pair.0 == number then (pair.0, change pair.1) ∷ readers
    else pair ∷ changed number change readers

-- the map without a number
abbrev pub without : ℕ → List (ℕ × Reader) → List (ℕ × Reader)
without number readers = remove_entry (λ (other : ℕ). other == number) readers

-- a reader that is added: its first reading is due now
abbrev pub new_reader : ℕ → ℕ → Reader
new_reader interval now = record { interval = interval; due = now; in_force = interval; under_way = false }

-- a reader whose reading begins
abbrev pub begun : Reader → Reader
begun reader = record reader { under_way = true }

-- the interval in force after a reading: the configured one after a success; after a failure twice the one before, up
-- to the longest, but never less than the configured one
abbrev pub interval_after : ℕ → Bool → Reader → ℕ
interval_after longest true reader = reader.interval
interval_after longest false reader = max reader.interval (min (2 * reader.in_force) longest)

-- when the next reading is due: that interval after the last was due, in numbers of 64 bits, and never before now
abbrev pub due_after : ℕ → ℕ → ℕ → ℕ
due_after due interval now = max (min (due + interval) (2 ^ 64 - 1)) now

-- a reader whose reading ended
abbrev pub reader_after : ℕ → Bool → ℕ → Reader → Reader
reader_after longest ok now reader = record {
  interval = reader.interval;
  due = due_after reader.due (interval_after longest ok reader) now;
  in_force = interval_after longest ok reader;
  under_way = false;
}
