-- Readings worked out by hand; a moment or an interval in seconds is that many times 2^30.
use Rattle.cd_sched.specs.Due.{due_of, first_of, next_reads_of}
use Rattle.cd_sched.specs.Schedule.{begun, changed, new_reader, reader_after, with_reader}
use Rattle.cd_sched.specs.declared.reader.Due.TheVariants.{NoneReady, NotYet, Ready}
use Rattle.cd_sched.specs.declared.reader.Reader.{Reader}
use Rattle.std.proofs.Common.{Bool, List, None, Option, Some, [], false, refl, suc, true, zero, ℕ, ◌*◌, ◌∷◌, ◌≡◌}

abbrev seconds : ℕ → ℕ
seconds n = n * 1073741824

-- the intervals in force after readings that succeed or fail at moment 0, where the longest is 60 s
abbrev intervals : List Bool → Reader → List ℕ
intervals [] reader = []
intervals (ok ∷ oks) reader = (reader_after (seconds 60) ok 0 reader).in_force ∷ intervals oks (reader_after (seconds 60) ok 0 reader)

-- an interval of 10 s doubles up to the longest, and a success brings it back
pub four_failures_and_a_success : intervals (false ∷ false ∷ false ∷ false ∷ true ∷ []) (new_reader (seconds 10) 0) ≡ seconds 20 ∷ seconds 40 ∷ seconds 60 ∷ seconds 60 ∷ seconds 10 ∷ []
four_failures_and_a_success = refl

-- two readers of 10 s, whose first readings begin at 0; that of the first succeeds at 3 s, that of the second fails at 4 s
abbrev two : List (ℕ × Reader)
two = with_reader 1 (new_reader (seconds 10) 0) (with_reader 0 (new_reader (seconds 10) 0) [])

abbrev one_begun : List (ℕ × Reader)
one_begun = changed 0 begun two

abbrev both_begun : List (ℕ × Reader)
both_begun = changed 1 begun one_begun

abbrev both_returned : List (ℕ × Reader)
both_returned = changed 1 (reader_after (seconds 60) false (seconds 4)) (changed 0 (reader_after (seconds 60) true (seconds 3)) both_begun)

pub lower_number_first : due_of 0 two ≡ Ready 0
lower_number_first = refl

pub then_the_other : due_of 0 one_begun ≡ Ready 1
then_the_other = refl

pub under_way_is_due_nowhere : due_of 0 both_begun ≡ NoneReady
under_way_is_due_nowhere = refl

pub not_before_the_interval : due_of (seconds 5) both_returned ≡ NotYet (seconds 10)
not_before_the_interval = refl

pub due_at_the_interval : due_of (seconds 10) both_returned ≡ Ready 0
due_at_the_interval = refl

pub failed_reader_later : due_of (seconds 10) (changed 0 begun both_returned) ≡ NotYet (seconds 20)
failed_reader_later = refl

-- a reading of this read, and those behind it
abbrev readings_from : Option (ℕ × ℕ) → (ℕ × ℕ → List (ℕ × ℕ)) → List (ℕ × ℕ)
readings_from None rest = []
readings_from (Some read) rest = read ∷ rest read

-- so many readings, each of which begins and succeeds at its due moment
abbrev readings : ℕ → List (ℕ × Reader) → List (ℕ × ℕ)
readings zero readers = []
readings (suc n) readers =
    readings_from (first_of (next_reads_of readers)) (λ read. readings n (changed read.1 (reader_after (seconds 60) true read.0) (changed read.1 begun readers)))

-- of readers of 3, 2 and 5 s
pub eight_readings : readings 8 (with_reader 2 (new_reader (seconds 5) 0) (with_reader 1 (new_reader (seconds 2) 0) (with_reader 0 (new_reader (seconds 3) 0) [])))
    ≡ (0, 0) ∷ (0, 1) ∷ (0, 2) ∷ (seconds 2, 1) ∷ (seconds 3, 0) ∷ (seconds 4, 1) ∷ (seconds 5, 2) ∷ (seconds 6, 0) ∷ []
eight_readings = refl
