-- A whole text of types.db(5).
use Rattle.cd_reading.specs.First.{unless, ◌>>=◌}
use Rattle.cd_types.specs.Faults.{at_line, fault_at}
use Rattle.cd_types.specs.Line.{set_of_line}
use Rattle.cd_types.specs.Sets.{with_sets}
use Rattle.cd_types.specs.declared.fault.TypesFault.{TypesFault}
use Rattle.cd_types.specs.declared.fault.TypesKind.TheVariants.{TooLong}
use Rattle.cd_types.specs.declared.limits.TheConstants.{FILE_LIMIT}
use Rattle.cd_value.specs.declared.data.DataSet.{DataSet}
use Rattle.std.specs.List.{slice_split}
use Rattle.std.specs.Option.{option_to_list}
use Rattle.std.specs.Prelude.{Bool, List, Ok, Result, [], length, nat_le, ℕ, ◌++◌, ◌+◌, ◌==◌, ◌∷◌}

abbrev pub is_newline : ℕ → Bool
is_newline b = b == 10

-- the sets of lines, of which the first has that number, or the first fault
unfoldable pub sets_from : ℕ → List (List ℕ) → Result (List DataSet) TypesFault
sets_from number [] = Ok []
sets_from number (line ∷ lines) =
    at_line number (set_of_line line) >>= λ set.
    sets_from (number + 1) lines >>= λ sets.
    Ok (option_to_list set ++ sets)

-- sets with others that were read, unless there was a fault
abbrev pub put_sets : List DataSet → Result (List DataSet) TypesFault → Result (List DataSet) TypesFault
put_sets sets read = read >>= λ others. Ok (with_sets others sets)

-- the sets of a text in the order of their names, or its first fault; of one name the last stands
unfoldable pub sets_of_text : List ℕ → Result (List DataSet) TypesFault
sets_of_text bytes =
    unless ((nat_le (length bytes) FILE_LIMIT, fault_at TooLong 0) ∷ []) bytes >>= λ text.
    put_sets [] (sets_from 1 (slice_split is_newline text))
