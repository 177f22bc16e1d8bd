-- A line of types.db(5): a name, and one to sixteen entries.
use Rattle.cd_reading.specs.First.{all_or_first, each_after, unless, ◌>>=◌}
use Rattle.cd_types.specs.Entry.{is_name, source_behind}
use Rattle.cd_types.specs.declared.fault.TypesKind.TheVariants.{BadName, BadSource, NotText}
use Rattle.cd_types.specs.declared.fault.TypesKind.{TypesKind}
use Rattle.cd_types.specs.declared.limits.TheConstants.{NAME_LIMIT}
use Rattle.cd_value.specs.declared.data.DataSet.{DataSet}
use Rattle.cd_value.specs.declared.data.DataSource.{DataSource}
use Rattle.std.specs.List.{filter, slice_split}
use Rattle.std.specs.Prelude.{Bool, List, None, Ok, Option, Result, Some, [], if◌then◌else◌, length, nat_lt, slice_index, take, ℕ, ◌-◌, ◌==◌, ◌||◌, ◌∷◌}
use Rattle.std.specs.Str.{is_utf8}

abbrev pub is_blank : ℕ → Bool
is_blank b = b == 32 || b == 9

-- the runs of a line between blanks
abbrev pub runs_of : List ℕ → List (List ℕ)
runs_of line = filter (λ run. nat_lt 0 (length run)) (slice_split is_blank line)

-- a line without the carriage return at its end
abbrev pub without_return : List ℕ → List ℕ
without_return line =
    if slice_index line (length line - 1) == 13 then take (length line - 1) line else line

-- the sources of entries, or the first fault
abbrev pub sources_of : List (List ℕ) → Result (List DataSource) TypesKind
sources_of entries = all_or_first (each_after source_behind [] entries)

-- the set of a name and entries
abbrev pub set_of : List ℕ → List (List ℕ) → Result DataSet TypesKind
set_of name entries =
    unless
    ((is_name NAME_LIMIT name, BadName) ∷ (nat_lt 0 (length entries), BadSource) ∷ [])
    entries >>= λ entries.
    sources_of entries >>= λ sources.
    Ok (record { name = name; sources = sources })

abbrev pub some_set : DataSet → Result (Option DataSet) TypesKind
some_set set = Ok (Some set)

-- the set of runs; none where there are only blanks, or a comment
abbrev pub set_of_runs : List (List ℕ) → Result (Option DataSet) TypesKind
set_of_runs [] = Ok None
set_of_runs (run ∷ runs) =
    if slice_index run 0 == 35 then Ok None else set_of run runs >>= some_set

-- the set of a line, or its first fault; none for a line that is skipped
unfoldable pub set_of_line : List ℕ → Result (Option DataSet) TypesKind
set_of_line line =
    unless ((is_utf8 line, NotText) ∷ []) line >>= λ line. set_of_runs (runs_of (without_return line))
