-- Sets that are printed are read as themselves.
use Rattle.cd_reading.specs.First.{all_or_first, each_after, unless, ◌>>=◌}
use Rattle.cd_types.proofs.Ascending.{ascending_stay}
use Rattle.cd_types.proofs.PrintedSources.{all_both, all_wider, comma_off, each_byte, entry_reads, is_of_entry, name_reads, no_comma_off, other_at, other_byte, text_is, text_of_entry}
use Rattle.cd_types.proofs.ReadSets.{names_of, names_with}
use Rattle.cd_types.specs.Entry.{is_in_name, is_name, name_of, source_behind}
use Rattle.cd_types.specs.Faults.{at_line, fault_at}
use Rattle.cd_types.specs.Line.{is_blank, runs_of, set_of, set_of_line, set_of_runs, some_set, without_return}
use Rattle.cd_types.specs.Printed.{next_text, set_text, sets_text, source_text, sources_text}
use Rattle.cd_types.specs.Text.{is_newline, put_sets, sets_from, sets_of_text}
use Rattle.cd_types.specs.Valid.{AreSourcesBehind, AreValid, IsValid}
use Rattle.cd_types.specs.declared.fault.TypesFault.{TypesFault}
use Rattle.cd_types.specs.declared.fault.TypesKind.TheVariants.{NotText, TooLong}
use Rattle.cd_types.specs.declared.fault.TypesKind.{TypesKind}
use Rattle.cd_types.specs.declared.limits.TheConstants.{FILE_LIMIT, NAME_LIMIT}
use Rattle.cd_value.specs.declared.data.DataSet.{DataSet}
use Rattle.cd_value.specs.declared.data.DataSource.{DataSource}
use Rattle.std.proofs.Common.{All, Bool, List, None, Ok, Option, Result, Some, [], ap, append_assoc, arith, cond, false, filter, length, lit<, map, refl, suc, sym, take, true, zero, ℕ, ◌++◌, ◌+◌, ◌-◌, ◌<◌, ◌==◌, ◌∙◌, ◌∷◌, ◌≡◌, ◌≤◌}
use Rattle.std.proofs.lemmas.Bool.{and_parts, le-leb, lt-ltb, or_left}
use Rattle.std.proofs.lemmas.Grind.{common_steps}
use Rattle.std.proofs.lemmas.List.Splits.{slice_split_at, slice_split_none}
use Rattle.std.proofs.lemmas.List.{append-nil, length-append}
use Rattle.std.proofs.lemmas.Str.{IsUtf8-from_ascii, is_utf8-from_IsUtf8}
use Rattle.std.specs.List.{flat_map, list_all, slice_split}
use Rattle.std.specs.Option.{option_to_list}
use Rattle.std.specs.Prelude.{nat_le, nat_lt, ◌||◌}
use Rattle.std.specs.Str.{IsAscii, is_utf8}

-- ---- bytes of a line

-- the bytes of entries, and the commas and spaces between them
abbrev is_of_line : ℕ → Bool
is_of_line b = is_of_entry b || (b == 44 || b == 32)

of_line : (b : ℕ) → is_of_entry b ≡ true → is_of_line b ≡ true
of_line b h = or_left (is_of_entry b) (b == 44 || b == 32) h

name_in_line : (b : ℕ) → is_in_name b ≡ true → is_of_line b ≡ true
name_in_line b h = of_line b (or_left _ (b == 58) (or_left (is_in_name b) (b == 46 || b == 45) h))

no_newline : (b : ℕ) → is_of_line b ≡ true → is_newline b ≡ false
no_newline b h = other_byte is_of_line b 10 h refl

no_blank : (b : ℕ) → is_of_entry b ≡ true → is_blank b ≡ false
no_blank b h = rw (other_byte is_of_entry b 32 h refl, other_byte is_of_entry b 9 h refl) refl

below_128 : (b : ℕ) → is_of_line b ≡ true → b < 128
below_128 b h = grind (arith, common_steps)

ascii : (t : List ℕ) → list_all is_of_line t ≡ true → IsAscii t
ascii [] h i = grind (arith, common_steps)
ascii (b ∷ bs) h zero = below_128 b (and_parts (is_of_line b) (list_all is_of_line bs) h).0
ascii (b ∷ bs) h (suc i) = ascii bs (and_parts (is_of_line b) (list_all is_of_line bs) h).1 i

-- ---- the runs of a line

-- a source and those behind it, as runs
abbrev runs_from : DataSource → List DataSource → List (List ℕ)
runs_from s [] = source_text s ∷ []
runs_from s (next ∷ more) = (source_text s ++ 44 ∷ []) ∷ runs_from next more

no_blanks : (t : List ℕ) → list_all is_of_entry t ≡ true → All (λ b. is_blank b ≡ false) t
no_blanks t h = each_byte is_blank is_of_entry no_blank t h

comma_run : (t : List ℕ) → list_all is_of_entry t ≡ true → All (λ b. is_blank b ≡ false) (t ++ 44 ∷ [])
comma_run t h =
    each_byte is_blank is_run no_blank_in_run (t ++ 44 ∷ [])
    (all_both is_run t (44 ∷ []) (all_wider is_of_entry is_run (λ b e. or_left (is_of_entry b) (b == 44) e) t h) refl)
  where
    is_run : ℕ → Bool
    is_run b = is_of_entry b || b == 44

    no_blank_in_run : (b : ℕ) → is_run b ≡ true → is_blank b ≡ false
    no_blank_in_run b e = rw (other_byte is_run b 32 e refl, other_byte is_run b 9 e refl) refl

comma_between : (t u more : List ℕ) → t ++ ((44 ∷ 32 ∷ u) ++ more) ≡ (t ++ 44 ∷ []) ++ 32 ∷ (u ++ more)
comma_between t u more = sym (append_assoc t (44 ∷ []) (32 ∷ (u ++ more)))

split_runs : (others : List DataSource) (s : DataSource) (more : List DataSource) → AreSourcesBehind others (s ∷ more)
    → slice_split is_blank (source_text s ++ flat_map next_text more) ≡ runs_from s more
split_runs others s [] valid =
    ap (slice_split is_blank) (append-nil (source_text s))
    ∙ slice_split_none is_blank (source_text s) (no_blanks (source_text s) (text_of_entry others s valid.0))
split_runs others s (next ∷ more) valid =
    ap (slice_split is_blank) (comma_between (source_text s) (source_text next) (flat_map next_text more))
    ∙ slice_split_at is_blank (source_text s ++ 44 ∷ []) 32 (source_text next ++ flat_map next_text more) (comma_run (source_text s) (text_of_entry others s valid.0)) refl
    ∙ ap (λ (runs : List (List ℕ)). (source_text s ++ 44 ∷ []) ∷ runs) (split_runs (others ++ s ∷ []) next more valid.1)

some_byte : (xs : List ℕ) (c : ℕ) (ys : List ℕ) → nat_lt 0 (length (xs ++ c ∷ ys)) ≡ true
some_byte xs c ys = lt-ltb 0 (length (xs ++ c ∷ ys)) (omega (arith, length-append xs (c ∷ ys)))

some_source : (s : DataSource) → nat_lt 0 (length (source_text s)) ≡ true
some_source s = ap (λ (t : List ℕ). nat_lt 0 (length t)) (text_is s) ∙ some_byte s.name 58 _

abbrev some_runs : List (List ℕ) → List (List ℕ)
some_runs runs = filter (λ run. nat_lt 0 (length run)) runs

keep_run : (run : List ℕ) (runs : List (List ℕ)) → nat_lt 0 (length run) ≡ true → some_runs runs ≡ runs → some_runs (run ∷ runs) ≡ run ∷ runs
keep_run run runs some rest = rw some (ap (λ (rs : List (List ℕ)). run ∷ rs) rest)

keep_runs : (s : DataSource) (more : List DataSource) → some_runs (runs_from s more) ≡ runs_from s more
keep_runs s [] = keep_run (source_text s) [] (some_source s) refl
keep_runs s (next ∷ more) = keep_run (source_text s ++ 44 ∷ []) (runs_from next more) (some_byte (source_text s) 44 []) (keep_runs next more)

-- the runs of sources are read as the sources
runs_read : (earlier : List (List ℕ)) (others : List DataSource) (s : DataSource) (more : List DataSource) → map name_of earlier ≡ names_of others → AreSourcesBehind others (s ∷ more)
    → all_or_first (each_after source_behind earlier (runs_from s more)) ≡ Ok (s ∷ more)
unfolding all_or_first each_after
runs_read earlier others s [] same valid =
    ap (λ (r : Result DataSource TypesKind). r >>= λ x. Ok (x ∷ []))
    (entry_reads earlier (source_text s) others s same valid.0 (no_comma_off (source_text s) (text_of_entry others s valid.0)))
runs_read earlier others s (next ∷ more) same valid =
    let run : List ℕ = source_text s ++ 44 ∷ [] in
    let rest : Result (List DataSource) TypesKind = all_or_first (each_after source_behind (earlier ++ run ∷ []) (runs_from next more)) in
    ap (λ (r : Result DataSource TypesKind). r >>= λ x. rest >>= λ xs. Ok (x ∷ xs)) (entry_reads earlier run others s same valid.0 (comma_off (source_text s)))
    ∙ ap (λ (r : Result (List DataSource) TypesKind). r >>= λ xs. Ok (s ∷ xs))
    (runs_read (earlier ++ run ∷ []) (others ++ s ∷ []) next more (names_with earlier run others s same (name_reads others s run valid.0 (comma_off (source_text s)))) valid.1)

-- ---- a line

-- the text of a set without its newline
abbrev line_text : DataSet → List ℕ
line_text set = set.name ++ 32 ∷ sources_text set.sources

more_of_line : (others : List DataSource) (sources : List DataSource) → AreSourcesBehind others sources → list_all is_of_line (flat_map next_text sources) ≡ true
more_of_line others [] valid = refl
more_of_line others (s ∷ more) valid =
    all_both is_of_line (next_text s) (flat_map next_text more)
    (all_wider is_of_entry is_of_line of_line (source_text s) (text_of_entry others s valid.0))
    (more_of_line (others ++ s ∷ []) more valid.1)

sources_of_line : (sources : List DataSource) → AreSourcesBehind [] sources → list_all is_of_line (sources_text sources) ≡ true
sources_of_line [] valid = refl
sources_of_line (s ∷ more) valid =
    all_both is_of_line (source_text s) (flat_map next_text more)
    (all_wider is_of_entry is_of_line of_line (source_text s) (text_of_entry [] s valid.0))
    (more_of_line (s ∷ []) more valid.1)

in_name : (most : ℕ) (t : List ℕ) → is_name most t ≡ true → list_all is_in_name t ≡ true
in_name most t h = (and_parts (nat_le (length t) most) (list_all is_in_name t) (and_parts (nat_lt 0 (length t)) _ h).1).1

bytes_of_line : (set : DataSet) → IsValid set → list_all is_of_line (line_text set) ≡ true
bytes_of_line set valid =
    all_both is_of_line set.name (32 ∷ sources_text set.sources)
    (all_wider is_in_name is_of_line name_in_line set.name (in_name NAME_LIMIT set.name valid.name))
    (sources_of_line set.sources valid.sources)

no_return : (t : List ℕ) → list_all is_of_line t ≡ true → without_return t ≡ t
no_return t h = ap (λ (b : Bool). cond b (take (length t - 1) t) t) (other_at is_of_line t (length t - 1) 13 h refl refl)

set_reads : (name : List ℕ) (s : DataSource) (more : List DataSource) → is_name NAME_LIMIT name ≡ true → AreSourcesBehind [] (s ∷ more)
    → set_of name (runs_from s more) ≡ Ok (record { name = name; sources = s ∷ more })
set_reads name s more good valid = rw (good, some s more, runs_read [] [] s more refl valid) refl
  where
    some : (s : DataSource) (more : List DataSource) → nat_lt 0 (length (runs_from s more)) ≡ true
    some s [] = lt-ltb 0 1 (lit< tt)
    some s (next ∷ more) = lt-ltb 0 (suc (length (runs_from next more))) (omega arith)

runs_of_set : (name : List ℕ) (s : DataSource) (more : List DataSource) → is_name NAME_LIMIT name ≡ true → AreSourcesBehind [] (s ∷ more)
    → runs_of (name ++ 32 ∷ (source_text s ++ flat_map next_text more)) ≡ name ∷ runs_from s more
runs_of_set name s more good valid =
    let entry : list_all is_of_entry name ≡ true = all_wider is_in_name is_of_entry in_entry name (in_name NAME_LIMIT name good) in
    ap some_runs (slice_split_at is_blank name 32 (source_text s ++ flat_map next_text more) (no_blanks name entry) refl
    ∙ ap (λ (runs : List (List ℕ)). name ∷ runs) (split_runs [] s more valid))
    ∙ keep_run name (runs_from s more) (and_parts (nat_lt 0 (length name)) _ good).0 (keep_runs s more)
  where
    in_entry : (b : ℕ) → is_in_name b ≡ true → is_of_entry b ≡ true
    in_entry b h = or_left _ (b == 58) (or_left (is_in_name b) (b == 46 || b == 45) h)

runs_read_as : (name : List ℕ) (s : DataSource) (more : List DataSource) → is_name NAME_LIMIT name ≡ true → AreSourcesBehind [] (s ∷ more)
    → set_of_runs (name ∷ runs_from s more) ≡ Ok (Some (record { name = name; sources = s ∷ more }))
runs_read_as name s more good valid =
    ap (λ (b : Bool). cond b (Ok None) (set_of name (runs_from s more) >>= some_set)) (other_at is_in_name name 0 35 (in_name NAME_LIMIT name good) refl refl)
    ∙ ap (λ (r : Result DataSet TypesKind). r >>= some_set) (set_reads name s more good valid)

line_runs : (name : List ℕ) (sources : List DataSource) → is_name NAME_LIMIT name ≡ true → 0 < length sources → AreSourcesBehind [] sources
    → set_of_runs (runs_of (name ++ 32 ∷ sources_text sources)) ≡ Ok (Some (record { name = name; sources = sources }))
line_runs name [] good some valid = absurd (omega (arith, some))
line_runs name (s ∷ more) good some valid = ap set_of_runs (runs_of_set name s more good valid) ∙ runs_read_as name s more good valid

line_reads : (set : DataSet) → IsValid set → set_of_line (line_text set) ≡ Ok (Some set)
unfolding set_of_line
line_reads set valid =
    let bytes = bytes_of_line set valid in
    let text : is_utf8 (line_text set) ≡ true = is_utf8-from_IsUtf8 (line_text set) (IsUtf8-from_ascii (line_text set) (ascii (line_text set) bytes)) in
    ap (λ (b : Bool). unless ((b, NotText) ∷ []) (line_text set) >>= λ line. set_of_runs (runs_of (without_return line))) text
    ∙ ap (λ (line : List ℕ). set_of_runs (runs_of line)) (no_return (line_text set) bytes)
    ∙ line_runs set.name set.sources valid.name valid.some valid.sources

-- ---- a text

-- the lines of sets, and the empty one behind the last newline
abbrev lines_of : List DataSet → List (List ℕ)
lines_of [] = [] ∷ []
lines_of (set ∷ sets) = line_text set ∷ lines_of sets

newline_behind : (set : DataSet) (rest : List ℕ) → set_text set ++ rest ≡ line_text set ++ 10 ∷ rest
newline_behind set rest =
    all set.name (sources_text set.sources) rest
  where
    all : (a b d : List ℕ) → a ++ 32 ∷ [] ++ b ++ 10 ∷ [] ++ d ≡ (a ++ 32 ∷ b) ++ 10 ∷ d
    all a b d = simp append_assoc

split_lines : (sets : List DataSet) → AreValid sets → slice_split is_newline (sets_text sets) ≡ lines_of sets
split_lines [] valid = refl
split_lines (set ∷ sets) valid =
    ap (slice_split is_newline) (newline_behind set (sets_text sets))
    ∙ slice_split_at is_newline (line_text set) 10 (sets_text sets) (each_byte is_newline is_of_line no_newline (line_text set) (bytes_of_line set valid.0)) refl
    ∙ ap (λ (lines : List (List ℕ)). line_text set ∷ lines) (split_lines sets valid.2)

empty_line : set_of_line [] ≡ Ok None
unfolding set_of_line
empty_line =
    let text : is_utf8 [] ≡ true = is_utf8-from_IsUtf8 [] (IsUtf8-from_ascii [] (ascii [] refl)) in
    ap (λ (b : Bool). unless ((b, NotText) ∷ []) [] >>= λ line. set_of_runs (runs_of (without_return line))) text

lines_read : (number : ℕ) (sets : List DataSet) → AreValid sets → sets_from number (lines_of sets) ≡ Ok sets
unfolding sets_from
lines_read number [] valid = ap (λ (r : Result (Option DataSet) TypesKind). at_line number r >>= λ set. Ok (option_to_list set ++ [])) empty_line
lines_read number (set ∷ sets) valid =
    ap (λ (r : Result (Option DataSet) TypesKind). at_line number r >>= λ one. sets_from (number + 1) (lines_of sets) >>= λ more. Ok (option_to_list one ++ more)) (line_reads set valid.0)
    ∙ ap (λ (r : Result (List DataSet) TypesFault). r >>= λ more. Ok (set ∷ more)) (lines_read (number + 1) sets valid.2)

pub print_reads : (sets : List DataSet) → AreValid sets → length (sets_text sets) ≤ FILE_LIMIT → sets_of_text (sets_text sets) ≡ Ok sets
unfolding sets_of_text
print_reads sets valid short =
    ap (λ (b : Bool). unless ((b, fault_at TooLong 0) ∷ []) (sets_text sets) >>= λ text. put_sets [] (sets_from 1 (slice_split is_newline text))) (le-leb (length (sets_text sets)) FILE_LIMIT short)
    ∙ ap (λ (lines : List (List ℕ)). put_sets [] (sets_from 1 lines)) (split_lines sets valid)
    ∙ ap (put_sets []) (lines_read 1 sets valid)
    ∙ ap Ok (ascending_stay sets valid)
