-- Lines, one after the other.
use Rattle.cd_reading.specs.First.{◌>>=◌}
use Rattle.cd_reading.specs.Gives.{Refuses}
use Rattle.cd_types.specs.Faults.{at_line}
use Rattle.cd_types.specs.Line.{set_of_line}
use Rattle.cd_types.specs.Sets.{with_sets}
use Rattle.cd_types.specs.Text.{is_newline, put_sets, sets_from}
use Rattle.cd_types.specs.declared.fault.TypesFault.{TypesFault}
use Rattle.cd_value.specs.declared.data.DataSet.{DataSet}
use Rattle.std.proofs.Common.{Bor, Err, List, None, Ok, Option, Result, Some, [], add-one, ap, arith, drop, drop-cons, get_or, length, map, refl, sym, ℕ, ◌++◌, ◌+◌, ◌<◌, ◌∙◌, ◌∷◌, ◌≡◌, ◌≤◌}
use Rattle.std.proofs.lemmas.List.Splits.{length-slice_split}
use Rattle.std.proofs.lemmas.List.Sums.{count_by-le-length}
use Rattle.std.proofs.lemmas.List.{drop_all, get_or-map, length-map}
use Rattle.std.specs.List.{count_by, slice_split}
use Rattle.std.specs.Option.{option_to_list}

-- the lines that references lead to
abbrev pub lines_at : List (Bor (List ℕ)) → List (List ℕ)
lines_at lines = map (λ line. line.now) lines

-- the sets of the lines from a place on, put among others
abbrev pub sets_left : List DataSet → List (Bor (List ℕ)) → ℕ → Result (List DataSet) TypesFault
sets_left sets lines i = put_sets sets (sets_from (i + 1) (drop i (lines_at lines)))

line_ahead : (lines : List (Bor (List ℕ))) (i : ℕ) (d : Bor (List ℕ)) → i < length lines → drop i (lines_at lines) ≡ (get_or lines i d).now ∷ drop (i + 1) (lines_at lines)
line_ahead lines i d lt =
    let l : i < length (lines_at lines) = omega (arith, length-map lines (λ (line : Bor (List ℕ)). line.now)) in
    let at : drop i (lines_at lines) ≡ get_or (lines_at lines) i [] ∷ drop (i + 1) (lines_at lines) = rw add-one (drop-cons (lines_at lines) i [] l) in
    at ∙ ap (λ (line : List ℕ). line ∷ drop (i + 1) (lines_at lines)) (get_or-map (λ (line : Bor (List ℕ)). line.now) lines i d [] lt)

-- what a line's verdict and the lines behind it lead to
abbrev with_line : List DataSet → Result (Option DataSet) TypesFault → Result (List DataSet) TypesFault → Result (List DataSet) TypesFault
with_line sets line rest = put_sets sets (line >>= λ set. rest >>= λ others. Ok (option_to_list set ++ others))

opened : (sets : List DataSet) (lines : List (Bor (List ℕ))) (i : ℕ) (d : Bor (List ℕ)) → i < length lines
    → sets_left sets lines i ≡ with_line sets (at_line (i + 1) (set_of_line (get_or lines i d).now)) (sets_from (i + 1 + 1) (drop (i + 1) (lines_at lines)))
unfolding sets_from
opened sets lines i d lt = ap (λ (rest : List (List ℕ)). put_sets sets (sets_from (i + 1) rest)) (line_ahead lines i d lt)

regrouped : (sets : List DataSet) (set : Option DataSet) (rest : Result (List DataSet) TypesFault) → with_line sets (Ok set) rest ≡ put_sets (with_sets (option_to_list set) sets) rest
regrouped sets None (Ok others) = refl
regrouped sets (Some set) (Ok others) = refl
regrouped sets set (Err fault) = refl

pub line_goes_on : (sets now : List DataSet) (lines : List (Bor (List ℕ))) (i : ℕ) (d : Bor (List ℕ)) (set : Option DataSet) (total : Result (List DataSet) TypesFault) → i < length lines
    → at_line (i + 1) (set_of_line (get_or lines i d).now) ≡ Ok set → now ≡ with_sets (option_to_list set) sets → sets_left sets lines i ≡ total → sets_left now lines (i + 1) ≡ total
line_goes_on sets now lines i d set total lt read is so_far =
    let rest : Result (List DataSet) TypesFault = sets_from (i + 1 + 1) (drop (i + 1) (lines_at lines)) in
    ap (λ (ss : List DataSet). put_sets ss rest) is ∙ sym (regrouped sets set rest)
    ∙ ap (λ (line : Result (Option DataSet) TypesFault). with_line sets line rest) (sym read) ∙ sym (opened sets lines i d lt) ∙ so_far

pub line_ends : (sets : List DataSet) (lines : List (Bor (List ℕ))) (i : ℕ) (d : Bor (List ℕ)) (fault : Option TypesFault) (total : Result (List DataSet) TypesFault) → i < length lines
    → Refuses fault (at_line (i + 1) (set_of_line (get_or lines i d).now)) → sets_left sets lines i ≡ total → Refuses fault total
line_ends sets lines i d None total lt refused so_far = tt
line_ends sets lines i d (Some fault) total lt refused so_far =
    sym so_far ∙ opened sets lines i d lt
    ∙ ap (λ (line : Result (Option DataSet) TypesFault). with_line sets line (sets_from (i + 1 + 1) (drop (i + 1) (lines_at lines)))) refused

pub lines_done : (sets : List DataSet) (lines : List (Bor (List ℕ))) (i : ℕ) (total : Result (List DataSet) TypesFault) → length lines ≤ i → sets_left sets lines i ≡ total → total ≡ Ok sets
unfolding sets_from
lines_done sets lines i total le so_far =
    let past : length (lines_at lines) ≤ i = omega (arith, length-map lines (λ (line : Bor (List ℕ)). line.now)) in
    sym so_far ∙ ap (λ (rest : List (List ℕ)). put_sets sets (sets_from (i + 1) rest)) (drop_all i (lines_at lines) past)

pub few_lines : (text : List ℕ) (lines : List (Bor (List ℕ))) (most : ℕ) → length text ≤ most → lines_at lines ≡ slice_split is_newline text → length lines ≤ most + 1
few_lines text lines most short are =
    let all : length (slice_split is_newline text) ≡ count_by is_newline text + 1 = length-slice_split is_newline text in
    let few : count_by is_newline text ≤ length text = count_by-le-length is_newline text in
    let same : length (lines_at lines) ≡ length (slice_split is_newline text) = ap length are in
    omega (arith, all, few, same, length-map lines (λ (line : Bor (List ℕ)). line.now))
