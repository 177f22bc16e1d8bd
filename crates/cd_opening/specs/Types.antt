-- What types files give, read one after the other.
use Rattle.cd_io.specs.World.{FileTells, after_opening, opening}
use Rattle.cd_opening.specs.declared.fault.OpeningFault.TheVariants as faults
use Rattle.cd_opening.specs.declared.fault.OpeningFault.{OpeningFault}
use Rattle.cd_reading.specs.First.{all_or_first, ◌>>=◌}
use Rattle.cd_types.specs.Sets.{with_sets}
use Rattle.cd_types.specs.Text.{sets_of_text}
use Rattle.cd_types.specs.Types.{builtin}
use Rattle.cd_types.specs.declared.fault.TypesFault.{TypesFault}
use Rattle.cd_value.specs.declared.data.DataSet.{DataSet}
use Rattle.std.specs.List.{zip}
use Rattle.std.specs.Option.{option_map}
use Rattle.std.specs.Prelude.{Err, IfSome, List, None, Ok, Option, Result, Some, [], fold, length, map, unwrap_or, ℕ, ◌++◌, ◌∷◌, ◌≡◌}

-- the texts that openings of paths give, one after the other, where they have any
unfoldable pub openings : List (List ℕ) → List FileTells → List (Option (List ℕ))
openings [] files = []
openings (path ∷ paths) files = opening path files ∷ openings paths (after_opening path files)

-- the files after them
abbrev pub after_openings : List (List ℕ) → List FileTells → List FileTells
after_openings paths files = fold (λ left path. after_opening path left) files paths

-- a fault names the file
abbrev pub at_path : List ℕ → Result (List DataSet) TypesFault → Result (List DataSet) OpeningFault
at_path path (Ok sets) = Ok sets
at_path path (Err fault) = Err (faults.Types path fault)

-- the data sets of a types file at a path, by its text; without a text it can't be opened
abbrev pub sets_at : List ℕ → Option (List ℕ) → Result (List DataSet) OpeningFault
sets_at path None = Err (faults.Open path)
sets_at path (Some text) = at_path path (sets_of_text text)

-- of repeated types those of the later file stand
abbrev pub put : Option (List DataSet) → List DataSet → Option (List DataSet)
put None sets = Some sets
put (Some others) sets = Some (with_sets sets others)

-- the types of all files together; the built-in types where there is no file
abbrev pub together : Option (List DataSet) → List (List DataSet) → List DataSet
together so_far all = unwrap_or (fold put so_far all) builtin

-- the same for files at paths with these texts, or their first fault in order
abbrev pub types_after : Option (List DataSet) → List (List ℕ) → List (Option (List ℕ))
    → Result (List DataSet) OpeningFault
types_after so_far paths texts =
    all_or_first (map (λ file. sets_at file.0 file.1) (zip paths texts)) >>= λ all. Ok (together so_far all)

abbrev pub types_of : List (List ℕ) → List (Option (List ℕ)) → Result (List DataSet) OpeningFault
types_of paths texts = types_after None paths texts

-- that is what the paths' next openings come to, by their texts, where the world tells its files
pub record HasTypes (paths : List (List ℕ)) (files : Option (List FileTells))
    (read : Result (List DataSet) OpeningFault) : Type 0 where
  pub texts : List (Option (List ℕ))
  pub many : length texts ≡ length paths
  pub next : IfSome files (λ told. texts ≡ openings paths told)
  pub types : types_of paths texts ≡ read

-- the file at `at` is the next one: the paths name it behind others, and the files at those give types
pub record Reaches (paths : List (List ℕ)) (files : Option (List FileTells)) (at : List ℕ) : Type 0 where
  pub before : List (List ℕ)
  pub rest : List (List ℕ)
  pub named : paths ≡ before ++ at ∷ rest
  pub types : List DataSet
  pub good : HasTypes before files (Ok types)

module _ (paths : List (List ℕ)) (files after : Option (List FileTells)) where
  -- the work ends at that file; what the world has left is behind the files before it, and behind these
  pub record EndsAt (at : List ℕ) (opened : List (List ℕ)) : Type 0 where
    pub reached : Reaches paths files at
    pub left : after ≡ option_map (after_openings (reached.before ++ opened)) files

  -- what ends the work: a fault of a text, an opening that failed, or a reading that failed
  abbrev pub EndsBy : OpeningFault → Type 0
  EndsBy (faults.Types at fault) = HasTypes paths files (Err (faults.Types at fault)) × EndsAt at (at ∷ [])
  EndsBy (faults.Open at) = EndsAt at []
  EndsBy (faults.Read at) = EndsAt at (at ∷ [])
  EndsBy faults.Memory = Unit {0}
  EndsBy _ = ⊥

  -- the files give the types that are in force, or why not, and what the world has left
  abbrev pub ReadsTypes : Result (List DataSet) OpeningFault → Type 0
  ReadsTypes (Ok types) = HasTypes paths files (Ok types) × (after ≡ option_map (after_openings paths) files)
  ReadsTypes (Err fault) = EndsBy fault
