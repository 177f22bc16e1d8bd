-- What a world tells of its files, and what calls on it do to that.
use Rattle.cd_io.specs.Causes.{Counts}
use Rattle.cd_io.specs.Source.{SourceTells}
use Rattle.cd_io.specs.declared.world.OutFault.TheVariants as fault
use Rattle.cd_io.specs.declared.world.OutFault.{OutFault}
use Rattle.std.specs.List.{find, slice_get}
use Rattle.std.specs.Option.{option_and_then, option_map}
use Rattle.std.specs.Prelude.{Bool, Err, IfOk, IfSome, IsSome, List, Ok, Option, Result, Some, [], drop, false, if◌then◌else◌, length, nat_lt, true, ℕ, ◌∷◌, ◌≡◌}
use Rattle.std.specs.Str.{bytes_eq}

-- a path, and the texts of its next openings in order: the last stands for all later ones
pub record FileTells : Type 0 where
  pub path : List ℕ
  pub texts : List (List ℕ)

-- What a world tells: its files, where it tells them; how many calls failed, and how many sources that had failed it
-- took back.
pub record WorldTells : Type 0 where
  pub files : Option (List FileTells)
  pub faults : ℕ
  pub reading_faults : ℕ

-- the text of the next opening of a path, where there is one
abbrev pub opening : List ℕ → List FileTells → Option (List ℕ)
opening path files = option_and_then (λ file. slice_get file.texts 0) (find (λ file. bytes_eq file.path path) files)

-- the texts after an opening: the first goes, but the last stays
abbrev pub later_texts : List (List ℕ) → List (List ℕ)
later_texts texts = if nat_lt 1 (length texts) then drop 1 texts else texts

abbrev pub later : FileTells → FileTells
later file = record { path = file.path; texts = later_texts file.texts }

-- the files after an opening of a path
abbrev pub after_opening : List ℕ → List FileTells → List FileTells
after_opening path [] = []
after_opening path (file ∷ files) =
    if bytes_eq file.path path then later file ∷ files else file ∷ after_opening path files

-- the same, after a call that had this answer: a refused one opens nothing
abbrev pub files_after : {S : Type 0} → Result S OutFault → List ℕ → List FileTells → List FileTells
files_after (Ok source) path files = after_opening path files
files_after (Err fault) path files = files

-- a call of `file` failed
abbrev pub is_opening_fault : {S : Type 0} → Result S OutFault → Bool
is_opening_fault (Ok source) = false
is_opening_fault (Err fault.Failed) = true
is_opening_fault (Err fault.Memory) = false

-- What a call of `file` does that had this answer: the source has the text of the path's next opening left, where the
-- world tells it, and no fault. Memory is lacking only where a text is there.
pub record Opens {S : Type 0} (tells : S → SourceTells) (path : List ℕ) (answer : Result S OutFault)
    (before after : WorldTells) : Type 0 where
  pub found : IfOk answer (λ source. option_map Some (tells source).left ≡ option_map (opening path) before.files)
  pub begins : IfOk answer (λ source. (tells source).faults ≡ 0)
  pub lacking : answer ≡ Err fault.Memory → IfSome before.files (λ files. IsSome (opening path files))
  pub files : after.files ≡ option_map (files_after answer path) before.files
  pub faults : Counts (is_opening_fault answer) before.faults after.faults
  pub reading_faults : after.reading_faults ≡ before.reading_faults

-- what a call of `shut` does that takes back a source which tells this
pub record Shuts (source : SourceTells) (before after : WorldTells) : Type 0 where
  pub files : after.files ≡ before.files
  pub faults : after.faults ≡ before.faults
  pub reading_faults : Counts (nat_lt 0 source.faults) before.reading_faults after.reading_faults
