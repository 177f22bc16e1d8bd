-- What a file in memory shows.
use Rattle.cd_io.specs.MemSource.{PlanTells, plan_tells}
use Rattle.cd_io.specs.World.{FileTells, after_opening}
use Rattle.cd_io.specs.declared.memory.file.MemFile.{MemFile}
use Rattle.std.specs.List.{find}
use Rattle.std.specs.Option.{option_map}
use Rattle.std.specs.Prelude.{Err, List, None, Ok, Option, Result, Some, drop, map, string_bytes, ℕ}
use Rattle.std.specs.Str.{bytes_eq}

-- its path, and the texts of its next openings
abbrev pub shown : MemFile → FileTells
shown file = record { path = string_bytes file.path; texts = map (λ v. v.items) (drop file.opened file.texts.items) }

-- the plan by which each of its openings is read
abbrev pub plan_of : MemFile → PlanTells
plan_of file = plan_tells file.plan

-- the plan of the first file that lies at a path
abbrev pub plan_at : List ℕ → List MemFile → Option PlanTells
plan_at path files = option_map plan_of (find (λ file. bytes_eq (shown file).path path) files)

-- the files after a call that opened a path, or didn't
abbrev pub after_answer : {S E : Type 0} → Result (Option S) E → List ℕ → List FileTells → List FileTells
after_answer (Ok (Some source)) path files = after_opening path files
after_answer (Ok None) path files = files
after_answer (Err lacking) path files = files
