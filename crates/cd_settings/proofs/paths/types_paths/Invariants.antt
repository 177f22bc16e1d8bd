use Rattle.std.proofs.Common.{◌≡◌, take}
use Rattle.cd_settings.specs.Paths.{paths_of}
use Rattle.cd_settings.proofs.paths.types_paths.Given as goal

abbrev pub invariant-loop-item : goal.invariant-loop-item
invariant-loop-item l = l.paths ≡ paths_of (take l.item-index l.items)
