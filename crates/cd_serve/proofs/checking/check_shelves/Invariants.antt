use Rattle.cd_registry.specs.Faults.{is_reserved}
use Rattle.cd_serve.proofs.checking.check_shelves.Given as goal
use Rattle.cd_serve.specs.Shelf.{names_on}
use Rattle.std.proofs.Common.{false, take, ◌≡◌}
use Rattle.std.specs.List.{IsDistinct, list_any}
use Rattle.std.specs.Str.{bytes_eq}

abbrev pub invariant-loop-place : goal.invariant-loop-place
invariant-loop-place g l =
    IsDistinct bytes_eq (take l.place (names_on l.plugs l.probes))
    × (list_any is_reserved (take l.place (names_on l.plugs l.probes)) ≡ false)
