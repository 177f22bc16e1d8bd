use Rattle.cd_serve.proofs.checking.stands_before.Given as goal
use Rattle.cd_serve.specs.Shelf.{names_on}
use Rattle.std.proofs.Common.{false, take, ◌≡◌}
use Rattle.std.specs.List.{list_any}
use Rattle.std.specs.Str.{bytes_eq}

abbrev pub invariant-loop-earlier : goal.invariant-loop-earlier
invariant-loop-earlier g l = list_any (bytes_eq l.name) (take l.earlier (names_on l.plugs l.probes)) ≡ false
