use Rattle.cd_serve.proofs.places.named_places.Given as goal
use Rattle.cd_serve.specs.Shelf.{on_shelf}
use Rattle.cd_serve.specs.Started.{named_on}
use Rattle.std.proofs.Common.{Some, map, slice_get, take, ◌≡◌}
use Rattle.std.specs.List.{flat_map}

abbrev pub invariant-loop-name : goal.invariant-loop-name
invariant-loop-name g l =
    map (slice_get (on_shelf g.P.TellsCalls.plug_tells l.shelf)) l.order.items
    ≡ map Some (flat_map (named_on (on_shelf g.P.TellsCalls.plug_tells l.shelf)) (take l.name-index l.loaded))
