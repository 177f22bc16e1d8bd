use Rattle.cd_serve.proofs.places.all_places.Given as goal
use Rattle.cd_serve.specs.Shelf.{on_shelf}
use Rattle.std.proofs.Common.{Some, map, slice_get, take, ◌≡◌}

abbrev pub invariant-loop-index : goal.invariant-loop-index
invariant-loop-index g l =
    map (slice_get (on_shelf g.P.TellsCalls.plug_tells l.shelf)) l.order.items ≡ map Some (take l.index (on_shelf g.P.TellsCalls.plug_tells l.shelf))
