use Rattle.cd_serve.proofs.places.shelved.Given as goal
use Rattle.cd_serve.specs.Shelf.{on_shelf}
use Rattle.cd_serve.specs.Working.Loading.{IsFull, place_seen, standing}
use Rattle.std.proofs.Common.{IsTrue, length, map, vec_len, ◌++◌, ◌+◌, ◌≡◌, ◌≤◌}
use Rattle.std.specs.List.{list_all}
use Rattle.std.specs.Vec.{vec_capacity}

abbrev pub invariant-loop-place : goal.invariant-loop-place
invariant-loop-place g l = record {
  room : vec_len l.shelf + length l.place-iterator.rest.items ≤ vec_capacity l.shelf;
  full : IsTrue (list_all IsFull (map (place_seen g.P.TellsCalls.plug_tells) l.place-iterator.rest.items));
  moved : map standing (on_shelf g.P.TellsCalls.plug_tells l.shelf.items) ++ map (place_seen g.P.TellsCalls.plug_tells) l.place-iterator.rest.items
      ≡ map (place_seen g.P.TellsCalls.plug_tells) l.initial.place-iterator.rest.items;
}
