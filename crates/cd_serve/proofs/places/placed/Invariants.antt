use Rattle.cd_serve.proofs.places.placed.Given as goal
use Rattle.cd_serve.specs.Shelf.{on_shelf}
use Rattle.cd_serve.specs.Working.Loading.{place_seen, standing}
use Rattle.std.proofs.Common.{length, map, vec_len, ◌++◌, ◌+◌, ◌≡◌, ◌≤◌}
use Rattle.std.specs.Vec.{vec_capacity}

abbrev pub invariant-loop-plug : goal.invariant-loop-plug
invariant-loop-plug g l = record {
  room : vec_len l.places + length l.plug-iterator.rest.items ≤ vec_capacity l.places;
  moved : map (place_seen g.P.TellsCalls.plug_tells) l.places.items ++ map standing (on_shelf g.P.TellsCalls.plug_tells l.plug-iterator.rest.items)
      ≡ map standing (on_shelf g.P.TellsCalls.plug_tells l.initial.plug-iterator.rest.items);
}
