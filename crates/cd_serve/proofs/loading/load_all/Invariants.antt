use Rattle.cd_core.specs.Seen.{seen}
use Rattle.cd_daemon.specs.declared.Opening.{Opening}
use Rattle.cd_serve.proofs.loading.load_all.Given as goal
use Rattle.cd_serve.specs.Working.Loading.{CanLoad, HasLoaded, place_seen}
use Rattle.cd_transcript.specs.LineRuns.{Loaded, OnShelf}
use Rattle.std.proofs.Common.{List, map, take}

abbrev pub invariant-loop-count : goal.invariant-loop-count
invariant-loop-count g l = (K : Opening) (shelf : List OnShelf) (loaded : List Loaded)
    → CanLoad K shelf loaded l.blocks (seen g.P.TellsCalls.plug_tells g.Q.TellsReadings.probe_tells l.fn.core) l.order (map (place_seen g.P.TellsCalls.plug_tells) l.fn.places)
    → HasLoaded K shelf (take l.count loaded) (seen g.P.TellsCalls.plug_tells g.Q.TellsReadings.probe_tells l.core) (map (place_seen g.P.TellsCalls.plug_tells) l.places)
