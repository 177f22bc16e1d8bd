use Rattle.cd_core.specs.Seen.{seen}
use Rattle.cd_daemon.specs.declared.Opening.{Opening}
use Rattle.cd_history.specs.History.{History}
use Rattle.cd_serve.proofs.loading.hand_out_all.Given as goal
use Rattle.cd_serve.specs.Working.Loading.{CanBeHandedOut, HasHandedOut, place_seen}
use Rattle.cd_transcript.specs.LineRuns.{Loaded, OnShelf}
use Rattle.std.proofs.Common.{List, drop, map, take}

abbrev pub invariant-loop-index : goal.invariant-loop-index
invariant-loop-index g l = (K : Opening) (H : History) (shelf : List OnShelf) (loaded : List Loaded)
    → CanBeHandedOut K H shelf loaded (seen g.P.TellsCalls.plug_tells g.Q.TellsReadings.probe_tells l.fn.core) l.order (map (place_seen g.P.TellsCalls.plug_tells) l.fn.places)
    → HasHandedOut K H shelf (take l.index-index loaded) (drop l.index-index loaded) (seen g.P.TellsCalls.plug_tells g.Q.TellsReadings.probe_tells l.core)
    (map (place_seen g.P.TellsCalls.plug_tells) l.places)
