use Rattle.cd_core.proofs.posting.reserve_all.Given as goal
use Rattle.cd_core.specs.Posting.{IsAmong, count_to}
use Rattle.cd_registry.specs.Registry.{rows, spare_of}
use Rattle.cd_registry.specs.Rows.{At, IsLive}
use Rattle.std.proofs.Common.{take, ℕ, ◌≡◌, ◌≤◌}

abbrev pub invariant-loop-at : goal.invariant-loop-at
invariant-loop-at g l = record {
  room : (r : ℕ) → IsAmong (take l.at l.posts) r → At (rows g.P.TellsCalls.plug_tells g.Q.TellsReadings.probe_tells l.registry) r IsLive → count_to r l.posts ≤ spare_of l.registry r;
  rows : rows g.P.TellsCalls.plug_tells g.Q.TellsReadings.probe_tells l.registry ≡ rows g.P.TellsCalls.plug_tells g.Q.TellsReadings.probe_tells l.fn.registry;
}
