use Rattle.cd_core.proofs.asking.calls_of.Given as goal
use Rattle.cd_daemon.specs.Flushes.{flush_calls_to}
use Rattle.std.proofs.Common.{take, ◌≡◌}
use Rattle.std.specs.List.{flat_map}

abbrev pub invariant-loop-plugin : goal.invariant-loop-plugin
invariant-loop-plugin l = l.posts.items ≡ flat_map (flush_calls_to l.number l.request) (take l.plugin-index l.plugins)
