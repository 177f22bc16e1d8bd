use Rattle.cd_core.proofs.effects.Effects.write_copies.Given as goal
use Rattle.cd_core.specs.Posting.{write_if_any}
use Rattle.cd_daemon.specs.Performing.{to_each}
use Rattle.cd_registry.specs.declared.calls.Call.TheVariants as calls
use Rattle.std.proofs.Common.{take, ◌++◌, ◌≡◌}

abbrev pub invariant-loop-writer : goal.invariant-loop-writer
invariant-loop-writer l = record {
  posts : l.self.posts ++ write_if_any l.list l.last ≡ l.fn.self.posts ++ to_each (take l.writer-index l.writers) (calls.Write l.list);
  skipped : l.self.skipped ≡ l.fn.self.skipped;
}
