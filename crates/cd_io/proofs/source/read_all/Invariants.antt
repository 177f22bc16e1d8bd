use Rattle.cd_io.proofs.source.read_all.Given as goal
use Rattle.cd_io.specs.Told.{Takes}
use Rattle.std.proofs.Common.{length, ◌+◌, ◌-◌, ◌≡◌, ◌≤◌}

-- what was read so far was taken from what was left, and is at most the limit
abbrev pub invariant-loop-bytes : goal.invariant-loop-bytes
invariant-loop-bytes g l = record {
  few : length l.bytes.items ≤ l.limit;
  takes : Takes l.bytes.items (g.S.Source.source_tells l.fn.source).left (g.S.Source.source_tells l.source).left;
  faults : (g.S.Source.source_tells l.source).faults ≡ (g.S.Source.source_tells l.fn.source).faults;
}

abbrev pub decreases-loop-bytes : goal.decreases-loop-bytes
decreases-loop-bytes g l = l.limit + 1 - length l.bytes.items
