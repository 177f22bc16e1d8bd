use Rattle.cd_net.proofs.Values.{coded_values}
use Rattle.cd_net.proofs.list.payload_values.Given as goal
use Rattle.cd_net.specs.Payload.{payload_values}
use Rattle.std.proofs.Common.{drop, length, ◌*◌, ◌++◌, ◌+◌, ◌≡◌, ◌≤◌}

-- the values so far and those of the codes that are left are those of all
abbrev pub invariant-loop-code : goal.invariant-loop-code
invariant-loop-code l = record {
  room : 8 * length l.codes ≤ length l.numbers + 8 * l.code-index;
  goes_on : l.values.items ++ coded_values (drop l.code-index l.codes) l.numbers ≡ payload_values l.payload;
}
