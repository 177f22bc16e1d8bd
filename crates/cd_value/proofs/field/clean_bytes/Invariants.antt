use Rattle.cd_value.proofs.field.clean_bytes.Given as goal
use Rattle.cd_value.specs.Clean.{clean_byte}
use Rattle.std.proofs.Common.{drop, map, take, ◌++◌, ◌≡◌}

-- the bytes so far are replaced, and the others stand as they were
abbrev pub invariant-loop-byte : goal.invariant-loop-byte
invariant-loop-byte l = l.byte-items ≡ map (clean_byte l.slash) (take l.byte-index l.initial.byte-items) ++ drop l.byte-index l.initial.byte-items
