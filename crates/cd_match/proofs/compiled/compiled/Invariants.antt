-- The patterns so far are compiled.
use Rattle.cd_match.proofs.compiled.compiled.Given as goal
use Rattle.cd_match.specs.Refusals.{are_patterns}
use Rattle.std.proofs.Common.{IsTrue, take, ◌≡◌}

abbrev pub invariant-loop-field : goal.invariant-loop-field
invariant-loop-field l =
    (l.compiled.items ≡ take l.field-index l.patterns) × IsTrue (are_patterns (take l.field-index l.patterns))
