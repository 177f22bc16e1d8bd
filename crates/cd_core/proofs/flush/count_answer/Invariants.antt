use Rattle.cd_core.proofs.flush.count_answer.Given as goal
use Rattle.cd_core.specs.UnderWay.{counted_as}
use Rattle.std.proofs.Common.{drop, map, take, ◌++◌, ◌≡◌}

abbrev pub invariant-loop-flush : goal.invariant-loop-flush
invariant-loop-flush l = l.flushes ≡ map (counted_as l.number l.answer) (take l.flush-index l.fn.flushes) ++ drop l.flush-index l.fn.flushes
