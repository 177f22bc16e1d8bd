use Rattle.std.proofs.Common.{◌≡◌, ◌+◌, get_or, min, take}
use Rattle.std.specs.List.{sum_by}
use Rattle.cd_chain.proofs.weigh.with_jumps.Given as goal

abbrev pub invariant-loop-number : goal.invariant-loop-number
invariant-loop-number l = l.sum ≡ min 4097 (l.weight + sum_by (λ n. get_or l.weights n 0) (take l.number-index l.numbers))
