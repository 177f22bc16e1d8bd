use Rattle.std.proofs.Common.{◌≡◌, ◌-◌, length, is_some}
use Rattle.std.specs.List.{find, range_with_len}
use Rattle.cd_walks.specs.Walks.{first_looped, items_of, round}
use Rattle.cd_walks.proofs.walks.least_cycle.Given as goal

abbrev pub invariant-loop-chain : goal.invariant-loop-chain
invariant-loop-chain l = find (λ a. is_some (round (items_of l.jumps) a)) (range_with_len l.chain (length l.jumps - l.chain)) ≡ first_looped (items_of l.jumps)
