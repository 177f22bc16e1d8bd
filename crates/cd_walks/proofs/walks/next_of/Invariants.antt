use Rattle.std.proofs.Common.{◌≡◌, ◌-◌, ◌&&◌, false, nat_eq, slice_index_or}
use Rattle.std.specs.List.{find, list_any, range_with_len}
use Rattle.cd_walks.proofs.walks.next_of.Given as goal

abbrev pub invariant-loop-chain : goal.invariant-loop-chain
invariant-loop-chain l =
    find (λ chain. list_any (nat_eq chain) l.chains && slice_index_or l.marks chain false) (range_with_len l.chain (l.count - l.chain))
    ≡ find (λ chain. list_any (nat_eq chain) l.chains && slice_index_or l.marks chain false) (range_with_len 0 l.count)
