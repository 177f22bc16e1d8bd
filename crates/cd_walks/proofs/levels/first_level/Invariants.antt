use Rattle.std.proofs.Common.{◌≡◌, ℕ, ◌<◌, false, length, nat_eq, get_or}
use Rattle.cd_walks.proofs.levels.first_level.Given as goal

abbrev pub invariant-loop-chain : goal.invariant-loop-chain
invariant-loop-chain l = record {
  as_many : length l.level.items ≡ l.chain;
  at : (k : ℕ) → k < l.chain → get_or l.level.items k false ≡ nat_eq l.to k;
}
