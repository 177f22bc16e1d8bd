use Rattle.std.proofs.Common.{◌≡◌, ℕ, ◌<◌, true, false, length, get_or}
use Rattle.cd_walks.proofs.levels.all_chains.Given as goal

abbrev pub invariant-loop-n : goal.invariant-loop-n
invariant-loop-n l = record {
  as_many : length l.deep.items ≡ l._n;
  at : (k : ℕ) → k < l._n → get_or l.deep.items k false ≡ true;
}
