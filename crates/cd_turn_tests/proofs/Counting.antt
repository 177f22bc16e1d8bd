-- One turn more.
use Rattle.std.proofs.Common.{List, [], arith, length, length-append, ℕ, ◌%◌, ◌++◌, ◌+◌, ◌^◌, ◌∷◌, ◌≡◌}

-- a number that counts a list, wrapping, counts one entry more
pub one_more : {E : Type 0} (log : List E) (e : E) (old new : ℕ) → old ≡ length log % 2 ^ 64 → new ≡ (old + 1) % 2 ^ 64 → new ≡ length (log ++ e ∷ []) % 2 ^ 64
one_more log e old new before one = let longer_list = length-append log (e ∷ []) in omega arith
