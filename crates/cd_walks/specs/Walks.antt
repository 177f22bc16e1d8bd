-- Walks over jumps: `jumps` has for each chain, by number, the numbers of the chains to which it
-- jumps.
use Rattle.std.specs.Prelude.{◌≡◌, ℕ, zero, suc, ◌<◌, Bool, true, false, ◌&&◌, ◌||◌, nat_eq, nat_lt, is_some, map, List, [], ◌∷◌, length, slice_index_or, Option, None, Some}
use Rattle.std.specs.Prelude.{Vec}
use Rattle.std.specs.List.{find, list_any, range_with_len}

-- the lists in vectors
abbrev pub items_of : {X Z : Type 0} → List (Vec X Z) → List (List X)
items_of vectors = map (λ vector. vector.items) vectors

-- to which chains a chain jumps
abbrev pub from : List (List ℕ) → ℕ → List ℕ
from jumps chain = slice_index_or jumps chain []

-- whether so many jumps lead from a chain to another
abbrev pub leads : List (List ℕ) → ℕ → ℕ → ℕ → Bool
leads jumps to zero start = nat_eq to start
leads jumps to (suc n) start = list_any (leads jumps to n) (from jumps start)

-- no chain reaches itself, by any number of jumps
pub record IsFree (jumps : List (List ℕ)) : Type 0 where
  pub never : (chain n : ℕ) → leads jumps chain (suc n) chain ≡ false

-- ---- the walk that is given

-- The number of jumps on a shortest walk from a chain to itself. Where there is a walk, a shortest
-- one has at most as many jumps as there are chains.
abbrev pub round : List (List ℕ) → ℕ → Option ℕ
round jumps chain = find (λ n. leads jumps chain n chain) (range_with_len 1 (length jumps))

-- the least chain to which one jumps and from which so many jumps lead to another
abbrev pub next : List (List ℕ) → ℕ → ℕ → ℕ → Option ℕ
next jumps to n start =
    find (λ chain. list_any (nat_eq chain) (from jumps start) && leads jumps to n chain)
    (range_with_len 0 (length jumps))

-- the walk of so many jumps from a chain to another that has the least numbers, compared in order
abbrev pub walk : List (List ℕ) → ℕ → ℕ → ℕ → List ℕ
walk jumps to zero start = start ∷ []
walk jumps to (suc n) start =
    start ∷ elim (next jumps to n start) [ None ↦ [] | Some chain ↦ walk jumps to n chain ]

-- the least chain that reaches itself
abbrev pub first_looped : List (List ℕ) → Option ℕ
first_looped jumps = find (λ chain. is_some (round jumps chain)) (range_with_len 0 (length jumps))

abbrev pub walk_round : List (List ℕ) → ℕ → Option ℕ → List ℕ
walk_round jumps chain None = []
walk_round jumps chain (Some n) = walk jumps chain n chain

-- the walk from the least chain that reaches itself to itself: a shortest one, and of these the one
-- of the least numbers
abbrev pub cycle : List (List ℕ) → Option (List ℕ)
cycle jumps =
    elim (first_looped jumps) [
      | None ↦ None
      | Some chain ↦ Some (walk_round jumps chain (round jumps chain))
    ]

-- ---- what this is, with no word of how it is found

-- these are the chains of a walk of so many jumps from one chain to another
pub data IsWalk (jumps : List (List ℕ)) (to : ℕ) : ℕ → ℕ → List ℕ → Type 0 where
  ends : IsWalk jumps to 0 to (to ∷ [])
  goes : {n start chain : ℕ} {walk : List ℕ} → list_any (nat_eq chain) (from jumps start) ≡ true
      → IsWalk jumps to n chain walk → IsWalk jumps to (suc n) start (start ∷ walk)

-- numbers compared in order
abbrev pub comes_first : List ℕ → List ℕ → Bool
comes_first [] ys = true
comes_first (x ∷ xs) [] = false
comes_first (x ∷ xs) (y ∷ ys) = nat_lt x y || (nat_eq x y && comes_first xs ys)

-- a walk from a chain to itself, by `suc n` jumps; no lesser chain reaches itself, this one not by
-- fewer jumps, and no walk from it to itself by as many has lesser numbers
pub record IsLeastCycle (jumps : List (List ℕ)) (chain n : ℕ) (walk : List ℕ) : Type 0 where
  pub closed : IsWalk jumps chain (suc n) chain walk
  pub lowest : (other k : ℕ) → other < chain → leads jumps other (suc k) other ≡ false
  pub shortest : (k : ℕ) → k < n → leads jumps chain (suc k) chain ≡ false
  pub least : (others : List ℕ) → IsWalk jumps chain (suc n) chain others
      → comes_first walk others ≡ true
