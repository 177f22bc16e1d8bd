-- Marks on chains, as rounds over a table of jumps put them.
use Rattle.std.specs.Prelude.{◌≡◌, ℕ, zero, suc, ◌<◌, Bool, false, ◌||◌, nat_eq, nat_lt, List, [], length, slice_index_or}
use Rattle.std.specs.List.{list_any}
use Rattle.std.specs.Prelude.{Vec}
use Rattle.cd_walks.specs.Walks.{from, items_of, leads}

-- these are marks of the chains that pass a test, and of no others
pub record Marks (passes : ℕ → Bool) (marks : List Bool) : Type 0 where
  pub at : (chain : ℕ) → slice_index_or marks chain false ≡ passes chain

-- a walk of so many jumps begins at a chain
abbrev pub is_deep : List (List ℕ) → ℕ → ℕ → Bool
is_deep jumps zero start = nat_lt start (length jumps)
is_deep jumps (suc n) start = list_any (is_deep jumps n) (from jumps start)

-- at least one jump and at most so many lead from a chain to another
abbrev pub reaches : List (List ℕ) → ℕ → ℕ → ℕ → Bool
reaches jumps to zero start = false
reaches jumps to (suc n) start =
    list_any (λ chain. nat_eq to chain || reaches jumps to n chain) (from jumps start)

-- at each number the marks of the chains from which so many jumps lead to one
pub record AreLevels {Z : Type 0} (jumps : List (List ℕ)) (to : ℕ)
    (levels : List (Vec Bool Z)) : Type 0 where
  pub at : (n : ℕ) → n < length levels
      → Marks (leads jumps to n) (slice_index_or (items_of levels) n [])
