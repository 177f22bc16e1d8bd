-- Weights by number.
use Rattle.std.specs.Prelude.{◌≡◌, ℕ, min, List, slice_index_or, Option, None, Some}
use Rattle.cd_chain.specs.declared.data.Chain.{Chain}
use Rattle.cd_chain.specs.Chains.{at_depth, chain_weight, number_of}

abbrev pub weight_at : List ℕ → Option ℕ → ℕ
weight_at weights None = 0
weight_at weights (Some number) = slice_index_or weights number 0

-- the weight that stands at the chain of a name
abbrev pub looked_up : List Chain → List ℕ → List ℕ → ℕ
looked_up table weights name = weight_at weights (number_of name table)

-- the weights of the chains where jumps are followed so deep, each at most one above the greatest
pub record AreWeights (table : List Chain) (depth : ℕ) (weights : List ℕ) : Type 0 where
  pub at : (name : List ℕ) → looked_up table weights name ≡ min 4097 (at_depth chain_weight 0 table depth name)
