-- A text comes behind what its plug-in has.
use Rattle.cd_settings.specs.TopLevel.{with_block}
use Rattle.cd_settings.specs.declared.blocks.Block.{Block}
use Rattle.std.proofs.Common.{Bool, List, None, Some, [], ap, arith, bytes_eq, cond, false, get_or, length, not, position, refl, set, suc, sym, true, zero, ℕ, ◌+◌, ◌++◌, ◌<◌, ◌∙◌, ◌∷◌, ◌≡◌, ◌≤◌}
use Rattle.std.proofs.lemmas.Grind.{common_steps}
use Rattle.std.proofs.lemmas.Option.{cond_some}
use Rattle.std.specs.List.{position_or_len}
use Rattle.std.specs.Prelude.{if◌then◌else◌, nat_lt}

abbrev is_of : List ℕ → Block → Bool
is_of name block = bytes_eq block.name name

abbrev longer : Block → List ℕ → Block
longer block text = record block { text = block.text ++ text }

-- at the first place of the plug-in
at_first : (blocks : List Block) (name text : List ℕ) (i : ℕ) (d : Block) → i ≡ position_or_len (is_of name) blocks → i < length blocks
    → set blocks i (longer (get_or blocks i d) text) ≡ with_block blocks name text
unfolding with_block
at_first [] name text i d e lt = absurd (omega arith)
at_first (block ∷ blocks) name text i d e lt = by (is_of name block) i e lt (λ j. at_first blocks name text j d)
  where
    by : (b : Bool) (i : ℕ) → i ≡ cond (not b) (1 + position_or_len (is_of name) blocks) 0 → i < length (block ∷ blocks)
        → ((j : ℕ) → j ≡ position_or_len (is_of name) blocks → j < length blocks → set blocks j (longer (get_or blocks j d) text) ≡ with_block blocks name text)
        → set (block ∷ blocks) i (longer (get_or (block ∷ blocks) i d) text) ≡ (if b then longer block text ∷ blocks else block ∷ with_block blocks name text)
    by true zero e lt rest = refl
    by true (suc j) e lt rest = absurd (omega arith)
    by false zero e lt rest = absurd (omega arith)
    by false (suc j) e lt rest = ap (λ bs. block ∷ bs) (rest j (omega arith) (omega arith))

-- behind all, where the plug-in has none
behind_all : (blocks : List Block) (name text : List ℕ) → length blocks ≤ position_or_len (is_of name) blocks
    → blocks ++ record { name = name; text = text } ∷ [] ≡ with_block blocks name text
unfolding with_block
behind_all [] name text le = refl
behind_all (block ∷ blocks) name text le = by (is_of name block) le (behind_all blocks name text)
  where
    by : (b : Bool) → length (block ∷ blocks) ≤ cond (not b) (1 + position_or_len (is_of name) blocks) 0
        → (length blocks ≤ position_or_len (is_of name) blocks → blocks ++ record { name = name; text = text } ∷ [] ≡ with_block blocks name text)
        → block ∷ (blocks ++ record { name = name; text = text } ∷ []) ≡ (if b then longer block text ∷ blocks else block ∷ with_block blocks name text)
    by true le rest = absurd (omega arith)
    by false le rest = ap (λ bs. block ∷ bs) (rest (omega arith))

pub at_place : (blocks : List Block) (name text after : List ℕ) (i : ℕ) (block d : Block) → Some i ≡ position (is_of name) blocks
    → block ≡ get_or blocks i d → after ≡ block.text ++ text → set blocks i (record { name = block.name; text = after }) ≡ with_block blocks name text
at_place blocks name text after i block d e is grown =
    let s = cond_some (nat_lt (position_or_len (is_of name) blocks) (length blocks)) (position_or_len (is_of name) blocks) i (sym e) in
    ap (λ b. set blocks i b) (ap (λ t. record { name = block.name; text = t }) grown ∙ ap (λ b. longer b text) is)
    ∙ at_first blocks name text i d (grind (arith, common_steps, s)) (grind (arith, common_steps, s))

pub at_end : (blocks : List Block) (name text : List ℕ) → None ≡ position (is_of name) blocks
    → blocks ++ record { name = name; text = text } ∷ [] ≡ with_block blocks name text
at_end blocks name text e = behind_all blocks name text (grind (arith, common_steps))
