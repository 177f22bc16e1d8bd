-- The words that views name as used up.
use Rattle.atomic_table.proofs.Lists.{at_snoc}
use Rattle.cd_turn.proofs.Views.{set_each}
use Rattle.cd_turn.specs.Rule.{At, IsFull, IsOver, most}
use Rattle.cd_turn.specs.declared.view.View.{View}
use Rattle.std.proofs.Common.{List, None, Option, Some, [], ap, arith, get_or, get_or-set_other, inl, inr, set, sym, true, ℕ, ⊎_elim, ◌++◌, ◌∙◌, ◌∷◌, ◌≡◌, ◌≢◌, ◌⊎◌}
use Rattle.std.specs.Option.{option_or}

-- a word that has not its last value changes, and each that has it stays
pub full_other : (words : List ℕ) (a new i : ℕ) → get_or words a 0 ≢ most → IsFull words i → IsFull (set words a new) i
full_other words a new i room f = (f.0, get_or-set_other words a i new 0 (λ e. room (ap (λ (j : ℕ). get_or words j 0) (sym e) ∙ f.1)) ∙ f.1)

-- word 1 changes
pub full_served : (words : List ℕ) (new i : ℕ) → IsFull words i → IsFull (set words 1 new) i
full_served words new i f = (f.0, get_or-set_other words 1 i new 0 (λ e. ⊎_elim (λ z. omega arith) (λ t. omega arith) f.0) ∙ f.1)

module _ {K E : Type 0} (words words' : List ℕ) (views : List (View K E)) (id : ℕ) (v w : View K E) (at : At views id v) where
  pub over_each : ((i : ℕ) → IsFull words i → IsFull words' i) → (w.live ≡ true → (i : ℕ) → w.over ≡ Some i → IsFull words' i) → IsOver words views → IsOver words' (set views id w)
  over_each stay mine o j i u l e = set_each views id v w at (λ j' u'. u'.live ≡ true → u'.over ≡ Some i → IsFull words' i)
      (λ live e'. mine live i e') (λ j' u' _ at' live e'. stay i (o j' i u' (at', live) e')) j u l.0 l.1 e

  pub same_over : ((i : ℕ) → IsFull words i → IsFull words' i) → w.live ≡ v.live → w.over ≡ v.over → IsOver words views → IsOver words' (set views id w)
  same_over stay live over o = over_each stay (λ lw i e. stay i (o id i v (at, sym live ∙ lw) (sym over ∙ e))) o

-- a new view that names no word
pub over_more : {K E : Type 0} (words : List ℕ) (views : List (View K E)) (z : View K E) → z.over ≡ None → IsOver words views → IsOver words (views ++ z ∷ [])
over_more {K = K} {E = E} words views z over o j i u l e = ⊎_elim (λ h. o j i u (h, l.1) e) (λ (is : z ≡ u). absurd (cc (over, ap (λ (q : View K E). q.over) is, e))) (at_snoc views z u j l.0)

pub over_or_case : (a b : Option ℕ) (i : ℕ) → option_or a b ≡ Some i → (a ≡ Some i) ⊎ (b ≡ Some i)
over_or_case None b i e = inr e
over_or_case (Some a) b i e = inl e
