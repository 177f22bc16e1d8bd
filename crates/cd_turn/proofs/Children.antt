-- The passes that one pass splits off. For a caller's proofs.
use Rattle.atomic_table.proofs.Lists.{at_last}
use Rattle.cd_turn.specs.Families.{IsNew, SplitsOff}
use Rattle.cd_turn.specs.declared.view.View.{View}
use Rattle.std.proofs.Common.{List, ap, inl, inr, length, refl, ℕ, ◌<◌, ◌∙◌}
use lib.ListN.{get_elem?}

module _ {K E : Type 0} (v w z : View K E) (s : SplitsOff v w z) (n : ℕ) (new : IsNew w n) where
  -- an actor that is new to a pass is above the pass, and above the one that it split off last
  pub above_parent : v.actor < n
  above_parent = new v.actor (inl s.actor.0)

  pub above_last : z.actor < n
  above_last = new z.actor (inr (inl (
    length v.children,
    ap (λ (l : List ℕ). get_elem? l (length v.children)) s.children.0 ∙ at_last v.children z.actor (length v.children) refl,
  )))
