-- What is told over two calls, one after another.
use Rattle.cd_io.specs.Told.{Adds, Grows, Loses, Moves}
use Rattle.std.proofs.Common.{List, None, Option, Some, [], ap, append-nil, append_assoc, refl, sym, ℕ, ◌++◌, ◌∙◌}

-- two moves, one after the other, are a move by any step that they make together
pub moves_then : {A : Type 0} (first second both : A → A → Type 0) (old mid new : Option A)
    → ((x y z : A) → first x y → second y z → both x z)
    → Moves first old mid → Moves second mid new → Moves both old new
moves_then first second both old mid None joined h k = tt
moves_then first second both None None (Some z) joined h k = k
moves_then first second both None (Some y) (Some z) joined h k = h
moves_then first second both (Some x) None (Some z) joined h k = absurd k
moves_then first second both (Some x) (Some y) (Some z) joined h k = joined x y z h k

-- no call
pub grows_none : (told : Option (List ℕ)) → Grows [] told told
grows_none None = tt
grows_none (Some x) = simp append-nil

pub loses_none : {A : Type 0} (told : Option (List A)) → Loses [] told told
loses_none None = tt
loses_none (Some x) = refl

pub adds_none : {A : Type 0} (told : Option (List A)) → Adds [] told told
adds_none None = tt
adds_none (Some x) = simp append-nil

-- two calls of a kind
pub grows_more : (more most : List ℕ) (old mid new : Option (List ℕ))
    → Grows more old mid → Grows most mid new → Grows (more ++ most) old new
grows_more more most old mid new =
    moves_then _ _ _ old mid new (λ x y z h k. k ∙ ap (λ (w : List ℕ). w ++ most) h ∙ append_assoc x more most)

pub loses_more : {A : Type 0} (more most : List A) (old mid new : Option (List A))
    → Loses more old mid → Loses most mid new → Loses (more ++ most) old new
loses_more {A = A} more most old mid new =
    moves_then _ _ _ old mid new (λ x y z h k. h ∙ ap (λ (w : List A). more ++ w) k ∙ sym (append_assoc more most z))

pub adds_more : {A : Type 0} (more most : List A) (old mid new : Option (List A))
    → Adds more old mid → Adds most mid new → Adds (more ++ most) old new
adds_more {A = A} more most old mid new =
    moves_then _ _ _ old mid new (λ x y z h k. k ∙ ap (λ (w : List A). w ++ most) h ∙ append_assoc x more most)
