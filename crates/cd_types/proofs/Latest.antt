-- Of the sets of one name the last stands.
use Rattle.cd_types.specs.Latest.{TheLastStands, last_named, or_else}
use Rattle.cd_types.specs.Sets.{name_order, with_set, with_sets}
use Rattle.cd_types.specs.Types.{set_named}
use Rattle.cd_value.specs.declared.data.DataSet.{DataSet}
use Rattle.std.proofs.Common.{Bool, List, None, Option, Some, [], ap, cond, false, refl, reverse, sym, true, ℕ, ◌++◌, ◌∙◌, ◌∷◌, ◌≡◌}
use Rattle.std.proofs.lemmas.List.{reverse-append}
use Rattle.std.proofs.lemmas.Map.Lookups.{exact_bytes}
use Rattle.std.proofs.lemmas.Map.Text.{is_eq-slice_cmp}
use Rattle.std.proofs.lemmas.Slice.Eq.{bytes_eq-Decides}
use Rattle.std.specs.Ordering.{is_eq, match_ordering}
use Rattle.std.specs.Str.{bytes_eq}
use Rattle.std.specs.declared.cmp.Ordering.TheVariants.{Equal, Greater, Less}

-- sets of which one is above the other haven't one name
never : (name : List ℕ) (set first : DataSet) → name_order set.name first.name ≡ Greater → bytes_eq first.name name ≡ true → bytes_eq set.name name ≡ true → ⊥
never name set first above f s =
    let same : set.name ≡ first.name = (bytes_eq-Decides set.name name).0 s ∙ sym ((bytes_eq-Decides first.name name).0 f) in
    let both : false ≡ true = sym (ap is_eq above) ∙ is_eq-slice_cmp set.name first.name ∙ (bytes_eq-Decides set.name first.name).1 same in
    absurd (cc both)

-- a set that is put has its name, and each other name keeps its set
named_put : (name : List ℕ) (set : DataSet) (sets : List DataSet) → set_named name (with_set set sets) ≡ cond (bytes_eq set.name name) (Some set) (set_named name sets)
named_put name set [] = refl
named_put name set (first ∷ sets) =
    elim (name_order set.name first.name) as (λ r. name_order set.name first.name ≡ r
    → set_named name (match_ordering r (set ∷ first ∷ sets) (set ∷ sets) (first ∷ with_set set sets)) ≡ cond (bytes_eq set.name name) (Some set) (cond (bytes_eq first.name name) (Some first) (set_named name sets))) [
      | Less ↦ λ _. refl
      | Equal ↦ λ e. replaced (bytes_eq set.name name) (bytes_eq first.name name) (ap (λ (n : List ℕ). bytes_eq n name) (exact_bytes set.name first.name e)) set first (set_named name sets)
      | Greater ↦ λ e.
          ap (cond (bytes_eq first.name name) (Some first)) (named_put name set sets)
          ∙ apart (bytes_eq first.name name) (bytes_eq set.name name) first set (set_named name sets) (λ f s. never name set first e f s)
    ] refl
  where
    replaced : (b d : Bool) → b ≡ d → (x y : DataSet) (rest : Option DataSet) → cond b (Some x) rest ≡ cond b (Some x) (cond d (Some y) rest)
    replaced true d e x y rest = refl
    replaced false true e x y rest = absurd (cc e)
    replaced false false e x y rest = refl

    apart : (b d : Bool) (x y : DataSet) (rest : Option DataSet) → (b ≡ true → d ≡ true → ⊥) → cond b (Some x) (cond d (Some y) rest) ≡ cond d (Some y) (cond b (Some x) rest)
    apart true true x y rest never = absurd (never refl refl)
    apart true false x y rest never = refl
    apart false true x y rest never = refl
    apart false false x y rest never = refl

-- the last of a list that goes on
found_last : (name : List ℕ) (sets : List DataSet) (set : DataSet) (rest : Option DataSet)
    → or_else (set_named name (sets ++ set ∷ [])) rest ≡ or_else (set_named name sets) (cond (bytes_eq set.name name) (Some set) rest)
found_last name [] set rest = one (bytes_eq set.name name)
  where
    one : (b : Bool) → or_else (cond b (Some set) None) rest ≡ cond b (Some set) rest
    one true = refl
    one false = refl
found_last name (first ∷ sets) set rest = step (bytes_eq first.name name) _ _ _ (found_last name sets set rest)
  where
    step : (b : Bool) (x y z : Option DataSet) → or_else x rest ≡ or_else y z → or_else (cond b (Some first) x) rest ≡ or_else (cond b (Some first) y) z
    step true x y z e = refl
    step false x y z e = e

pub the_last_stands : (others old : List DataSet) → TheLastStands others old (with_sets others old)
the_last_stands [] old name = refl
the_last_stands (set ∷ others) old name =
    the_last_stands others (with_set set old) name
    ∙ ap (or_else (last_named name others)) (named_put name set old)
    ∙ sym (found_last name (reverse others) set (set_named name old))
    ∙ ap (λ (sets : List DataSet). or_else (set_named name sets) (set_named name old)) (sym (reverse-append (set ∷ []) others))
