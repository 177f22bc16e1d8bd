-- Lists of one type and with the same values fit alike.
use Rattle.cd_target.specs.Targets.{Keeps}
use Rattle.cd_types.specs.Types.{fits, fits_set, set_named}
use Rattle.cd_value.specs.declared.data.DataSet.{DataSet}
use Rattle.cd_value.specs.declared.data.ValueList.{ValueList}
use Rattle.std.proofs.Common.{Bool, List, None, Option, Some, ap, false, refl, ℕ, ◌∙◌, ◌≡◌}

same_set : (old new : ValueList) → Keeps old new → (set : DataSet) → fits_set set new ≡ fits_set set old
unfolding fits_set
same_set old new keeps set = rw (keeps.type_name, keeps.values) refl

pub kept_fits : (sets : List DataSet) (old new : ValueList) → Keeps old new → fits sets new ≡ fits sets old
kept_fits sets old new keeps =
    ap (λ (name : List ℕ). elim (set_named name sets) as (λ o. Bool) [ None ↦ false | Some set ↦ fits_set set new ]) keeps.type_name
    ∙ by (set_named old.id.type_name sets)
  where
    by : (found : Option DataSet) → elim found as (λ o. Bool) [ None ↦ false | Some set ↦ fits_set set new ] ≡ elim found as (λ o. Bool) [ None ↦ false | Some set ↦ fits_set set old ]
    by None = refl
    by (Some set) = same_set old new keeps set
