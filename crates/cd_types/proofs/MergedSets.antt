-- Sets that are put among valid ones leave them valid.
use Rattle.cd_types.specs.Entry.{are_in_order, is_name}
use Rattle.cd_types.specs.Sets.{name_order, with_set, with_sets}
use Rattle.cd_types.specs.Types.{builtin, single}
use Rattle.cd_types.specs.Valid.{AreValid, IsBefore, IsBound, IsValid}
use Rattle.cd_types.specs.declared.limits.TheConstants.{NAME_LIMIT}
use Rattle.cd_value.specs.declared.data.DataSet.{DataSet}
use Rattle.cd_value.specs.declared.data.DsType.TheVariants.{Absolute, Counter, Derive, Gauge}
use Rattle.cd_value.specs.declared.data.DsType.{DsType}
use Rattle.std.proofs.Common.{List, None, Option, Some, [], ap, lit<, lit≤, pos, refl, subst, sym, true, ℕ, ℤ, ◌∙◌, ◌∷◌, ◌≡◌}
use Rattle.std.proofs.lemmas.Map.Lookups.{exact_bytes}
use Rattle.std.specs.Cmp.Lexicographic.{nat_list_cmp_total}
use Rattle.std.specs.List.{AllByRecursion}
use Rattle.std.specs.Ordering.{match_ordering, ordering_reverse}
use Rattle.std.specs.Prelude.{codes}
use Rattle.std.specs.declared.cmp.Ordering.TheVariants.{Equal, Greater, Less}
use Rattle.std.specs.declared.cmp.Ordering.{Ordering}

turned : (one other : List ℕ) → name_order one other ≡ Greater → name_order other one ≡ Less
turned one other greater = nat_list_cmp_total.antisymm other one ∙ ap ordering_reverse greater

-- what stands before a name stands before those behind it
before_more : (name next : List ℕ) (sets : List DataSet) → name_order name next ≡ Less → IsBefore next sets → IsBefore name sets
before_more name next [] less before = tt
before_more name next (set ∷ sets) less before = (nat_list_cmp_total.trans name next set.name less before.0, before_more name next sets less before.1)

-- the first set and those behind it, where the place of one more is known
before_placed : (r : Ordering) (name : List ℕ) (set first : DataSet) (more placed : List DataSet) → name_order name set.name ≡ Less → name_order name first.name ≡ Less
    → IsBefore name more → IsBefore name placed → IsBefore name (match_ordering r (set ∷ first ∷ more) (set ∷ more) (first ∷ placed))
before_placed Less name set first more placed this that rest put = (this, (that, rest))
before_placed Equal name set first more placed this that rest put = (this, rest)
before_placed Greater name set first more placed this that rest put = (that, put)

before_with : (name : List ℕ) (set : DataSet) (sets : List DataSet) → name_order name set.name ≡ Less → IsBefore name sets → IsBefore name (with_set set sets)
before_with name set [] less before = (less, tt)
before_with name set (first ∷ more) less before =
    before_placed (name_order set.name first.name) name set first more (with_set set more) less before.0 before.1 (before_with name set more less before.1)

pub valid_with : (set : DataSet) (sets : List DataSet) → IsValid set → AreValid sets → AreValid (with_set set sets)
valid_with set [] one all = (one, tt, tt)
valid_with set (first ∷ more) one all =
    elim (name_order set.name first.name) as (λ r. name_order set.name first.name ≡ r
    → AreValid (match_ordering r (set ∷ first ∷ more) (set ∷ more) (first ∷ with_set set more))) [
      | Less ↦ λ e. (one, (e, before_more set.name first.name more e all.1), all)
      | Equal ↦ λ e. (one, subst (λ (name : List ℕ). IsBefore name more) (sym (exact_bytes set.name first.name e)) all.1, all.2)
      | Greater ↦ λ e. (all.0, before_with first.name set more (turned set.name first.name e) all.1, valid_with set more one all.2)
    ] refl

-- valid sets, whatever their order, put among valid ones
pub all_with : (others sets : List DataSet) → AllByRecursion IsValid others → AreValid sets → AreValid (with_sets others sets)
all_with [] sets each all = all
all_with (set ∷ others) sets each all = all_with others (with_set set sets) each.1 (valid_with set sets each.0 all)

each_valid : (sets : List DataSet) → AreValid sets → AllByRecursion IsValid sets
each_valid [] all = tt
each_valid (set ∷ sets) all = (all.0, each_valid sets all.2)

pub merged_valid : (others old : List DataSet) → AreValid others → AreValid old → AreValid (with_sets others old)
merged_valid others old new all = all_with others old (each_valid others new) all

-- a set of one source, "value"
one_source : (name : List ℕ) (kind : DsType) (min : Option ℤ) → is_name NAME_LIMIT name ≡ true → IsBound min → are_in_order min None ≡ true → IsValid (single name kind min)
one_source name kind min good bound order = record {
  name = good;
  some = lit< tt;
  sources = (record { few = lit< tt; name = refl; apart = refl; min = bound; max = tt; in_order = order }, tt);
}

pub builtin_valid : AreValid builtin
unfolding builtin
builtin_valid = (
  one_source (codes "absolute") Absolute (Some (pos 0)) refl (lit≤ tt) refl,
  (refl, (refl, (refl, tt))),
  (
    one_source (codes "counter") Counter None refl tt refl,
    (refl, (refl, tt)),
    (
      one_source (codes "derive") Derive (Some (pos 0)) refl (lit≤ tt) refl,
      (refl, tt),
      (one_source (codes "gauge") Gauge None refl tt refl, tt, tt),
    ),
  ),
)
