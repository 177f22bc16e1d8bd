-- Data sets in the order of their names, each name once.
use Rattle.cd_value.specs.declared.data.DataSet.{DataSet}
use Rattle.std.specs.Cmp.Lexicographic.{slice_cmp}
use Rattle.std.specs.Ordering.{match_ordering, nat_cmp}
use Rattle.std.specs.Prelude.{List, [], fold, ℕ, ◌∷◌}
use Rattle.std.specs.declared.cmp.Ordering.{Ordering}

-- the order of the names' bytes
abbrev pub name_order : List ℕ → List ℕ → Ordering
name_order = slice_cmp nat_cmp

-- sets with one more, in the place of the one of its name
abbrev pub with_set : DataSet → List DataSet → List DataSet
with_set set [] = set ∷ []
with_set set (first ∷ more) =
    match_ordering (name_order set.name first.name) (set ∷ first ∷ more) (set ∷ more) (first ∷ with_set set more)

-- sets with others, one after the other: of one name the last stands
abbrev pub with_sets : List DataSet → List DataSet → List DataSet
with_sets others sets = fold (λ so_far set. with_set set so_far) sets others
