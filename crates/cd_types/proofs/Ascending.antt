-- Sets in the order of their names stay as they are when they are put one after the other.
use Rattle.cd_types.specs.Named.{AreNamed}
use Rattle.cd_types.specs.Sets.{name_order, with_set, with_sets}
use Rattle.cd_types.specs.Valid.{AreValid, IsBefore}
use Rattle.cd_value.specs.declared.data.DataSet.{DataSet}
use Rattle.std.proofs.Common.{List, [], ap, append_assoc, refl, sym, ℕ, ◌++◌, ◌∙◌, ◌∷◌, ◌≡◌}
use Rattle.std.proofs.lemmas.List.{append-nil}
use Rattle.std.specs.Cmp.Lexicographic.{nat_list_cmp_total}
use Rattle.std.specs.List.Sorted.{IsStrictlySortedBy}
use Rattle.std.specs.List.{AllByRecursion}
use Rattle.std.specs.Map.{keys_of, values_of}
use Rattle.std.specs.Ordering.{match_ordering, ordering_reverse}
use Rattle.std.specs.Prelude.{String, string_bytes}
use Rattle.std.specs.String.{string_cmp}
use Rattle.std.specs.declared.cmp.Ordering.TheVariants.{Greater, Less}
use Rattle.std.specs.declared.cmp.Ordering.{Ordering}

-- the name is above those of the sets
abbrev IsAbove : List ℕ → List DataSet → Type 0
IsAbove name [] = Unit {0}
IsAbove name (set ∷ sets) = (name_order name set.name ≡ Greater) × IsAbove name sets

-- each of the names is above those of the sets in front
abbrev AreAbove : List DataSet → List DataSet → Type 0
AreAbove front [] = Unit {0}
AreAbove front (set ∷ sets) = IsAbove set.name front × AreAbove front sets

-- each name is above those before it
abbrev Ascend : List DataSet → Type 0
Ascend [] = Unit {0}
Ascend (set ∷ sets) = AreAbove (set ∷ []) sets × Ascend sets

put_last : (set : DataSet) (front : List DataSet) → IsAbove set.name front → with_set set front ≡ front ++ set ∷ []
put_last set [] above = refl
put_last set (first ∷ front) above =
    ap (λ (r : Ordering). match_ordering r (set ∷ first ∷ front) (set ∷ front) (first ∷ with_set set front)) above.0
    ∙ ap (λ (rest : List DataSet). first ∷ rest) (put_last set front above.1)

above_both : (name : List ℕ) (front : List DataSet) (set : DataSet) → IsAbove name front → IsAbove name (set ∷ []) → IsAbove name (front ++ set ∷ [])
above_both name [] set above one = one
above_both name (first ∷ front) set above one = (above.0, above_both name front set above.1 one)

all_above : (front : List DataSet) (set : DataSet) (sets : List DataSet) → AreAbove front sets → AreAbove (set ∷ []) sets → AreAbove (front ++ set ∷ []) sets
all_above front set [] above one = tt
all_above front set (next ∷ sets) above one = (above_both next.name front set above.0 one.0, all_above front set sets above.1 one.1)

puts_ascending : (front sets : List DataSet) → AreAbove front sets → Ascend sets → with_sets sets front ≡ front ++ sets
puts_ascending front [] above ascend = sym (append-nil front)
puts_ascending front (set ∷ sets) above ascend =
    ap (with_sets sets) (put_last set front above.0)
    ∙ puts_ascending (front ++ set ∷ []) sets (all_above front set sets above.1 ascend.0) ascend.1
    ∙ append_assoc front (set ∷ []) sets

turned : (one other : List ℕ) → name_order one other ≡ Less → name_order other one ≡ Greater
turned one other less = nat_list_cmp_total.antisymm other one ∙ ap ordering_reverse less

above_first : {Z : Type 0} (key : String Z) (set : DataSet) (entries : List (String Z × DataSet)) → string_bytes key ≡ set.name → AreNamed entries
    → AllByRecursion (λ (k : String Z). string_cmp key k ≡ Less) (keys_of entries) → AreAbove (set ∷ []) (values_of entries)
above_first key set [] named all below = tt
above_first key set (entry ∷ entries) named all below =
    let less : name_order set.name entry.1.name ≡ Less
    = sym (ap (λ (x : List ℕ). name_order x (string_bytes entry.0)) named ∙ ap (name_order set.name) all.0) ∙ below.0 in
    ((turned set.name entry.1.name less, tt), above_first key set entries named all.1 below.1)

names_ascend : {Z : Type 0} (entries : List (String Z × DataSet)) → AreNamed entries → IsStrictlySortedBy string_cmp (keys_of entries) → Ascend (values_of entries)
unfolding IsStrictlySortedBy
names_ascend [] all sorted = tt
names_ascend (entry ∷ entries) all sorted = (above_first entry.0 entry.1 entries all.0 all.1 sorted.0, names_ascend entries all.1 sorted.1)

none_above : (sets : List DataSet) → AreAbove [] sets
none_above [] = tt
none_above (set ∷ sets) = (tt, none_above sets)

pub put_again : {Z : Type 0} (entries : List (String Z × DataSet)) → AreNamed entries → IsStrictlySortedBy string_cmp (keys_of entries)
    → with_sets (values_of entries) [] ≡ values_of entries
put_again entries all sorted = puts_ascending [] (values_of entries) (none_above (values_of entries)) (names_ascend entries all sorted)

above_before : (set : DataSet) (sets : List DataSet) → IsBefore set.name sets → AreAbove (set ∷ []) sets
above_before set [] before = tt
above_before set (next ∷ sets) before = ((turned set.name next.name before.0, tt), above_before set sets before.1)

valid_ascend : (sets : List DataSet) → AreValid sets → Ascend sets
valid_ascend [] all = tt
valid_ascend (set ∷ sets) all = (above_before set sets all.1, valid_ascend sets all.2)

-- valid sets stay as they are when they are put one after the other
pub ascending_stay : (sets : List DataSet) → AreValid sets → with_sets sets [] ≡ sets
ascending_stay sets all = puts_ascending [] sets (none_above sets) (valid_ascend sets all)
