-- Sets kept under their names, as the map keeps them.
use Rattle.cd_types.specs.Named.{AreNamed}
use Rattle.cd_types.specs.Sets.{name_order, with_set}
use Rattle.cd_types.specs.Types.{set_named}
use Rattle.cd_value.specs.declared.data.DataSet.{DataSet}
use Rattle.std.proofs.Common.{Bool, List, Option, Some, [], ap, cond, refl, rules, sym, ℕ, ◌∙◌, ◌∷◌, ◌≡◌}
use Rattle.std.proofs.lemmas.Map.Lookups.{exact_bytes}
use Rattle.std.proofs.lemmas.Map.Text.{is_eq-slice_cmp}
use Rattle.std.proofs.lemmas.Slice.Eq.{bytes_eq-Decides}
use Rattle.std.specs.BTreeMap.{insert_entry, is_at}
use Rattle.std.specs.Map.{lookup, values_of}
use Rattle.std.specs.Ordering.{match_ordering}
use Rattle.std.specs.Prelude.{String, string_bytes}
use Rattle.std.specs.Str.{bytes_eq}
use Rattle.std.specs.String.{string_cmp}
use Rattle.std.specs.declared.cmp.Ordering.TheVariants.{Equal, Greater, Less}
use Rattle.std.specs.declared.cmp.Ordering.{Ordering}

pub named_with : {Z : Type 0} (name : String Z) (set : DataSet) (entries : List (String Z × DataSet)) → string_bytes name ≡ set.name → AreNamed entries
    → AreNamed (insert_entry string_cmp entries name set)
named_with name set [] n named = (n, tt)
named_with name set (entry ∷ entries) n named =
    elim (string_cmp name entry.0) as (λ r. string_cmp name entry.0 ≡ r
    → AreNamed (match_ordering r ((name, set) ∷ entry ∷ entries) ((entry.0, set) ∷ entries) (entry ∷ insert_entry string_cmp entries name set))) [
      | Less ↦ λ _. (n, named)
      | Equal ↦ λ e. (sym (exact_bytes (string_bytes name) (string_bytes entry.0) e) ∙ n, named.1)
      | Greater ↦ λ _. (named.0, named_with name set entries n named.1)
    ] refl

-- the values, where the place of a set is known
values_placed : {Z : Type 0} (r : Ordering) (name : String Z) (set : DataSet) (entry : String Z × DataSet) (entries inserted : List (String Z × DataSet))
    → values_of (match_ordering r ((name, set) ∷ entry ∷ entries) ((entry.0, set) ∷ entries) (entry ∷ inserted))
    ≡ match_ordering r (set ∷ entry.1 ∷ values_of entries) (set ∷ values_of entries) (entry.1 ∷ values_of inserted)
values_placed Less name set entry entries inserted = refl
values_placed Equal name set entry entries inserted = refl
values_placed Greater name set entry entries inserted = refl

pub values_with : {Z : Type 0} (name : String Z) (set : DataSet) (entries : List (String Z × DataSet)) → string_bytes name ≡ set.name → AreNamed entries
    → values_of (insert_entry string_cmp entries name set) ≡ with_set set (values_of entries)
values_with name set [] n named = refl
values_with {Z} name set (entry ∷ entries) n named =
    let rest : values_of (insert_entry string_cmp entries name set) ≡ with_set set (values_of entries) = values_with name set entries n named.1 in
    let order : string_cmp name entry.0 ≡ name_order set.name entry.1.name
    = ap (λ (x : List ℕ). name_order x (string_bytes entry.0)) n ∙ ap (name_order set.name) named.0 in
    values_placed (string_cmp name entry.0) name set entry entries (insert_entry string_cmp entries name set)
    ∙ ap (λ (r : Ordering). match_ordering r (set ∷ entry.1 ∷ values_of entries) (set ∷ values_of entries) (entry.1 ∷ values_of (insert_entry string_cmp entries name set))) order
    ∙ ap (λ (more : List DataSet). match_ordering (name_order set.name entry.1.name) (set ∷ entry.1 ∷ values_of entries) (set ∷ values_of entries) (entry.1 ∷ more)) rest

either_way : (xs ys : List ℕ) → bytes_eq xs ys ≡ bytes_eq ys xs
either_way xs ys = search (rules, bytes_eq-Decides)

pub value_named : {Z : Type 0} (name : List ℕ) (entries : List (String Z × DataSet)) → AreNamed entries
    → lookup (is_at (λ (k : String Z). name_order name (string_bytes k))) entries ≡ set_named name (values_of entries)
value_named name [] named = refl
value_named {Z} name (entry ∷ entries) named =
    let here : is_at (λ (k : String Z). name_order name (string_bytes k)) entry.0 ≡ bytes_eq entry.1.name name
    = is_eq-slice_cmp name (string_bytes entry.0) ∙ ap (bytes_eq name) named.0 ∙ either_way name entry.1.name in
    ap (λ (b : Bool). cond b (Some entry.1) (lookup (is_at (λ (k : String Z). name_order name (string_bytes k))) entries)) here
    ∙ ap (λ (found : Option DataSet). cond (bytes_eq entry.1.name name) (Some entry.1) found) (value_named name entries named.1)
