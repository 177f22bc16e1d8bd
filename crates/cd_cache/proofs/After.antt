-- A cache after a list, by what each name has in the map.
use Rattle.cd_cache.proofs.ByName.{cache_of, cache_with, lookup_by_name, lookup_put, same_pairs, sorted_by_name, sorted_put}
use Rattle.cd_cache.proofs.Updates.{others_after, stands_after}
use Rattle.cd_cache.specs.Cache.{CacheMap, KeepsOthers, cached, entry_of, is_old, name_order, outcome, renewed, updated, with_entry}
use Rattle.cd_cache.specs.Index.{by_name, found, kept, outcome_at}
use Rattle.cd_cache.specs.declared.entry.CacheEntry.{CacheEntry}
use Rattle.cd_cache.specs.declared.entry.Updated.TheVariants.{Old, Stored}
use Rattle.cd_cache.specs.declared.entry.Updated.{Updated}
use Rattle.cd_value.specs.Identifier.{name_of}
use Rattle.cd_value.specs.declared.data.DataSet.{DataSet}
use Rattle.cd_value.specs.declared.data.ValueList.{ValueList}
use Rattle.std.proofs.Common.{Bool, Err, IfOk, List, None, Ok, OnErr, OnOk, Some, ap, cond, false, refl, subst, sym, true, ℕ, ◌∙◌, ◌≡◌}
use Rattle.std.proofs.lemmas.Slice.Eq.{bytes_eq-Decides}
use Rattle.std.specs.BTreeMap.{insert_entry, is_at}
use Rattle.std.specs.Map.{lookup}
use Rattle.std.specs.Str.{bytes_eq}
use Rattle.std.specs.declared.result.Result.{Result}

abbrev Pairs : Type 0
Pairs = List (List ℕ × CacheEntry)

-- an entry that is put where it stands changes nothing
same_put : (name : List ℕ) (before : CacheEntry) (entries : Pairs) → found entries name ≡ Some before → insert_entry name_order (by_name entries) name before ≡ by_name entries
same_put name before entries there =
    same_pairs (insert_entry name_order (by_name entries) name before) (by_name entries) (sorted_put name before (by_name entries) (sorted_by_name entries)) (sorted_by_name entries)
    (λ q. lookup_put name q before (by_name entries) ∙ same q)
  where
    same : (q : List ℕ) → cond (bytes_eq name q) (Some before) (lookup (is_at (name_order q)) (by_name entries)) ≡ lookup (is_at (name_order q)) (by_name entries)
    same q = elim (bytes_eq name q) as (λ b. bytes_eq name q ≡ b → cond b (Some before) (lookup (is_at (name_order q)) (by_name entries)) ≡ lookup (is_at (name_order q)) (by_name entries)) [
      | true ↦ λ e. subst (λ r. Some before ≡ lookup (is_at (name_order r)) (by_name entries)) ((bytes_eq-Decides name q).0 e) (sym (lookup_by_name name entries ∙ there))
      | false ↦ λ _. refl
    ] refl

-- a list whose name has an entry
pub after_kept : (set : DataSet) (list : ValueList) (now timeout : ℕ) (old new : Pairs) (before : CacheEntry) → found old (name_of list.id) ≡ Some before
    → ((q : List ℕ) → found new q ≡ cond (bytes_eq (name_of list.id) q) (Some (kept set before list now)) (found old q))
    → cache_of timeout new ≡ updated set list now (cache_of timeout old)
after_kept set list now timeout old new before there put =
    cache_with timeout old new (name_of list.id) (kept set before list now) put
    ∙ either (is_old (Some before) list)
    ∙ sym (ap (λ o. cond (is_old o list) (cache_of timeout old) (with_entry (name_of list.id) (renewed set o list now) (cache_of timeout old))) (lookup_by_name (name_of list.id) old ∙ there))
  where
    either : (b : Bool) → with_entry (name_of list.id) (cond b before (renewed set (Some before) list now)) (cache_of timeout old) ≡ cond b (cache_of timeout old) (with_entry (name_of list.id) (renewed set (Some before) list now) (cache_of timeout old))
    either true = ap (λ (entries : Pairs). record (cache_of timeout old) { entries = entries }) (same_put (name_of list.id) before old there)
    either false = refl

-- a list whose name has none
pub after_first : (set : DataSet) (list : ValueList) (now timeout : ℕ) (old new : Pairs) (entry : CacheEntry) → found old (name_of list.id) ≡ None → entry ≡ renewed set None list now
    → ((q : List ℕ) → found new q ≡ cond (bytes_eq (name_of list.id) q) (Some entry) (found old q))
    → cache_of timeout new ≡ updated set list now (cache_of timeout old)
after_first set list now timeout old new entry absent first put =
    cache_with timeout old new (name_of list.id) entry put
    ∙ ap (λ e. with_entry (name_of list.id) e (cache_of timeout old)) first
    ∙ sym (ap (λ o. cond (is_old o list) (cache_of timeout old) (with_entry (name_of list.id) (renewed set o list now) (cache_of timeout old))) (lookup_by_name (name_of list.id) old ∙ absent))

-- what becomes of the list
pub outcome_is : (list : ValueList) (timeout : ℕ) (old : Pairs) → outcome_at (found old (name_of list.id)) list ≡ outcome list (cache_of timeout old)
outcome_is list timeout old = ap (λ o. cond (is_old o list) Old Stored) (sym (lookup_by_name (name_of list.id) old))

-- what a call says of its `Ok` or its `Err`
pub on_ok_then : {T E : Type 0} (r : Result T E) (P Q : Type 0) → (P → Q) → OnOk r P → OnOk r Q
on_ok_then (Ok x) P Q f p = f p
on_ok_then (Err e) P Q f p = p

pub on_err_then : {T E : Type 0} (r : Result T E) (P Q : Type 0) → (P → Q) → OnErr r P → OnErr r Q
on_err_then (Ok x) P Q f p = p
on_err_then (Err e) P Q f p = f p

pub others_either : {E : Type 0} (r : Result Updated E) (set : DataSet) (list : ValueList) (now : ℕ) (old new : CacheMap) → OnOk r (new ≡ updated set list now old) → OnErr r (new ≡ old) → KeepsOthers (name_of list.id) old new
others_either (Ok how) set list now old new ok err = others_after set list now old new ok
others_either (Err e) set list now old new ok err = λ other differ. ap (cached other) err

pub stands_stored : {E : Type 0} (r : Result Updated E) (set : DataSet) (list : ValueList) (now : ℕ) (old new : CacheMap) → OnOk r (new ≡ updated set list now old) → IfOk r (λ how. how ≡ outcome list old)
    → IfOk r (λ how. how ≡ Stored → cached (name_of list.id) new ≡ Some (entry_of set list now old))
stands_stored (Ok how) set list now old new ok is = λ stored. stands_after set list now old new ok (sym is ∙ stored)
stands_stored (Err e) set list now old new ok is = is
