-- The name is put in before its pair, and taken out again where there is no room for that.
use Rattle.cd_cache.proofs.Listing.{put_and_out}
use Rattle.cd_cache.proofs.Pairs.{is_pair}
use Rattle.cd_cache.proofs.index.Index.add.Goals as goal
use Rattle.cd_cache.specs.Cache.{name_order}
use Rattle.cd_cache.specs.Index.{Orders, has, has_name, pair_order}
use Rattle.std.proofs.Common.{Bool, Err, List, Ok, OnErr, OnOk, ap, ap₂, cond, false, is_err, true, ℕ, ◌∙◌, ◌≡◌}
use Rattle.std.proofs.lemmas.Map.Text.{is_eq-slice_cmp}
use Rattle.std.specs.BTreeMap.{is_at}
use Rattle.std.specs.BTreeSet.{insert_key}
use Rattle.std.specs.Ordering.{is_eq}
use Rattle.std.specs.Set.{remove_key}
use Rattle.std.specs.declared.result.Result.{Result}

on_ok : {T E : Type 0} (r : Result T E) (P : Type 0) → false ≡ is_err r → OnOk r P → P
on_ok (Ok x) P is p = p
on_ok (Err e) P is p = absurd (cc)

on_err : {T E : Type 0} (r : Result T E) (P : Type 0) → true ≡ is_err r → OnErr r P → P
on_err (Ok x) P is p = absurd (cc)
on_err (Err e) P is p = p

pub returns-clause-pairs : goal.returns-clause-pairs
returns-clause-pairs c = λ q.
    let pairs = c.self.inside.pairs.keys in
    rw (← c.self.view_is)
    ((on_ok c.insert-2.result _ c.if-is_err.ensures.value c.insert-2.ensures.updates).0 q
    ∙ ap (λ (b : Bool). cond b true (has pairs q)) (ap (λ (n : List ℕ). is_eq (pair_order (c.args.at, n) q)) c.in_ok-copy.ensures ∙ is_pair (c.args.at, c.args.name.now) q))

pub returns-clause-names : goal.returns-clause-names
returns-clause-names c = λ q.
    let names = c.self.inside.names.keys in
    rw (← c.self.view_is)
    (c.in_ok-insert.ensures.updates.0 q
    ∙ ap (λ (b : Bool). cond b true (has_name names q)) (ap (λ (n : List ℕ). is_eq (name_order n q)) c.in_ok-copy-2.ensures ∙ is_eq-slice_cmp c.args.name.now q))

pub returns-then-is_err-clause-err : goal.returns-then-is_err-clause-err
returns-then-is_err-clause-err c =
    let name = c.args.name.now in
    let names = c.self.inside.names.keys in
    let absent : has_name names name ≡ false = ap (λ (orders : Orders). has_name orders.names name) c.self.view_is ∙ c.requires in
    let pairs_stay : c.insert-2.new.self.keys ≡ c.self.inside.pairs.keys = on_err c.insert-2.result _ c.if-is_err.ensures.value c.insert-2.ensures.err in
    let names_stay : c.remove.new.self.keys ≡ names
    = c.remove.ensures.keys
    ∙ ap (remove_key (is_at (name_order name))) (c.in_ok-insert.ensures.keys ∙ ap (insert_key name_order names) c.in_ok-copy-2.ensures)
    ∙ put_and_out name names absent in
    ap₂ (λ (ps : List (ℕ × List ℕ)) (ns : List (List ℕ)). record { pairs = ps; names = ns }) pairs_stay names_stay ∙ c.self.view_is
