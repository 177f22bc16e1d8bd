-- What the map and the index have under the name of the list.
use Rattle.cd_cache.proofs.After.{after_first, after_kept, on_err_then, on_ok_then, others_either, outcome_is, stands_stored}
use Rattle.cd_cache.proofs.ByName.{cache_of}
use Rattle.cd_cache.proofs.Pairs.{had_pair}
use Rattle.cd_cache.proofs.Updates.{others_after, stands_after}
use Rattle.cd_cache.proofs.cache.Cache.update.Goals as goal
use Rattle.cd_cache.specs.Cache.{outcome, updated}
use Rattle.cd_cache.specs.Index.{found, outcome_at}
use Rattle.cd_cache.specs.declared.entry.CacheEntry.{CacheEntry}
use Rattle.cd_cache.specs.declared.entry.Updated.{Updated}
use Rattle.cd_value.specs.Identifier.{name_of}
use Rattle.std.proofs.Common.{IfOk, List, None, Some, ap, ap₂, cond, rules, subst, sym, ℕ, ◌∙◌, ◌≡◌}
use Rattle.std.proofs.lemmas.Map.Steps.{set_value_same}
use Rattle.std.specs.Map.{set_value}
use Rattle.std.specs.Option.{option_copied_mut}
use Rattle.std.specs.Str.{bytes_eq}

pub renew-requires : goal.renew-requires
renew-requires c =
    had_pair c.self.inside.timeout c.self.inside.entries.entries c.self.inside.index.pairs c.in_ok-name.name c.in-Some.place.now c.self.invariant.indexed
    (sym c.get_mut.ensures.value ∙ ap option_copied_mut c.in-Some.is)

pub returns-clause-outcome : goal.returns-clause-outcome
returns-clause-outcome c =
    let list = c.args.list.now in
    let entries = c.self.inside.entries.entries in
    let there : found entries (name_of list.id) ≡ Some c.in-Some.place.now = ap (found entries) (sym c.in_ok-name.ensures.value) ∙ sym c.get_mut.ensures.value ∙ ap option_copied_mut c.in-Some.is in
    subst (λ (o : Updated). IfOk c.renew.result (λ how. how ≡ o))
    (ap (λ o. outcome_at o list) (sym there) ∙ outcome_is list c.self.inside.timeout entries ∙ ap (outcome list) c.self.view_is)
    c.renew.ensures.how

pub returns-clause-after : goal.returns-clause-after
returns-clause-after c =
    let list = c.args.list.now in
    let entries = c.self.inside.entries.entries in
    let name = c.in_ok-name.name in
    let place : CacheEntry = c.in-Some.place.now in
    let there : found entries name ≡ Some place = sym c.get_mut.ensures.value ∙ ap option_copied_mut c.in-Some.is in
    let w : CacheEntry = c.renew.new.place in
    on_ok_then c.renew.result _ _
    (λ is. after_kept c.args.set.now list c.args.now c.self.inside.timeout entries (c.get_mut.follows.lender w).entries place (ap (found entries) (sym c.in_ok-name.ensures.value) ∙ there)
    (λ q. ((c.get_mut.follows.holds w).3 (search rules)).0 q
    ∙ ap₂ (λ (n : List ℕ) (e : CacheEntry). cond (bytes_eq n q) (Some e) (found entries q)) c.in_ok-name.ensures.value is)
    ∙ ap (updated c.args.set.now list c.args.now) c.self.view_is)
    c.renew.ensures.ok

pub returns-clause-err : goal.returns-clause-err
returns-clause-err c =
    let list = c.args.list.now in
    let entries = c.self.inside.entries.entries in
    let name = c.in_ok-name.name in
    let place : CacheEntry = c.in-Some.place.now in
    let there : found entries name ≡ Some place = sym c.get_mut.ensures.value ∙ ap option_copied_mut c.in-Some.is in
    let w : CacheEntry = c.renew.new.place in
    on_err_then c.renew.result _ _
    (λ is. ap (cache_of c.self.inside.timeout) ((c.get_mut.follows.holds w).0 ∙ ap (set_value (bytes_eq name) entries) is ∙ set_value_same (bytes_eq name) entries place there) ∙ c.self.view_is)
    c.renew.ensures.err

pub returns-clause-stands : goal.returns-clause-stands
returns-clause-stands c =
    stands_stored c.renew.result c.args.set.now c.args.list.now c.args.now c.args.self.now _ (returns-clause-after c) (returns-clause-outcome c)

pub returns-clause-others : goal.returns-clause-others
returns-clause-others c =
    others_either c.renew.result c.args.set.now c.args.list.now c.args.now c.args.self.now _ (returns-clause-after c) (returns-clause-err c)

pub returns-in_default-clause-outcome : goal.returns-in_default-clause-outcome
returns-in_default-clause-outcome c =
    let list = c.args.list.now in
    let entries = c.self.inside.entries.entries in
    let absent : found entries (name_of list.id) ≡ None = ap (found entries) (sym c.in_ok-name.ensures.value) ∙ sym c.get_mut.ensures.value ∙ ap option_copied_mut c.in_default.is in
    ap (λ o. outcome_at o list) (sym absent) ∙ outcome_is list c.self.inside.timeout entries ∙ ap (outcome list) c.self.view_is

pub returns-in_default-clause-after : goal.returns-in_default-clause-after
returns-in_default-clause-after c =
    let list = c.args.list.now in
    let entries = c.self.inside.entries.entries in
    let absent : found entries (name_of list.id) ≡ None = ap (found entries) (sym c.in_ok-name.ensures.value) ∙ sym c.get_mut.ensures.value ∙ ap option_copied_mut c.in_default.is in
    after_first c.args.set.now list c.args.now c.self.inside.timeout entries c.put_first.new.entries.entries c.in_ok-entry.entry absent c.in_ok-entry.ensures
    (λ q. (rw c.get_mut.follows.holds-at-none at (c.in_ok-put_first.ensures.ok q))
    ∙ ap (λ (n : List ℕ). cond (bytes_eq n q) (Some c.in_ok-entry.entry) (found entries q)) c.in_ok-name.ensures.value)
    ∙ ap (updated c.args.set.now list c.args.now) c.self.view_is

pub returns-in_default-clause-stands : goal.returns-in_default-clause-stands
returns-in_default-clause-stands c stored =
    stands_after c.args.set.now c.args.list.now c.args.now c.args.self.now _ (returns-in_default-clause-after c) (sym (returns-in_default-clause-outcome c))

pub returns-in_default-clause-others : goal.returns-in_default-clause-others
returns-in_default-clause-others c =
    others_after c.args.set.now c.args.list.now c.args.now c.args.self.now _ (returns-in_default-clause-after c)
