-- The names of the walk are those that are lost, and no more pairs were due.
use Rattle.cd_cache.proofs.ByName.{cache_of, sorted_by_name}
use Rattle.cd_cache.proofs.Due.{due_length, due_names, lost_length}
use Rattle.cd_cache.proofs.Losses.{sorted_lost}
use Rattle.cd_cache.proofs.Shown.{sorted_shown}
use Rattle.cd_cache.proofs.cache.Cache.lost_with.Goals as goal
use Rattle.cd_cache.specs.Cache.{name_order}
use Rattle.cd_cache.specs.Index.{by_name, due}
use Rattle.cd_cache.specs.Lost.{lost_of}
use Rattle.std.proofs.Common.{Bor, List, [], ap, append-nil, arith, length, map, rules, subst, sym, ℕ, ◌+◌, ◌++◌, ◌∙◌, ◌≡◌, ◌≤◌}
use Rattle.std.proofs.lemmas.Map.Iter.{rest_all}
use Rattle.std.specs.List.Sorted.{IsStrictlySortedBy}
use Rattle.std.specs.Map.Iter.{deref}

pub returns-clause-names : goal.returns-clause-names
returns-clause-names c =
    let entries = c.self.inside.entries.entries in
    let keys : List (Bor (List ℕ)) = c.in_ok-found.found.0.keys in
    let left : c.loop-name.name-iterator ≡ [] = rest_all deref c.loop-name.name-iterator c.next.new.self c.next.result c.in-None.is c.next.ensures.steps in
    let start : c.into_iter-name-iterator.result ≡ keys = search rules in
    c.from_vec.ensures
    ∙ sym (append-nil c.loop-name.names.items)
    ∙ ap (λ (names : List (Bor (List ℕ))). c.loop-name.names.items ++ map (deref {X = List ℕ}) names) (sym left)
    ∙ c.loop-name.invariant
    ∙ ap (map (deref {X = List ℕ})) start
    ∙ due_names c.self.inside.timeout c.args.now entries c.self.inside.index.pairs (map (deref {X = List ℕ}) keys) c.self.invariant.indexed (sorted_shown keys c.len.ensures.ordered) c.in_ok-found.ensures.names
    ∙ ap (lost_of c.args.now) c.self.view_is

pub returns-clause-sorted : goal.returns-clause-sorted
returns-clause-sorted c =
    let entries = c.self.inside.entries.entries in
    subst (λ (names : List (List ℕ)). IsStrictlySortedBy name_order names) (ap (lost_of c.args.now) c.self.view_is ∙ sym (returns-clause-names c))
    (sorted_lost c.self.inside.timeout c.args.now (by_name entries) (sorted_by_name entries))

pub returns-clause-looks : goal.returns-clause-looks
returns-clause-looks c =
    let entries = c.self.inside.entries.entries in
    let index = c.self.inside.index.pairs in
    let lost : List (List ℕ) = lost_of c.args.now (cache_of c.self.inside.timeout entries) in
    let told : length c.from_vec.result ≡ length lost = ap length (returns-clause-names c ∙ sym (ap (lost_of c.args.now) c.self.view_is)) in
    let due_once : length (due c.args.now index) ≤ length lost = due_length c.self.inside.timeout c.args.now entries index c.self.invariant.indexed c.lost.ensures.pairs in
    let met : c.in_ok-found.found.1 ≤ length (due c.args.now index) + 1 = c.in_ok-found.ensures.looks in
    omega arith

pub returns-clause-added : goal.returns-clause-added
returns-clause-added c =
    let entries = c.self.inside.entries.entries in
    let index = c.self.inside.index.pairs in
    let lost : List (List ℕ) = lost_of c.args.now (cache_of c.self.inside.timeout entries) in
    let told : length c.from_vec.result ≡ length lost = ap length (returns-clause-names c ∙ sym (ap (lost_of c.args.now) c.self.view_is)) in
    let lost_once : length lost ≤ length (due c.args.now index) = lost_length c.self.inside.timeout c.args.now entries index c.self.invariant.indexed in
    let met : length (due c.args.now index) ≤ c.in_ok-found.found.1 = c.in_ok-found.ensures.met in
    omega arith
