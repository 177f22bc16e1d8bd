-- The names in order are those of the map, and each row is that of the name's entry.
use Rattle.cd_cache.proofs.ByName.{sorted_by_name}
use Rattle.cd_cache.proofs.Listing.{all_found, names_in_order, one_more, row_at, row_found, rows_in_order}
use Rattle.cd_cache.proofs.Names.{names_of_rows}
use Rattle.cd_cache.proofs.cache.Cache.listed.Goals as goal
use Rattle.cd_cache.specs.Cache.{name_order}
use Rattle.cd_cache.specs.Index.{by_name, found}
use Rattle.cd_cache.specs.Rows.{names_of, rows_of}
use Rattle.cd_value.specs.Rows.{as_rows}
use Rattle.std.proofs.Common.{Bor, List, [], ap, append-nil, map, subst, sym, ℕ, ◌++◌, ◌∙◌, ◌∷◌, ◌≡◌}
use Rattle.std.proofs.lemmas.List.Elements.{All-head, All-tail}
use Rattle.std.proofs.lemmas.Map.Iter.{rest_all, rest_more}
use Rattle.std.specs.List.Sorted.{IsStrictlySortedBy}
use Rattle.std.specs.List.{All}
use Rattle.std.specs.Map.Iter.{deref}
use Rattle.std.specs.Option.{IsSome}

pub loop-name-init : goal.loop-name-init
loop-name-init c =
    let entries = c.self.inside.entries.entries in
    let all : List (List ℕ) = c.into_iter-name-iterator.result in
    let start : all ≡ c.self.inside.index.names = c.into_iter-name-iterator.ensures.into_iter_gives.0 ∙ c.names-names.ensures in
    record {
      rows = ap (λ (rows : List (ℕ × Bor (List ℕ))). as_rows rows ++ map (row_at entries) all) c.in_ok-rows.ensures.items;
      there = subst (λ (names : List (List ℕ)). All (λ (name : List ℕ). IsSome (found entries name)) names) (sym start) (all_found entries c.self.inside.index.names c.self.invariant.named);
    }

pub index-entry-requires : goal.index-entry-requires
index-entry-requires c =
    let entries = c.self.inside.entries.entries in
    let rest : c.loop-name.name-iterator ≡ c.in-Some.name.now ∷ c.next.new.self = rest_more deref c.loop-name.name-iterator c.next.new.self c.next.result c.in-Some.name c.in-Some.is c.next.ensures.steps in
    All-head (λ (name : List ℕ). IsSome (found entries name)) c.in-Some.name.now c.next.new.self
    (subst (λ (names : List (List ℕ)). All (λ (name : List ℕ). IsSome (found entries name)) names) rest c.loop-name.invariant.there)

pub loop-name-preserved : goal.loop-name-preserved
loop-name-preserved c =
    let entries = c.self.inside.entries.entries in
    let so_far = c.loop-name.rows.items in
    let rest : c.loop-name.name-iterator ≡ c.in-Some.name.now ∷ c.next.new.self = rest_more deref c.loop-name.name-iterator c.next.new.self c.next.result c.in-Some.name c.in-Some.is c.next.ensures.steps in
    record {
      rows =
          ap (λ (rows : List (ℕ × Bor (List ℕ))). as_rows rows ++ map (row_at entries) c.next.new.self) c.in_ok-push.ensures.items
          ∙ one_more (row_at entries) so_far (c.index-entry.result.now.list.time, c.in-Some.name) c.next.new.self (row_found entries c.in-Some.name.now c.index-entry.result.now c.index-entry.ensures)
          ∙ ap (λ (names : List (List ℕ)). as_rows so_far ++ map (row_at entries) names) (sym rest)
          ∙ c.loop-name.invariant.rows;
      there = All-tail (λ (name : List ℕ). IsSome (found entries name)) c.in-Some.name.now c.next.new.self
          (subst (λ (names : List (List ℕ)). All (λ (name : List ℕ). IsSome (found entries name)) names) rest c.loop-name.invariant.there);
    }

pub returns-clause-rows : goal.returns-clause-rows
returns-clause-rows c =
    let entries = c.self.inside.entries.entries in
    let names = c.self.inside.index.names in
    let so_far = as_rows c.loop-name.rows.items in
    let left : c.loop-name.name-iterator ≡ [] = rest_all deref c.loop-name.name-iterator c.next.new.self c.next.result c.in-None.is c.next.ensures.steps in
    let start : c.into_iter-name-iterator.result ≡ names = c.into_iter-name-iterator.ensures.into_iter_gives.0 ∙ c.names-names.ensures in
    let sorted : IsStrictlySortedBy name_order names = subst (λ (ns : List (List ℕ)). IsStrictlySortedBy name_order ns) c.names-names.ensures c.len.ensures.ordered in
    sym (append-nil so_far)
    ∙ ap (λ (ns : List (List ℕ)). so_far ++ map (row_at entries) ns) (sym left)
    ∙ c.loop-name.invariant.rows
    ∙ ap (map (row_at entries)) (start ∙ names_in_order entries names c.self.invariant.named sorted)
    ∙ rows_in_order entries
    ∙ ap rows_of c.self.view_is

pub returns-clause-sorted : goal.returns-clause-sorted
returns-clause-sorted c =
    let entries = c.self.inside.entries.entries in
    subst (λ (rows : List (ℕ × List ℕ)). IsStrictlySortedBy name_order (names_of rows)) (ap rows_of c.self.view_is ∙ sym (returns-clause-rows c))
    (subst (λ (ns : List (List ℕ)). IsStrictlySortedBy name_order ns) (sym (names_of_rows (by_name entries))) (sorted_by_name entries))
