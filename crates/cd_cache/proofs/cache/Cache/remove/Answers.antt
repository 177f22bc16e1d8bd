-- The map without the name, and the index without its pair.
use Rattle.cd_cache.proofs.ByName.{cache_without, lookup_by_name, other_name}
use Rattle.cd_cache.proofs.Pairs.{named_removed, removed}
use Rattle.cd_cache.proofs.cache.Cache.remove.Goals as goal
use Rattle.cd_cache.specs.Cache.{CacheMap, cached, without}
use Rattle.cd_cache.specs.Index.{expires_at, found, has, has_name}
use Rattle.cd_cache.specs.declared.entry.CacheEntry.{CacheEntry}
use Rattle.std.proofs.Common.{List, None, Some, ap, cond, sym, ℕ, ◌∙◌, ◌≡◌}
use Rattle.std.proofs.lemmas.Slice.Eq.{bytes_eq-Decides}
use Rattle.std.specs.Option.{is_some, option_map}
use Rattle.std.specs.Str.{bytes_eq}

pub returns-in_default-clause-found : goal.returns-in_default-clause-found
returns-in_default-clause-found c =
    let name = c.args.name.now in
    let absent : found c.self.inside.entries.entries name ≡ None = sym c.remove_entry.ensures.value ∙ ap (option_map (λ (p : List ℕ × CacheEntry). p.1)) c.in_default.is in
    sym (ap (λ (cache : CacheMap). is_some (cached name cache)) (sym c.self.view_is) ∙ ap is_some (lookup_by_name name c.self.inside.entries.entries ∙ absent))

pub returns-in_default-clause-after : goal.returns-in_default-clause-after
returns-in_default-clause-after c =
    cache_without c.self.inside.timeout c.self.inside.entries.entries c.remove_entry.new.self.entries c.args.name.now c.remove_entry.ensures.updates.0
    ∙ ap (without c.args.name.now) c.self.view_is

pub returns-in_default-clause-gone : goal.returns-in_default-clause-gone
returns-in_default-clause-gone c = lookup_by_name c.args.name.now c.remove_entry.new.self.entries ∙ c.remove_entry.ensures.updates.1

pub invariant_of-self-2 : goal.invariant_of-self-2
invariant_of-self-2 c =
    let entries = c.self.inside.entries.entries in
    let timeout = c.self.inside.timeout in
    let name = c.args.name.now in
    let same_name : c.in-Some.name ≡ name = sym ((bytes_eq-Decides name c.in-Some.name).0 c.in-Some.ensures.same_key) in
    let there : found entries name ≡ Some c.in-Some.entry = sym c.remove_entry.ensures.value ∙ ap (option_map (λ (p : List ℕ × CacheEntry). p.1)) c.in-Some.is in
    let out : (q : List ℕ) → cond (bytes_eq c.in-Some.name q) None (found entries q) ≡ found c.remove_entry.new.self.entries q
    = λ q. ap (λ (n : List ℕ). cond (bytes_eq n q) None (found entries q)) same_name ∙ sym (c.remove_entry.ensures.updates.0 q) in
    record {
      indexed = λ at q.
          c.take_out.ensures.pairs (at, q)
          ∙ removed timeout c.expiry.result at (found entries q) (bytes_eq c.in-Some.name q) (has c.self.inside.index.pairs (at, q))
          (λ same. (c.in-Some.entry, ap (found entries) (sym ((bytes_eq-Decides c.in-Some.name q).0 same) ∙ same_name) ∙ there, c.expiry.ensures))
          (c.self.invariant.indexed at q)
          ∙ ap (expires_at timeout at) (out q);
      named = λ q.
          c.take_out.ensures.names q
          ∙ named_removed (found entries q) (bytes_eq c.in-Some.name q) (has_name c.self.inside.index.names q) (c.self.invariant.named q)
          ∙ ap is_some (out q);
    }

pub returns-clause-found : goal.returns-clause-found
returns-clause-found c =
    let name = c.args.name.now in
    let there : found c.self.inside.entries.entries name ≡ Some c.in-Some.entry = sym c.remove_entry.ensures.value ∙ ap (option_map (λ (p : List ℕ × CacheEntry). p.1)) c.in-Some.is in
    sym (ap (λ (cache : CacheMap). is_some (cached name cache)) (sym c.self.view_is) ∙ ap is_some (lookup_by_name name c.self.inside.entries.entries ∙ there))

pub returns-clause-after : goal.returns-clause-after
returns-clause-after c =
    cache_without c.self.inside.timeout c.self.inside.entries.entries c.remove_entry.new.self.entries c.args.name.now c.remove_entry.ensures.updates.0
    ∙ ap (without c.args.name.now) c.self.view_is

pub returns-clause-gone : goal.returns-clause-gone
returns-clause-gone c = lookup_by_name c.args.name.now c.remove_entry.new.self.entries ∙ c.remove_entry.ensures.updates.1

pub returns-clause-others : goal.returns-clause-others
returns-clause-others c other differ =
    lookup_by_name other c.remove_entry.new.self.entries
    ∙ c.remove_entry.ensures.updates.2 other (other_name c.args.name.now other differ)
    ∙ sym (lookup_by_name other c.self.inside.entries.entries)
    ∙ ap (cached other) c.self.view_is
