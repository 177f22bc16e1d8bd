-- The name is put in before its entry, and taken out again where there is no room for that.
use Rattle.cd_cache.proofs.Pairs.{named_restored, restored}
use Rattle.cd_cache.proofs.cache.put_first.Goals as goal
use Rattle.cd_cache.specs.Index.{expires_at, found, has, has_name, is_same}
use Rattle.cd_cache.specs.declared.entry.CacheEntry.{CacheEntry}
use Rattle.std.proofs.Common.{Bool, List, None, ap, ap₂, cond, false, sym, true, ℕ, ◌∙◌, ◌≡◌}
use Rattle.std.proofs.lemmas.Slice.Eq.{bytes_eq-Decides}
use Rattle.std.specs.Option.{is_some}
use Rattle.std.specs.Str.{bytes_eq}

pub add-requires : goal.add-requires
add-requires c = c.requires.indexed.named c.args.name ∙ ap is_some c.requires.absent

pub returns-clause-indexed : goal.returns-clause-indexed
returns-clause-indexed c =
    let entries = c.args.entries.now.entries in
    let moment : ℕ = c.expiry-at.result in
    let back : c.in-Err.refused.value.0 ≡ c.args.name = ap (λ (p : List ℕ × CacheEntry). p.0) c.in-Err.ensures.value_returned in
    let absent : (q : List ℕ) → bytes_eq c.args.name q ≡ true → found entries q ≡ None = λ q same. ap (found entries) (sym ((bytes_eq-Decides c.args.name q).0 same)) ∙ c.requires.absent in
    record {
      indexed = λ at q.
          let had : Bool = has c.args.index.now.pairs (at, q) in
          c.take_out.ensures.pairs (at, q)
          ∙ ap₂ (λ (n : List ℕ) (h : Bool). cond (is_same (moment, n) (at, q)) false h) back (c.in_ok-add.ensures.pairs (at, q))
          ∙ restored c.args.timeout moment at (found entries q) (bytes_eq c.args.name q) had (absent q) (c.requires.indexed.indexed at q)
          ∙ ap (λ (es : List (List ℕ × CacheEntry)). expires_at c.args.timeout at (found es q)) (sym c.in-Err.ensures.err);
      named = λ q.
          c.take_out.ensures.names q
          ∙ ap₂ (λ (n : List ℕ) (h : Bool). cond (bytes_eq n q) false h) back (c.in_ok-add.ensures.names q)
          ∙ named_restored (found entries q) (bytes_eq c.args.name q) (has_name c.args.index.now.names q) (absent q) (c.requires.indexed.named q)
          ∙ ap (λ (es : List (List ℕ × CacheEntry)). is_some (found es q)) (sym c.in-Err.ensures.err);
    }
