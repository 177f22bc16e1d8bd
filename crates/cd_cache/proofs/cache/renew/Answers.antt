-- The pair of the name moves with its entry.
use Rattle.cd_cache.proofs.Pairs.{same_is, stays_put}
use Rattle.cd_cache.proofs.cache.renew.Goals as goal
use Rattle.cd_cache.specs.Cache.{renewed}
use Rattle.cd_cache.specs.Index.{has, is_same}
use Rattle.cd_cache.specs.Lost.{expiry}
use Rattle.std.proofs.Common.{List, Some, ap, ap₂, cond, false, sym, true, ℕ, ◌∙◌, ◌≡◌}

pub returns-clause-ok : goal.returns-clause-ok
returns-clause-ok c =
    c.renew.ensures
    ∙ c.in_ok-renewal.ensures.entry c.args.now
    ∙ sym (ap (λ b. cond b c.args.place.now (renewed c.args.set.now (Some c.args.place.now) c.args.list.now c.args.now)) (sym c.is_as_new_as.ensures ∙ c.if-is_as_new_as.false))

pub returns-clause-moved : goal.returns-clause-moved
returns-clause-moved c = λ q.
    let to : c.moment_after.result ≡ expiry c.args.timeout c.renew.new.self = c.moment_after.ensures ∙ ap (expiry c.args.timeout) (sym c.renew.ensures) in
    c.in_ok-shift.ensures.ok q
    ∙ ap₂ (λ (f t : ℕ). cond (is_same (t, c.args.name) q) true (cond (is_same (f, c.args.name) q) false (has c.args.index.now.pairs q))) c.expiry-from.ensures to

pub returns-then-is_as_new_as-clause-moved : goal.returns-then-is_as_new_as-clause-moved
returns-then-is_as_new_as-clause-moved c = λ q.
    let pair : ℕ × List ℕ = (expiry c.args.timeout c.args.place.now, c.args.name) in
    stays_put (is_same pair q) (has c.args.index.now.pairs q) (λ same. ap (has c.args.index.now.pairs) (sym (same_is pair q same)) ∙ c.requires)
