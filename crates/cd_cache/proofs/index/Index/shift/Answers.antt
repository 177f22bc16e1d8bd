-- The new pair goes in, and then the old one out.
use Rattle.cd_cache.proofs.Pairs.{either_way, is_pair, two_pairs}
use Rattle.cd_cache.proofs.index.Index.shift.Goals as goal
use Rattle.cd_cache.specs.Index.{has, is_same, pair_order}
use Rattle.std.proofs.Common.{Bool, List, ap, ap₂, cond, false, true, ℕ, ◌∙◌, ◌≡◌}
use Rattle.std.specs.Ordering.{is_eq}

pub returns-clause-ok : goal.returns-clause-ok
returns-clause-ok c = λ q.
    let pairs = c.self.inside.pairs.keys in
    let there : Bool = is_same (c.args.to, c.args.name) q in
    let here : Bool = is_same (c.args.from, c.args.name) q in
    let mid : has c.insert.new.self.keys q ≡ cond there true (has pairs q) =
    c.in_ok-insert.ensures.updates.0 q ∙ ap (λ (b : Bool). cond b true (has pairs q)) (is_pair (c.args.to, c.args.name) q) in
    let out : is_eq (pair_order c.fill.new.room q) ≡ here = ap (λ (p : ℕ × List ℕ). is_eq (pair_order p q)) c.in_ok-fill.ensures ∙ is_pair (c.args.from, c.args.name) q in
    rw (← c.self.view_is)
    (c.remove.ensures.updates.0 q
    ∙ ap₂ (λ (b h : Bool). cond b false h) out mid
    ∙ either_way there here (has pairs q) (two_pairs c.args.from c.args.to c.args.name q c.if-from-to.false))
