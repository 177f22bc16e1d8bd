-- The pair and the name that are taken out are those that compare as equal to them.
use Rattle.cd_cache.proofs.Pairs.{is_pair}
use Rattle.cd_cache.proofs.index.Index.take_out.Goals as goal
use Rattle.cd_cache.specs.Index.{has, has_name}
use Rattle.std.proofs.Common.{Bool, ap, cond, false, ◌∙◌}
use Rattle.std.proofs.lemmas.Map.Text.{is_eq-slice_cmp}

pub returns-clause-pairs : goal.returns-clause-pairs
returns-clause-pairs c = λ q.
    rw (← c.self.view_is)
    (c.remove.ensures.updates.0 q
    ∙ ap (λ (b : Bool). cond b false (has c.self.inside.pairs.keys q)) (is_pair c.args.pair.now q))

pub returns-clause-names : goal.returns-clause-names
returns-clause-names c = λ q.
    rw (← c.self.view_is)
    (c.remove-2.ensures.updates.0 q
    ∙ ap (λ (b : Bool). cond b false (has_name c.self.inside.names.keys q)) (is_eq-slice_cmp c.args.pair.now.1 q))
