use Rattle.std.proofs.Common.{◌∙◌, ◌+◌, List, Bool, false, get_or, ap, sym}
use Rattle.cd_walks.specs.Walks.{items_of}
use Rattle.cd_walks.proofs.Loops.{no_cycle}
use Rattle.cd_walks.proofs.Stepping.{deep_before, none_in}
use Rattle.cd_walks.proofs.levels.may_loop.Goals as goal

pub loop-n-preserved : goal.loop-n-preserved
loop-n-preserved c = deep_before c.args.jumps.now c.loop-n._n c.loop-n.deep.items c.as_slice.result.now c.in_ok-deep-2.deep.items c.loop-n.invariant c.as_slice.ensures.value c.in_ok-deep-2.ensures

pub returns-then-not-has_marked : goal.returns-then-not-has_marked
returns-then-not-has_marked c = λ _.
    let J = items_of c.args.jumps.now in
    let next = deep_before c.args.jumps.now c.loop-n._n c.loop-n.deep.items c.as_slice.result.now c.in_ok-deep-2.deep.items c.loop-n.invariant c.as_slice.ensures.value c.in_ok-deep-2.ensures in
    no_cycle J (c.loop-n._n + 1) (λ d.
    sym (next.at d) ∙ ap (λ (level : List Bool). get_or level d false) (sym c.as_slice-in-loop-n.ensures.value)
    ∙ none_in c.as_slice-in-loop-n.result.now (sym c.has_marked.ensures ∙ c.if-not-has_marked.true) d)
