use Rattle.cd_core.proofs.Named.{written, written_next}
use Rattle.cd_core.proofs.effects.write_copies_to_named.Goals as goal
use Rattle.std.proofs.Common.{ap, append-nil, ◌∙◌}
use Rattle.std.proofs.lemmas.List.{take_all}

pub loop-at-init : goal.loop-at-init
loop-at-init g c = λ regs finds. λ i. record c.args.effects.now { posts = append-nil c.args.effects.now.posts i }

pub loop-at-preserved : goal.loop-at-preserved
loop-at-preserved g c = λ regs finds.
    written_next regs c.args.list.now _ _ _ c.args.names.now c.loop-at.at c.index-names-at.result c.loop-at-test.true c.index-names-at.is
    (c.loop-at.invariant regs finds) (c.in_ok-last.ensures regs finds)

pub returns : goal.returns
returns g c = λ regs finds.
    c.loop-at.invariant regs finds ∙ ap (written regs c.args.list.now c.args.effects.now) (take_all c.loop-at.at c.args.names.now c.loop-at-test.false)
