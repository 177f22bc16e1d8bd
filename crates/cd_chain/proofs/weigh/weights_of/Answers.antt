use Rattle.std.proofs.Common.{◌∙◌, sym, arith}
use Rattle.cd_chain.proofs.Weighing.{all, deeper, settled}
use Rattle.cd_chain.proofs.weigh.weights_of.Goals as goal

pub loop-i-preserved : goal.loop-i-preserved
loop-i-preserved c = deeper c.args.chains.now c.loop-i._i c.loop-i.weights.items c.as_slice.result.now c.in_ok-next.next.items c.loop-i.invariant c.as_slice.ensures.value c.in_ok-next.ensures

pub returns-then-are_same : goal.returns-then-are_same
returns-then-are_same c =
    settled c.args.chains.now c.loop-i._i c.loop-i.weights.items c.as_slice.result.now c.in_ok-next.next.items c.as_slice-in-loop-i.result.now c.loop-i.invariant c.as_slice.ensures.value c.in_ok-next.ensures c.as_slice-in-loop-i.ensures.value
    (c.are_same.ensures c.if-are_same.true ∙ c.as_slice-in-loop-i-2.ensures.value ∙ sym c.as_slice.ensures.value) c.loop-i-test.true

pub returns : goal.returns
returns c = all c.args.chains.now c.loop-i._i c.loop-i.weights.items c.loop-i.invariant (omega arith)
