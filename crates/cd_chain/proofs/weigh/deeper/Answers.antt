use Rattle.std.proofs.Common.{min}
use Rattle.cd_chain.specs.Chains.{chain_weight}
use Rattle.cd_chain.specs.Weights.{looked_up}
use Rattle.cd_walks.specs.Walks.{items_of}
use Rattle.cd_chain.proofs.Weighing.{by_number, mapped_more}
use Rattle.cd_chain.proofs.weigh.deeper.Goals as goal

pub loop-number-preserved : goal.loop-number-preserved
loop-number-preserved c =
    mapped_more (λ chain. min 4097 (chain_weight (looked_up c.args.chains.now c.args.weights.now) chain)) c.loop-number.new.items c.push.new.self.items c.args.chains.now c.loop-number.number c.index-chains-number.result c.chain_weight.result c.loop-number-test.true c.index-chains-number.is
    (by_number c.args.chains.now (items_of c.args.jumps.now) c.args.weights.now c.jumps_at.result.now c.loop-number.number c.index-chains-number.result c.chain_weight.result c.requires c.loop-number-test.true c.index-chains-number.is c.jumps_at.ensures c.chain_weight.ensures)
    c.loop-number.invariant c.in_ok-push.ensures.items
