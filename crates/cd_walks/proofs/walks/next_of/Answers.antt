use Rattle.std.proofs.Common.{◌∙◌, ◌&&◌, false, nat_eq, slice_index_or, sym}
use Rattle.std.specs.List.{list_any}
use Rattle.cd_walks.proofs.Stepping.{went_on}
use Rattle.cd_walks.proofs.walks.next_of.Goals as goal

pub loop-chain-preserved : goal.loop-chain-preserved
loop-chain-preserved c =
    went_on (λ chain. list_any (nat_eq chain) c.args.chains.now && slice_index_or c.args.marks.now chain false) c.loop-chain.chain c.args.count c.loop-chain-test.true (sym c.is_next.ensures ∙ c.if-is_next.false)
    ∙ c.loop-chain.invariant
