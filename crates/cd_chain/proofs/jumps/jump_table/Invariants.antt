use Rattle.std.proofs.Common.{◌≡◌, map, take}
use Rattle.cd_walks.specs.Walks.{items_of}
use Rattle.cd_chain.specs.Tables.{jump_numbers}
use Rattle.cd_chain.proofs.jumps.jump_table.Given as goal

abbrev pub invariant-loop-chain : goal.invariant-loop-chain
invariant-loop-chain l = items_of l.found.items ≡ map (jump_numbers l.chains) (take l.chain-index l.chains)
