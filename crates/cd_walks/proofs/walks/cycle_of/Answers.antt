use Rattle.cd_walks.specs.Walks.{items_of}
use Rattle.cd_walks.proofs.Least.{free_of, least_of, on_ok}
use Rattle.cd_walks.proofs.walks.cycle_of.Goals as goal

pub returns-clause-free : goal.returns-clause-free
returns-clause-free c = on_ok _ _ c.least_cycle.result (free_of (items_of c.args.jumps.now)) c.least_cycle.ensures

pub returns-clause-least : goal.returns-clause-least
returns-clause-least c = on_ok _ _ c.least_cycle.result (least_of (items_of c.args.jumps.now)) c.least_cycle.ensures
