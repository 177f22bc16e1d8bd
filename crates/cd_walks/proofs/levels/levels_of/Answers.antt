use Rattle.cd_walks.specs.Walks.{items_of}
use Rattle.cd_walks.proofs.Stepping.{level_before, one_longer, pushed}
use Rattle.cd_walks.proofs.levels.levels_of.Goals as goal

pub loop-n-preserved : goal.loop-n-preserved
loop-n-preserved c = record {
  many = one_longer c.loop-n.levels.items c.push.new.self.items c.loop-n.level c.loop-n._n c.loop-n.invariant.many c.in_ok-push.ensures.items;
  are = pushed (items_of c.args.jumps.now) c.args.to c.loop-n._n c.loop-n.levels.items c.push.new.self.items c.loop-n.level c.loop-n.invariant.many c.loop-n.invariant.are c.loop-n.invariant.level c.in_ok-push.ensures.items;
  level = level_before c.args.jumps.now c.args.to c.loop-n._n c.loop-n.level.items c.as_slice.result.now c.in_ok-next.next.items c.loop-n.invariant.level c.as_slice.ensures.value c.in_ok-next.ensures;
}
