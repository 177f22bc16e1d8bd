use Rattle.std.proofs.Common.{◌∙◌, ◌&&◌, false, length, nat_eq, get_or, refl, sym, arith}
use Rattle.std.specs.List.{list_any}
use Rattle.cd_walks.specs.Walks.{items_of}
use Rattle.cd_walks.proofs.Stepping.{ended, further, in_range, next_is, one_longer, popped}
use Rattle.cd_walks.proofs.walks.walk_of.Goals as goal

pub returns-in_default-next_of : goal.returns-in_default-next_of
returns-in_default-next_of c =
    let J = items_of c.args.jumps.now in
    let rest = c.pop.new.self.items in
    let own = popped J c.args.to c.loop-level.levels.items rest c.in-Some.level c.loop-level.invariant.are c.in-Some.ensures.items in
    let found = next_is c.args.jumps.now c.args.to (length rest) c.loop-level.at c.in-Some.level.items c.as_slice.result.now c.as_slice-chains.result.now c.index-jumps-at.result own.1 c.as_slice.ensures.value c.as_slice-chains.ensures.value c.loop-level.invariant.here c.index-jumps-at.is in
    c.in_ok-push.ensures.items
    ∙ ended J c.args.to (length rest) (length c.loop-level.levels.items) c.loop-level.at c.loop-level.walk.items _ (sym (one_longer rest c.loop-level.levels.items c.in-Some.level (length rest) refl c.in-Some.ensures.items)) (sym found ∙ sym c.in_default-next_of.ensures) c.loop-level.invariant.same

pub loop-level-preserved : goal.loop-level-preserved
loop-level-preserved c =
    let J = items_of c.args.jumps.now in
    let rest = c.pop.new.self.items in
    let own = popped J c.args.to c.loop-level.levels.items rest c.in-Some.level c.loop-level.invariant.are c.in-Some.ensures.items in
    let found = next_is c.args.jumps.now c.args.to (length rest) c.loop-level.at c.in-Some.level.items c.as_slice.result.now c.as_slice-chains.result.now c.index-jumps-at.result own.1 c.as_slice.ensures.value c.as_slice-chains.ensures.value c.loop-level.invariant.here c.index-jumps-at.is in
    record {
      here = let l = in_range (λ d. list_any (nat_eq d) c.as_slice-chains.result.now && get_or c.as_slice.result.now d false) 0 (length c.args.jumps.now) c.in-Some-next_of.next (sym c.in-Some-next_of.ensures) in omega arith;
      are = own.0;
      same = further J c.args.to (length rest) (length c.loop-level.levels.items) c.loop-level.at c.in-Some-next_of.next c.loop-level.walk.items c.push.new.self.items _ (sym (one_longer rest c.loop-level.levels.items c.in-Some.level (length rest) refl c.in-Some.ensures.items)) (sym found ∙ sym c.in-Some-next_of.ensures) c.in_ok-push.ensures.items c.loop-level.invariant.same;
    }
