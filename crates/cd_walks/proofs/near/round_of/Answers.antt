use Rattle.std.proofs.Common.{◌+◌, true, false}
use Rattle.cd_walks.specs.Levels.{reaches}
use Rattle.cd_walks.specs.Walks.{items_of}
use Rattle.cd_walks.proofs.Rounds.{all_rounds, found_round, last_round}
use Rattle.cd_walks.proofs.Stepping.{near_before, same_marks, told}
use Rattle.cd_walks.proofs.near.round_of.Goals as goal

pub returns-then-is_marked : goal.returns-then-is_marked
returns-then-is_marked c =
    let jumps = c.args.jumps.now in
    let n = c.loop-n.n in
    let next = near_before jumps c.args.chain n c.loop-n.marks.items c.as_slice.result.now c.in_ok-next.next.items c.loop-n.invariant.are c.as_slice.ensures.value c.in_ok-next.ensures in
    found_round jumps c.args.chain n c.loop-n-test.true c.loop-n.invariant.not_yet
    (told (reaches (items_of jumps) c.args.chain (n + 1)) c.in_ok-next.next.items c.as_slice-in-loop-n.result.now c.args.chain c.is_marked.result true next c.as_slice-in-loop-n.ensures.value c.is_marked.ensures c.if-is_marked.true)

pub returns-then-are_same : goal.returns-then-are_same
returns-then-are_same c =
    let jumps = c.args.jumps.now in
    let n = c.loop-n.n in
    let next = near_before jumps c.args.chain n c.loop-n.marks.items c.as_slice.result.now c.in_ok-next.next.items c.loop-n.invariant.are c.as_slice.ensures.value c.in_ok-next.ensures in
    last_round jumps c.args.chain n
    (same_marks (reaches (items_of jumps) c.args.chain (n + 1)) (reaches (items_of jumps) c.args.chain n) c.in_ok-next.next.items c.loop-n.marks.items c.as_slice-in-loop-n-2.result.now c.as_slice-in-loop-n-3.result.now next c.loop-n.invariant.are
    c.as_slice-in-loop-n-2.ensures.value c.as_slice-in-loop-n-3.ensures.value (c.are_same.ensures c.if-are_same.true))
    c.loop-n.invariant.not_yet

pub loop-n-preserved : goal.loop-n-preserved
loop-n-preserved c =
    let jumps = c.args.jumps.now in
    let n = c.loop-n.n in
    let next = near_before jumps c.args.chain n c.loop-n.marks.items c.as_slice.result.now c.in_ok-next.next.items c.loop-n.invariant.are c.as_slice.ensures.value c.in_ok-next.ensures in
    record {
      are = next;
      not_yet = told (reaches (items_of jumps) c.args.chain (n + 1)) c.in_ok-next.next.items c.as_slice-in-loop-n.result.now c.args.chain c.is_marked.result false next c.as_slice-in-loop-n.ensures.value c.is_marked.ensures c.if-is_marked.false;
    }

pub returns : goal.returns
returns c = all_rounds c.args.jumps.now c.args.chain c.loop-n.n c.loop-n-test.false c.loop-n.invariant.not_yet
