use Rattle.cd_text.proofs.Powers.{down_all, down_far, down_few, down_near, down_none, far_small, few_small, near_small}
use Rattle.cd_text.proofs.scale.scaled_down.Goals as goal
use Rattle.std.proofs.Common.{arith}

pub returns-then-shift-gt42-clause-value : goal.returns-then-shift-gt42-clause-value
returns-then-shift-gt42-clause-value c = down_all c.args.n c.args.shift c.requires c.if-shift-gt42.true

pub returns-then-shift-gt12-clause-value : goal.returns-then-shift-gt12-clause-value
returns-then-shift-gt12-clause-value c = down_far c.args.n c.args.shift _ c.requires c.if-shift-gt12.true c.ten_to.ensures.value

pub returns-then-shift-gt12-clause-small : goal.returns-then-shift-gt12-clause-small
returns-then-shift-gt12-clause-small c = far_small c.args.n _ c.args.shift c.requires c.if-shift-gt12.true c.ten_to.ensures.value

pub returns-then-n-most-clause-value : goal.returns-then-n-most-clause-value
returns-then-n-most-clause-value c = down_none c.args.n c.args.shift _ c.ten_to-most.ensures.value c.if-n-most.true

pub overflow_mul-result : goal.overflow_mul-result
overflow_mul-result c =
    let h = few_small c.args.n c.args.shift _ _ c.ten_to-most.ensures.value c.if-n-most.false c.if-shift-gt6.false c.ten_to-else-shift-gt6.ensures.value in
    omega (arith, h)

pub returns-then-shift-gt6-clause-value : goal.returns-then-shift-gt6-clause-value
returns-then-shift-gt6-clause-value c = down_near c.args.n c.args.shift _ _ c.ten_to-most.ensures.value c.if-n-most.false c.if-shift-gt6.true c.ten_to-then-shift-gt6.ensures.value

pub returns-then-shift-gt6-clause-small : goal.returns-then-shift-gt6-clause-small
returns-then-shift-gt6-clause-small c = near_small c.args.n _ c.args.shift _ c.ten_to-most.ensures.value c.if-n-most.false c.if-shift-gt6.true c.ten_to-then-shift-gt6.ensures.value

pub returns-else-shift-gt6-clause-value : goal.returns-else-shift-gt6-clause-value
returns-else-shift-gt6-clause-value c = down_few c.args.n c.args.shift _ _ c.ten_to-most.ensures.value c.if-n-most.false c.if-shift-gt6.false c.ten_to-else-shift-gt6.ensures.value

pub returns-else-shift-gt6-clause-small : goal.returns-else-shift-gt6-clause-small
returns-else-shift-gt6-clause-small c = few_small c.args.n c.args.shift _ _ c.ten_to-most.ensures.value c.if-n-most.false c.if-shift-gt6.false c.ten_to-else-shift-gt6.ensures.value
