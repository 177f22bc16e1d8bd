use Rattle.cd_text.proofs.Powers.{up_far, up_none, up_small, up_some}
use Rattle.cd_text.proofs.scale.scaled_up.Goals as goal
use Rattle.std.proofs.Common.{arith}

pub returns-then-shift-gt24-clause-value : goal.returns-then-shift-gt24-clause-value
returns-then-shift-gt24-clause-value c = up_far c.args.n c.args.shift c.requires c.if-shift-gt24.true

pub returns-then-n-most-clause-value : goal.returns-then-n-most-clause-value
returns-then-n-most-clause-value c = up_none c.args.n c.args.shift _ c.if-shift-gt24.false c.ten_to-most.ensures.value c.if-n-most.true

pub overflow_mul-result : goal.overflow_mul-result
overflow_mul-result c =
    let h = up_small c.args.n c.args.shift _ _ c.if-shift-gt24.false c.ten_to-most.ensures.value c.if-n-most.false c.ten_to.ensures.value in
    omega (arith, h)

pub returns-clause-value : goal.returns-clause-value
returns-clause-value c = up_some c.args.n c.args.shift _ _ c.if-shift-gt24.false c.ten_to-most.ensures.value c.if-n-most.false c.ten_to.ensures.value

pub returns-clause-small : goal.returns-clause-small
returns-clause-small c = up_small c.args.n c.args.shift _ _ c.if-shift-gt24.false c.ten_to-most.ensures.value c.if-n-most.false c.ten_to.ensures.value
