-- Decimals, one digit after the other.
use Rattle.cd_types.proofs.Decimals.{ends_at_last, ends_at_zero, puts_digit}
use Rattle.cd_types.proofs.print.push_decimals.Goals as goal
use Rattle.std.proofs.Common.{arith, lit<, ◌-◌}
use Rattle.std.proofs.Math.Nat.{one-le-pow}
use Rattle.std.specs.String.{string_bytes}

pub nonzero_div-rest : goal.nonzero_div-rest
nonzero_div-rest c = let p = one-le-pow (c.loop-left.left - 1) 10 (lit< tt) in omega (arith, p, c.pow-unit.ensures)

pub nonzero_rem-rest : goal.nonzero_rem-rest
nonzero_rem-rest c = let p = one-le-pow (c.loop-left.left - 1) 10 (lit< tt) in omega (arith, p, c.pow-unit.ensures)

pub loop-left-preserved : goal.loop-left-preserved
loop-left-preserved c = record {
  small = omega arith;
  text = rw c.pow-unit.ensures
      (puts_digit c.loop-left.left (c.loop-left.left - 1) c.loop-left.rest (string_bytes c.loop-left.text) (string_bytes c.push_digit.new.text) _ (omega arith) (omega arith)
      (rw c.pow-unit.ensures at c.in_ok-push_digit.ensures) c.loop-left.invariant.text);
}

pub returns-else-rest-gt0 : goal.returns-else-rest-gt0
returns-else-rest-gt0 c = ends_at_zero c.loop-left.left c.loop-left.rest (string_bytes c.loop-left.text) _ (omega arith) c.loop-left.invariant.text

pub returns-after-loop-left : goal.returns-after-loop-left
returns-after-loop-left c = ends_at_last c.loop-left.left c.loop-left.rest (string_bytes c.loop-left.text) _ (omega arith) c.loop-left.invariant.text
