-- Decimals, one digit after the other.
use Rattle.cd_types.proofs.print.push_decimals.Given as goal
use Rattle.cd_types.specs.Printed.{decimals}
use Rattle.cd_types.specs.declared.limits.TheConstants.{DECIMALS}
use Rattle.std.proofs.Common.{◌++◌, ◌≡◌, ◌≤◌}
use Rattle.std.specs.String.{string_bytes}

abbrev pub invariant-loop-left : goal.invariant-loop-left
invariant-loop-left l = record {
  small : l.left ≤ DECIMALS;
  text : string_bytes l.text ++ decimals l.left l.rest ≡ string_bytes l.fn.text ++ decimals l.fn.places l.fn.n;
}

abbrev pub decreases-loop-left : goal.decreases-loop-left
decreases-loop-left l = l.left
