use Rattle.cd_conf.proofs.canonical.push_decimals.Given as goal
use Rattle.cd_conf.specs.Canonical.{decimals}
use Rattle.cd_conf.specs.declared.limits.TheConstants.{DECIMALS_LIMIT}
use Rattle.std.proofs.Common.{◌++◌, ◌≡◌, ◌≤◌}
use Rattle.std.specs.String.{string_bytes}

abbrev pub invariant-loop-left : goal.invariant-loop-left
invariant-loop-left l = record {
  small : l.left ≤ DECIMALS_LIMIT;
  text : string_bytes l.text ++ decimals l.left l.rest ≡ string_bytes l.fn.text ++ decimals l.fn.places l.fn.n;
}

abbrev pub decreases-loop-left : goal.decreases-loop-left
decreases-loop-left l = l.left
