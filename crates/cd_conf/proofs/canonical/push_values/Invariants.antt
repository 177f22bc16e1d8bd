use Rattle.cd_conf.proofs.canonical.push_values.Given as goal
use Rattle.cd_conf.specs.Canonical.{spaced}
use Rattle.std.proofs.Common.{take, ◌++◌, ◌≡◌}
use Rattle.std.specs.List.{flat_map}

abbrev pub invariant-loop-arg : goal.invariant-loop-arg
invariant-loop-arg l = l.out ≡ l.fn.out ++ flat_map spaced (take l.arg-index l.args)
