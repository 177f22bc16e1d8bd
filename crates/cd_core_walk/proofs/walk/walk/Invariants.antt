-- What is out of the core stays so.
use Rattle.cd_core_walk.proofs.walk.walk.Given as goal
use Rattle.cd_core_walk.specs.Out.{HasOut}
use Rattle.cd_core_walk.specs.declared.asking.Unread.{Unread}
use Rattle.cd_plugins.specs.declared.telling.Telling.{Telling}
use Rattle.std.specs.Prelude.{None}

abbrev pub invariant-loop-number : goal.invariant-loop-number
invariant-loop-number l = HasOut
    (λ (plug : Telling). record { mark = plug.mark; calls = plug.calls })
    (λ (probe : Unread). record { mark = 0; faults = 0; readings = None })
    l.real
