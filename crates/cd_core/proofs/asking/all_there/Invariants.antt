use Rattle.cd_core.proofs.asking.all_there.Given as goal
use Rattle.std.proofs.Common.{Some, map, take, ◌≡◌}

abbrev pub invariant-loop-reg : goal.invariant-loop-reg
invariant-loop-reg l = l.plugins.items ≡ map Some (take l.reg-index l.regs)
