use Rattle.cd_core_walk.proofs.Lent.{came_home, out_there, rest_out}
use Rattle.cd_core_walk.proofs.real.Real.done.Goals as goal
use Rattle.std.proofs.Common.{arith, sym, ◌∙◌}

pub done-requires : goal.done-requires
done-requires g c =
    out_there _ _ _ c.place_among-at.result c.remove-lease.result c.requires (omega arith) c.remove-lease.ensures.value _ c.enter-entered.ensures.reg

pub returns-then-is_alone : goal.returns-then-is_alone
returns-then-is_alone g c =
    came_home _ _ _ c.place_among-at.result c.remove-lease.result c.requires (omega arith) c.remove-lease.ensures.value
    _ _ c.as_slice.result.now _ _ _ _ c.remove-lease.ensures.by_index.2 c.as_slice.ensures.value (sym c.is_alone.ensures ∙ c.if-is_alone.true)
    c.enter-entered.ensures.reg c.enter-entered.ensures.call c.enter-entered.ensures.told c.done.ensures.step

pub returns-else-is_alone : goal.returns-else-is_alone
returns-else-is_alone g c =
    rest_out g.P.TellsCalls.plug_tells _ _ _ c.place_among-at.result c.remove-lease.ensures.by_index.2 c.requires
