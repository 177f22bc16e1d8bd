use Rattle.cd_serve.proofs.Entering.{was_called}
use Rattle.cd_serve.proofs.outside.AroundOutside.call.Goals as goal

pub returns-clause-called : goal.returns-clause-called
returns-clause-called g c =
    was_called _ _ _ c.in_ok-reg.field-0.reg c.in_ok-reg.field-0.call c.enter-answer.result (g.P.TellsCalls.plug_tells c.in_ok-reg.field-0.object) (g.P.TellsCalls.plug_tells c.enter-answer.new.self)
    c.in_ok-reg.ensures.step c.in_ok-reg.ensures.lent c.enter-answer.ensures c.done.ensures.step
