use Rattle.cd_core.proofs.Welcome.{not_welcomed, welcomed}
use Rattle.cd_core.proofs.state.Core.register.Goals as goal

pub returns-in-Ok-clause-step : goal.returns-in-Ok-clause-step
returns-in-Ok-clause-step g c = λ actor. welcomed _ _ _ c.reserve.new.self.items actor c.in-Ok.reg c.args.name c.args.kinds c.args.config _ c.if-self.false c.in-Ok.ensures.fault c.in-Ok.ensures.number c.in-Ok.ensures.ok c.reserve.ensures.items c.welcome.ensures

pub returns-in-Err-clause-step : goal.returns-in-Err-clause-step
returns-in-Err-clause-step g c = not_welcomed _ _ _ c.args.name _ c.in-Err.refused.why _ c.in-Err.ensures.err c.reserve.ensures.items c.if-self.false c.in-Err.ensures.fault c.handed_back.ensures.why
