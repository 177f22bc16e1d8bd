use Rattle.cd_core.proofs.Standing.{not_shut, shut}
use Rattle.cd_core.proofs.state.Core.close.Goals as goal

pub returns-in-Ok-clause-step : goal.returns-in-Ok-clause-step
returns-in-Ok-clause-step g c = λ actor. shut _ _ _ actor c.args.name.now c.in-Ok.reg c.in-Ok.ensures.reg c.in-Ok.ensures.ok c.take_out.ensures

pub returns-in-Err-clause-step : goal.returns-in-Err-clause-step
returns-in-Err-clause-step g c = λ actor. not_shut _ _ actor c.args.name.now _ c.in-Err.ensures.reg c.in-Err.ensures.err
