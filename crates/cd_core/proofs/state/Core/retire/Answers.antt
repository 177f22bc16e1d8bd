use Rattle.cd_core.proofs.Standing.{member_home, retired, tells_home}
use Rattle.cd_core.proofs.state.Core.retire.Goals as goal
use Rattle.std.proofs.lemmas.Result.{IfOk-weaker}

pub returns-clause-step : goal.returns-clause-step
returns-clause-step g c = λ actor. retired _ _ actor c.args.reg c.retire.result c.retire.ensures.fault c.retire.ensures.ok c.retire.ensures.err

pub returns-clause-told : goal.returns-clause-told
returns-clause-told g c =
    IfOk-weaker c.retire.result _ _ (λ member at. tells_home _ c.args.reg _ (member_home g.P.TellsCalls.plug_tells g.Q.TellsReadings.probe_tells member) at) c.retire.ensures.member
