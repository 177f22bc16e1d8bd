use Rattle.cd_core.proofs.Standing.{came_home}
use Rattle.cd_core.proofs.Waiting.{waiting_same}
use Rattle.cd_core.proofs.state.Core.done.Goals as goal
use Rattle.cd_core.specs.Seen.{calls_waiting}
use Rattle.std.proofs.Common.{ap, ◌∙◌}

pub returns-clause-step : goal.returns-clause-step
returns-clause-step g c = λ actor. came_home _ _ _ actor c.args.entered.reg c.args.entered.call c.args.entered.answer _ c.requires c.give.ensures.rows c.note_answer.ensures

pub returns-clause-waiting : goal.returns-clause-waiting
returns-clause-waiting g c = ap calls_waiting c.give.ensures.rows ∙ waiting_same _ c.args.entered.reg _
