use Rattle.cd_core.proofs.Offered.{accepted, not_accepted}
use Rattle.cd_core.proofs.state.Core.accept.Goals as goal

pub returns-then-self-clause-step : goal.returns-then-self-clause-step
returns-then-self-clause-step g c = λ actor. not_accepted _ actor c.args.lists c.args.words.now c.args.now c.if-self.true c.requires.fit c.requires.words

pub returns-in-Ok-clause-step : goal.returns-in-Ok-clause-step
returns-in-Ok-clause-step g c = λ actor. accepted _ _ _ actor c.args.lists c.args.words.now c.args.now _ c.if-self.false
    c.in-Ok.ensures.fates c.in-Ok.ensures.lists c.in-Ok.ensures.limits c.requires.fit c.requires.words
