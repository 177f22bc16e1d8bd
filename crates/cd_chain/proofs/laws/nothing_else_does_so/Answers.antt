use Rattle.cd_chain.proofs.OfAccepted.{only_this}
use Rattle.cd_chain.proofs.laws.nothing_else_does_so.Goals as goal

pub returns : goal.returns
returns c = λ scene table other fine solves name. only_this scene table fine other solves name
