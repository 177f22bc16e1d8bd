use Rattle.cd_net.proofs.carried.Carried.new.Goals as goal
use Rattle.cd_net.specs.InForce.{last_of}
use Rattle.std.proofs.Common.{refl}

pub returns : goal.returns
unfolding last_of
returns c = λ bytes. rw c.new.ensures.text refl
