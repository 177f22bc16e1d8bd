use Rattle.cd_core.proofs.Room.{Rising}
use Rattle.cd_core.proofs.posting.rise.Given as goal
use Rattle.std.proofs.Common.{take}

abbrev pub invariant-loop-post : goal.invariant-loop-post
invariant-loop-post l = Rising (take l.post-index l.posts) l.last
