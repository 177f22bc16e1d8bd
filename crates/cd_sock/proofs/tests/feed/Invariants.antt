use Rattle.cd_sock.proofs.tests.feed.Given as goal
use Rattle.std.proofs.Common.{length}

-- the bytes that are left become fewer
abbrev pub decreases-loop-left : goal.decreases-loop-left
decreases-loop-left l = length l.left
