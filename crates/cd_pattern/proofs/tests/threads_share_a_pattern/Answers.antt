use Rattle.cd_pattern.proofs.Crossing.{pattern_sync}
use Rattle.cd_pattern.proofs.tests.threads_share_a_pattern.Goals as goal
use Rattle.std.proofs.Crossing.{crosses}
use denote.Param.Send.{sendable}

pub join-found-requires-send-F : goal.join-found-requires-send-F
join-found-requires-send-F c = search (pattern_sync, sendable, crosses) depth 20
