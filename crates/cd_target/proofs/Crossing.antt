-- A target may move to another thread, and threads may share it.
use Rattle.cd_pattern.proofs.Crossing.{pattern_send, pattern_sync}
use Rattle.cd_target.specs.contracts.target.Replacing as replacing
use Rattle.cd_target.specs.contracts.target.Target as target
use Rattle.std.proofs.Crossing.{crosses}
use Rattle.std.proofs.MapsCrossing as maps
use denote.Param.Send.{IsSend, IsSync, sendable}
use denote.Param.SendFields.{declared_send, declared_sync}

replacing_send : IsSend replacing.the_row
replacing_send = declared_send replacing.the_type
    (search sendable depth 20, (pattern_send, (search (maps.String-send, sendable, crosses) depth 20, tt)))

pub target_send : IsSend target.the_row
target_send = search (replacing_send, sendable, crosses, maps.crosses) depth 60 fits 20000

replacing_sync : IsSync replacing.the_row
replacing_sync = declared_sync replacing.the_type
    (search sendable depth 20, (pattern_sync, (search (maps.String-sync, sendable, crosses) depth 20, tt)))

pub target_sync : IsSync target.the_row
target_sync = search (replacing_sync, sendable, crosses, maps.crosses) depth 60 fits 20000
