-- A match may move to another thread, and threads may share it.
use Rattle.cd_match.specs.contracts.compiled.RegexMatch as regex_match
use Rattle.cd_match.specs.contracts.compiled.RegexMatch.TheInside as inside
use Rattle.cd_match.specs.contracts.data.Match as match
use Rattle.cd_pattern.proofs.Crossing.{pattern_send, pattern_sync}
use Rattle.std.proofs.Crossing.{crosses}
use Rattle.std.proofs.MapsCrossing as maps
use denote.Param.Send.{IsSend, IsSync, sendable, view_send, view_sync}
use denote.Param.SendFields.{declared_send, declared_sync}

regex_match_send : IsSend regex_match.the_row
regex_match_send =
    view_send _ _ _ _ _ (declared_send inside.the_type (search (pattern_send, sendable, crosses) depth 20, (search sendable, tt)))

pub match_send : IsSend match.the_row
match_send = search (regex_match_send, sendable, crosses, maps.crosses) depth 60 fits 20000

regex_match_sync : IsSync regex_match.the_row
regex_match_sync =
    view_sync _ _ _ _ _ (declared_sync inside.the_type (search (pattern_sync, sendable, crosses) depth 20, (search sendable, tt)))

pub match_sync : IsSync match.the_row
match_sync = search (regex_match_sync, sendable, crosses, maps.crosses) depth 60 fits 20000
