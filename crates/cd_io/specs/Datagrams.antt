-- What a datagram has.
use Rattle.cd_io.specs.declared.packets.TheConstants.{DATAGRAM_LIMIT}
use Rattle.std.specs.Prelude.{List, take, ℕ}

-- as many of some bytes as a datagram may have
abbrev pub as_datagram : List ℕ → List ℕ
as_datagram bytes = take DATAGRAM_LIMIT bytes
