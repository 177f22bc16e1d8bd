-- What a source of datagrams in memory tells, and which calls on it go through.
use Rattle.cd_io.specs.Datagrams.{as_datagram}
use Rattle.cd_io.specs.MemLink.{is_among}
use Rattle.cd_io.specs.Packets.{PacketsTell}
use Rattle.cd_io.specs.declared.memory.packets.MemPackets.{MemPackets}
use Rattle.cd_io.specs.declared.memory.packets.PacketsPlan.{PacketsPlan}
use Rattle.std.specs.Prelude.{Bool, List, Some, [], drop, map, not, take, ℕ, ◌&&◌}

-- what a source in memory tells
abbrev pub tells_of : MemPackets → PacketsTell
tells_of source = record {
  given = Some (map (λ v. as_datagram v.items) (take source.taken source.datagrams.items));
  left = Some (map (λ v. as_datagram v.items) (drop source.taken source.datagrams.items));
  faults = source.faults;
  quiets = source.quiets;
}

-- what it tells before the first call, where these datagrams come
abbrev pub told_first : List (List ℕ) → PacketsTell
told_first datagrams = record { given = Some []; left = Some (map as_datagram datagrams); faults = 0; quiets = 0 }

-- which calls don't go through
abbrev pub plan_of : MemPackets → PacketsPlan
plan_of source = source.plan

-- the number of the next call
abbrev pub calls_of : MemPackets → ℕ
calls_of source = source.calls

-- a call with this number fails
abbrev pub fails : PacketsPlan → ℕ → Bool
fails plan number = is_among number plan.failing_calls.items

-- a call with this number brings nothing, and doesn't fail
abbrev pub is_planned_quiet : PacketsPlan → ℕ → Bool
is_planned_quiet plan number = not (fails plan number) && is_among number plan.quiet_calls.items
