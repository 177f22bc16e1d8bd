use Rattle.cd_net.proofs.cut.parts.Given as goal
use Rattle.cd_net.specs.Packet.{AreParts}
use Rattle.cd_net.specs.declared.packet.PacketEnd.{PacketEnd}
use Rattle.cd_net.specs.declared.packet.Part.{Part}
use Rattle.std.proofs.Common.{List, length, ◌++◌, ◌-◌, ◌≤◌}

-- the parts so far and those that follow are the packet's
abbrev pub invariant-loop-part : goal.invariant-loop-part
invariant-loop-part l = record {
  within : l.place ≤ length l.bytes;
  goes_on : (parts : List Part) (end : PacketEnd) → AreParts l.bytes l.place parts end → AreParts l.bytes 0 (l.list ++ parts) end;
}

abbrev pub decreases-loop-part : goal.decreases-loop-part
decreases-loop-part l = length l.bytes - l.place
