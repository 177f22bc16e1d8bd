use Rattle.cd_net.proofs.Decoding.{Reads}
use Rattle.cd_net.proofs.decode.items.Given as goal
use Rattle.cd_net.specs.Carried.{shown}
use Rattle.cd_net.specs.Refusals.{set_in_force}
use Rattle.std.proofs.Common.{length, ◌-◌, ◌≡◌, ◌≤◌}
use Rattle.std.specs.Option.{option_copied}

abbrev pub invariant-loop-part : goal.invariant-loop-part
invariant-loop-part l = record {
  within : l.place ≤ length l.bytes;
  set_is : option_copied l.set ≡ set_in_force l.types (shown l.fields);
  reads : Reads l.types l.interval l.bytes l.place (shown l.fields) l.items l.refused;
}

abbrev pub decreases-loop-part : goal.decreases-loop-part
decreases-loop-part l = length l.bytes - l.place
