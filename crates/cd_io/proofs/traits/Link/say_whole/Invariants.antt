use Rattle.cd_io.proofs.traits.Link.say_whole.Given as goal
use Rattle.cd_io.specs.Link.{SaysWhole}
use Rattle.std.proofs.Common.{false, length, ◌-◌, ◌≤◌}

-- so many bytes were said so far
abbrev pub invariant-loop-said : goal.invariant-loop-said
invariant-loop-said g l = record {
  within : l.said ≤ length l.text;
  says : SaysWhole l.said false l.text (g.Self.Link.link_tells l.fn.self) (g.Self.Link.link_tells l.self);
}

abbrev pub decreases-loop-said : goal.decreases-loop-said
decreases-loop-said g l = length l.text - l.said
