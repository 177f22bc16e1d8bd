use Rattle.cd_target.proofs.placeholders.push_parts.Given as goal
use Rattle.cd_target.specs.Placeholders.{filled, is_percent}
use Rattle.std.proofs.Common.{length, ◌++◌, ◌≡◌}
use Rattle.std.specs.List.{flat_map, slice_split}
use denote.Shadow.{shadow}
use denote.Text.{Utf8}

-- what was put behind so far, and what the parts of the rest become, are what the parts of all become
abbrev pub invariant-loop-part : goal.invariant-loop-part
invariant-loop-part l =
    (l.new ++ flat_map (filled l.id) (slice_split is_percent l.rest)
    ≡ l.fn.new ++ flat_map (filled l.id) (slice_split is_percent l.fn.rest))
    × shadow (Utf8 l.rest)

abbrev pub decreases-loop-part : goal.decreases-loop-part
decreases-loop-part l = length l.rest
