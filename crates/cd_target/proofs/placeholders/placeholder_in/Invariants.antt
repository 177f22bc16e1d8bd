use Rattle.cd_target.proofs.placeholders.placeholder_in.Given as goal
use Rattle.cd_target.specs.Placeholders.{begins_with, field_at}
use Rattle.std.proofs.Common.{drop, ◌≡◌}
use Rattle.std.specs.List.{find}

-- the field is among those to come
abbrev pub invariant-loop-field : goal.invariant-loop-field
invariant-loop-field l = find (begins_with l.part) (drop l.field-index l.field-items) ≡ field_at l.part
