use Rattle.cd_pattern.specs.Fields.{field_of}
use Rattle.cd_target.proofs.rewriting.replaced_text.Given as goal
use Rattle.cd_target.specs.Targets.{replaced_on}
use Rattle.std.proofs.Common.{take, ◌≡◌}
use Rattle.std.specs.List.{fold}

-- the text is the field after the options so far
abbrev pub invariant-loop-option : goal.invariant-loop-option
invariant-loop-option l = l.text ≡ fold (replaced_on l.field) (field_of l.field l.id) (take l.option-index l.options)
