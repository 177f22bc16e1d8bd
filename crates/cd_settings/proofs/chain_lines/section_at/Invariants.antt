use Rattle.std.proofs.Common.{drop, ◌≡◌}
use Rattle.std.specs.List.{filter}
use Rattle.std.specs.Prelude.{slice_get}
use Rattle.cd_settings.specs.Tables.{is_section_named}
use Rattle.cd_settings.proofs.chain_lines.section_at.Given as goal

abbrev pub invariant-loop-item : goal.invariant-loop-item
invariant-loop-item l = slice_get (filter (is_section_named l.name) (drop l.item-index l.items)) l.left ≡ slice_get (filter (is_section_named l.name) l.items) l.number
