use Rattle.cd_sock.proofs.Cuts.{around_byte, one_part, parts_behind}
use Rattle.cd_sock.proofs.values.at_colon.Goals as goal
use Rattle.cd_sock.specs.Values.{is_colon}
use Rattle.cd_text.proofs.Places.{none_place}
use Rattle.std.proofs.Common.{ap, lit<, sym, ◌∙◌}
use Rattle.std.specs.List.{position}

pub range-requires-clause-end_boundary : goal.range-requires-clause-end_boundary
range-requires-clause-end_boundary c =
    (around_byte 58 c.args.text.now c.in-Some.place (lit< tt) c.utf8.text (c.in-Some.ensures ∙ ap (position is_colon) c.as_bytes.ensures.value)).0

pub range_from-requires : goal.range_from-requires
range_from-requires c = λ _.
    (around_byte 58 c.args.text.now c.in-Some.place (lit< tt) c.utf8.text (c.in-Some.ensures ∙ ap (position is_colon) c.as_bytes.ensures.value)).1

pub returns-in-Some-clause-texts : goal.returns-in-Some-clause-texts
returns-in-Some-clause-texts c =
    rw (c.range.ensures.value, c.range_from.ensures.value) (parts_behind is_colon c.args.text.now c.in-Some.place (c.in-Some.ensures ∙ ap (position is_colon) c.as_bytes.ensures.value))

pub returns-in-None-clause-texts : goal.returns-in-None-clause-texts
returns-in-None-clause-texts c =
    one_part is_colon c.args.text.now (sym (none_place is_colon c.args.text.now (c.in-None.ensures ∙ ap (position is_colon) c.as_bytes.ensures.value)))
