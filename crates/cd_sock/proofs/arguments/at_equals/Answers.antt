use Rattle.cd_sock.proofs.Cuts.{around_byte}
use Rattle.cd_sock.proofs.arguments.at_equals.Goals as goal
use Rattle.cd_sock.specs.Arguments.{is_equals}
use Rattle.std.proofs.Common.{ap, lit<, ◌∙◌}
use Rattle.std.specs.List.{position}

pub range-requires-clause-end_boundary : goal.range-requires-clause-end_boundary
range-requires-clause-end_boundary c =
    (around_byte 61 c.args.text.now c.in-Some.place (lit< tt) c.utf8.text (c.in-Some.ensures ∙ ap (position is_equals) c.as_bytes.ensures.value)).0

pub range_from-requires : goal.range_from-requires
range_from-requires c = λ _.
    (around_byte 61 c.args.text.now c.in-Some.place (lit< tt) c.utf8.text (c.in-Some.ensures ∙ ap (position is_equals) c.as_bytes.ensures.value)).1
