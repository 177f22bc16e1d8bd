use Rattle.cd_registry.proofs.Places.{first_up}
use Rattle.cd_registry.proofs.flags.Flags.first.Goals as goal
use Rattle.cd_registry.specs.Flags.{FlagList}
use Rattle.memchr.specs.Find.{is_byte}
use Rattle.std.proofs.Common.{ap, ◌∙◌}
use Rattle.std.specs.List.{position}

pub returns : goal.returns
returns c =
    first_up (is_byte 1) c.self.inside.bytes.items c.memchr.result (rw c.deref.ensures.value at c.memchr.ensures)
    ∙ ap (λ (list : FlagList). position (λ up. up) list.flags) c.self.view_is
