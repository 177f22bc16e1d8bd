use Rattle.cd_registry.proofs.flags.Flags.set.Goals as goal
use Rattle.cd_registry.specs.Flags.{FlagList}
use Rattle.std.proofs.Common.{Bool, ap, false, refl, set, true, ◌∙◌, ◌≡◌}
use Rattle.std.proofs.lemmas.List.{map-set}
use Rattle.std.specs.Bool.{◌==◌}
use mir.Val.{bool_byte}

byte_is : (up : Bool) → (bool_byte up == 1) ≡ up
byte_is true = refl
byte_is false = refl

pub returns : goal.returns
returns c =
    map-set (λ byte. byte == 1) c.self.inside.bytes.items c.args.number c.from.result
    ∙ ap (λ (list : FlagList). set list.flags c.args.number (c.from.result == 1)) c.self.view_is
    ∙ ap (λ up. set c.args.self.now.flags c.args.number up) (ap (λ byte. byte == 1) c.from.ensures ∙ byte_is c.args.up)
