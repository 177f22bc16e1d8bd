use Rattle.cd_value.proofs.Fronts.{front_is}
use Rattle.cd_value.proofs.field.front_len.Goals as goal

pub returns-clause-front : goal.returns-clause-front
returns-clause-front c =
    front_is c.args.text.now c.args.limit c.floor_char_boundary.result c.floor_char_boundary.ensures.bound c.floor_char_boundary.ensures.boundary c.floor_char_boundary.ensures.nearest
