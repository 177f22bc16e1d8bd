use Rattle.cd_value.proofs.Cuts.{parts_at_first}
use Rattle.cd_value.proofs.identifier.at_slash.Goals as goal
use Rattle.cd_value.specs.Identifier.{is_slash}
use Rattle.std.proofs.Common.{lit<}

pub returns : goal.returns
returns c = parts_at_first is_slash c.args.text.now c.split_once.result (c.split_once.ensures.byte (lit< tt) (λ w o h. h))
