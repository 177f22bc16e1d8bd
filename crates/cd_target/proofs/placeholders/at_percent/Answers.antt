use Rattle.cd_target.proofs.Parts.{parts_at}
use Rattle.cd_target.proofs.placeholders.at_percent.Goals as goal
use Rattle.cd_target.specs.Placeholders.{is_percent}
use Rattle.std.proofs.Common.{lit<}

pub returns : goal.returns
returns c = parts_at is_percent c.args.text.now c.split_once.result (c.split_once.ensures.byte (lit< tt) (λ w o h. h))
