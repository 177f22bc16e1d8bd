use Rattle.cd_net.proofs.Fitting.{list_passes}
use Rattle.cd_net.proofs.list.list.Goals as goal
use Rattle.cd_net.specs.Carried.{shown}
use Rattle.std.proofs.Common.{sym}
use Rattle.std.specs.Option.{option_copied}

pub identifier-requires-clause-short : goal.identifier-requires-clause-short
identifier-requires-clause-short c = (list_passes (option_copied c.args.set) (shown c.args.fields.now) c.args.payload.now (sym c.in_default.ensures)).short
