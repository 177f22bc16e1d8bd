use Rattle.cd_serve.proofs.Replying.{asked_all}
use Rattle.cd_serve.proofs.daemon.Daemon.listed.Goals as goal
use Rattle.cd_value.specs.Rows.{as_rows}
use Rattle.std.proofs.Common.{ap}

pub returns : goal.returns
returns g c = asked_all c.print_rows.result _ _ (g.O.Outside.outside_core c.args.self.now.outside) (ap (λ rows. as_rows rows) c.as_slice.ensures.value) c.in_ok-rows.ensures c.print_rows.ensures.text
