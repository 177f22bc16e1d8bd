use Rattle.std.proofs.Common.{subst, sym}
use Rattle.cd_reading.specs.Gives.{Refuses}
use Rattle.cd_settings.proofs.ChainFaults.{is_accepted, is_refused}
use Rattle.cd_settings.proofs.chain_lines.accepted.Goals as goal
use Rattle.cd_settings.specs.ChainLines.{accepted}
use Rattle.cd_settings.specs.Faults.{settings_fault}
use Rattle.cd_settings.specs.declared.fault.SettingsFault.{SettingsFault}

pub returns-in-Ok : goal.returns-in-Ok
returns-in-Ok c = is_accepted c.args.items.now c.args.chains c.in-Ok.table c.in-Ok.ensures.ok c.in-Ok.ensures.accepted

pub returns-in-Err : goal.returns-in-Err
returns-in-Err c =
    subst (λ (x : SettingsFault). Refuses (settings_fault x) (accepted c.args.items.now c.args.chains)) (sym c.chain_fault.ensures)
    (is_refused c.args.items.now c.args.chains c.in-Err.refused.why c.in-Err.ensures.cause)
