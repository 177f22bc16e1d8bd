use Rattle.std.proofs.Common.{List, subst, sym}
use Rattle.cd_conf.specs.declared.item.Item.{Item}
use Rattle.cd_reading.specs.Gives.{Gives, Refuses}
use Rattle.cd_settings.proofs.FreeFaults.{given_after, told_as}
use Rattle.cd_settings.proofs.settings.Settings.from_items.Goals as goal
use Rattle.cd_settings.specs.BigPatterns.{told_of}
use Rattle.cd_settings.specs.Faults.{settings_fault}
use Rattle.cd_settings.specs.Settings.{configuration_of, finished, settings_of}
use Rattle.cd_settings.specs.declared.fault.SettingsFault.{SettingsFault}
use Rattle.cd_settings.specs.declared.settings.Settings.{Settings}

pub returns-in-Ok : goal.returns-in-Ok
returns-in-Ok c =
    let items : List Item = c.args.items.now in
    given_after items (configuration_of items) c.in-Ok.configuration (finished items) c.finish.result c.in-Ok.ensures
    (subst (λ (is : List Item). Gives (λ (s : Settings). s) settings_fault c.finish.result (finished is c.in-Ok.configuration)) c.as_slice.ensures c.finish.ensures)

pub returns-in-Err : goal.returns-in-Err
returns-in-Err c =
    let items : List Item = c.args.items.now in
    subst (λ (x : SettingsFault). Refuses (told_of items x) (settings_of items)) (sym c.as_settings_fault.ensures)
    (told_as items c.in-Err.fault (configuration_of items) (finished items) c.in-Err.ensures)
