-- The faults of items, and their lines.
use Rattle.cd_conf.specs.Parts.{line_of}
use Rattle.cd_conf.specs.declared.item.Item.{Item}
use Rattle.cd_settings.specs.declared.fault.SettingsFault.{SettingsFault}
use Rattle.cd_settings.specs.declared.fault.SettingsKind.TheVariants.{Memory}
use Rattle.cd_settings.specs.declared.fault.SettingsKind.{SettingsKind}
use Rattle.std.specs.Prelude.{None, Option, Some, if◌then◌else◌, ◌==◌}

-- a fault at the line of an item
abbrev pub at : SettingsKind → Item → SettingsFault
at kind item = record { kind = kind; line = line_of item }

abbrev pub unless_memory : SettingsKind → SettingsFault → Option SettingsFault
unless_memory Memory fault = if fault.line == 0 then None else Some fault
unless_memory _ fault = Some fault

-- the fault of an error, and none for want of memory, which has the line 0
abbrev pub settings_fault : SettingsFault → Option SettingsFault
settings_fault fault = unless_memory fault.kind fault
