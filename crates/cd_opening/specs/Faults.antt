-- What the faults of the readers are here: want of memory, and a file that couldn't be read, are none of a text.
use Rattle.cd_conf.specs.declared.fault.ConfFault.{ConfFault}
use Rattle.cd_conf.specs.declared.fault.ConfKind.TheVariants as conf
use Rattle.cd_conf.specs.declared.fault.ConfKind.{ConfKind}
use Rattle.cd_opening.specs.declared.fault.OpeningFault.TheVariants as faults
use Rattle.cd_opening.specs.declared.fault.OpeningFault.{OpeningFault}
use Rattle.cd_settings.specs.declared.fault.SettingsFault.{SettingsFault}
use Rattle.cd_settings.specs.declared.fault.SettingsKind.TheVariants as settings
use Rattle.cd_settings.specs.declared.fault.SettingsKind.{SettingsKind}
use Rattle.cd_types.specs.declared.fault.TypesFault.{TypesFault}
use Rattle.cd_types.specs.declared.fault.TypesKind.TheVariants as types
use Rattle.cd_types.specs.declared.fault.TypesKind.{TypesKind}
use Rattle.std.specs.Prelude.{List, ℕ}

abbrev pub of_conf_kind : List ℕ → ConfFault → ConfKind → OpeningFault
of_conf_kind path fault conf.ReadFault = faults.Read path
of_conf_kind path fault conf.Memory = faults.Memory
of_conf_kind path fault _ = faults.Conf fault

abbrev pub of_conf : List ℕ → ConfFault → OpeningFault
of_conf path fault = of_conf_kind path fault fault.kind

abbrev pub of_types_kind : List ℕ → TypesFault → TypesKind → OpeningFault
of_types_kind path fault types.ReadFault = faults.Read path
of_types_kind path fault types.Memory = faults.Memory
of_types_kind path fault _ = faults.Types path fault

abbrev pub of_types : List ℕ → TypesFault → OpeningFault
of_types path fault = of_types_kind path fault fault.kind

abbrev pub of_settings_kind : SettingsFault → SettingsKind → OpeningFault
of_settings_kind fault settings.Memory = faults.Memory
of_settings_kind fault _ = faults.Settings fault

abbrev pub of_settings : SettingsFault → OpeningFault
of_settings fault = of_settings_kind fault fault.kind
