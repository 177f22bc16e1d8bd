-- The settings of no item.
use Rattle.cd_chain.specs.Tables.{jump_table, looped}
use Rattle.cd_globals.specs.Globals.{default_globals}
use Rattle.cd_globals.specs.declared.Globals.{Globals}
use Rattle.cd_settings.specs.Settings.{settings_of}
use Rattle.cd_settings.specs.Tables.{after_all}
use Rattle.cd_settings.specs.TopLevel.{start}
use Rattle.cd_settings.specs.declared.fault.SettingsFault.{SettingsFault}
use Rattle.cd_settings.specs.declared.settings.Settings.{Settings}
use Rattle.std.proofs.Common.{Err, Ok, Result, [], ap, refl, sym, ◌≡◌}
use Rattle.std.specs.Result.{IsOk}

abbrev globals_in : Result Settings SettingsFault → Globals
globals_in (Ok found) = found.globals
globals_in (Err fault) = default_globals

pub default_settings : (found : Settings) → settings_of [] ≡ Ok found → found.globals ≡ default_globals
unfolding after_all start looped jump_table
default_settings found is = sym (ap globals_in is)

pub settings_known : IsOk (settings_of [])
unfolding after_all start looped jump_table
settings_known = refl
