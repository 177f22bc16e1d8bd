-- The settings that items make.
use Rattle.cd_chain.specs.Chains.{number_of}
use Rattle.cd_chain.specs.declared.data.Chain.{Chain}
use Rattle.cd_conf.specs.declared.item.Item.{Item}
use Rattle.cd_reading.specs.First.{◌>>=◌}
use Rattle.cd_settings.specs.ChainLines.{accepted}
use Rattle.cd_settings.specs.Tables.{after_all, by_table_or}
use Rattle.cd_settings.specs.TopLevel.{beginning, chain_sections, is_among, within_top}
use Rattle.cd_settings.specs.declared.configuration.Configuration.{Configuration}
use Rattle.cd_settings.specs.declared.fault.SettingsFault.{SettingsFault}
use Rattle.cd_settings.specs.declared.fault.SettingsKind.TheVariants.{LimitsCrossed}
use Rattle.cd_settings.specs.declared.settings.Settings.{Settings}
use Rattle.cd_settings.specs.declared.top_level.Low.{Low}
use Rattle.cd_settings.specs.declared.top_level.TopLevel.{TopLevel}
use Rattle.std.specs.Prelude.{Err, List, None, Ok, Option, Result, Some, codes, if◌then◌else◌, nat_lt, ℕ, ◌&&◌, ◌/◌}

-- what all items set
abbrev pub configuration_of : List Item → Result Configuration SettingsFault
configuration_of items = after_all (by_table_or within_top chain_sections) beginning items

-- the lower limit of the write queue: half the upper one where no option names it; one that is above
-- the upper one, where there is an upper one, is a fault at its own line
abbrev pub limit_of : ℕ → Option Low → Result ℕ SettingsFault
limit_of high None = Ok (high / 2)
limit_of high (Some low) =
    if nat_lt 0 high && nat_lt high low.count then Err (record { kind = LimitsCrossed; line = low.line })
    else Ok low.count

abbrev pub lower_limit : TopLevel → Result ℕ SettingsFault
lower_limit t = limit_of t.globals.high t.low

-- the socket is listened on where `unixsock` is loaded; the chains before and behind the cache are
-- those of the names that were given, where there are such chains
abbrev pub settings : TopLevel → ℕ → List Chain → Settings
settings t low chains = record {
  globals = record t.globals { low = low };
  loaded = t.loaded;
  blocks = t.blocks;
  chains = chains;
  pre = number_of t.pre chains;
  post = number_of t.post chains;
  socket = if is_among (codes "unixsock") t.loaded then Some t.unixsock.path else None;
  listens = t.network.listens;
}

-- limits that cross come before the faults of chains
abbrev pub finished : List Item → Configuration → Result Settings SettingsFault
finished items c =
    lower_limit c.top >>= λ low. accepted items c.chains >>= λ chains. Ok (settings c.top low chains)

-- the settings of items, or their first fault
abbrev pub settings_of : List Item → Result Settings SettingsFault
settings_of items = configuration_of items >>= finished items
