-- The top level of a configuration.
use Rattle.cd_conf.specs.Canonical.{items_text}
use Rattle.cd_conf.specs.Parts.{children_of, line_of}
use Rattle.cd_conf.specs.declared.item.Item.{Item}
use Rattle.cd_globals.specs.Globals.{default_globals}
use Rattle.cd_reading.specs.First.{◌>>=◌}
use Rattle.cd_settings.specs.ChainOptions.{chain_of}
use Rattle.cd_settings.specs.Faults.{at}
use Rattle.cd_settings.specs.Forms.{off, one, text, texts, whole}
use Rattle.cd_settings.specs.GlobalOptions.{global_options}
use Rattle.cd_settings.specs.PluginOptions.{network_options, unixsock_options}
use Rattle.cd_settings.specs.Tables.{Row, after_all, by_table, by_table_or, ignored, option, option_of, section}
use Rattle.cd_settings.specs.declared.blocks.Block.{Block}
use Rattle.cd_settings.specs.declared.fault.SettingsFault.{SettingsFault}
use Rattle.cd_settings.specs.declared.fault.SettingsKind.TheVariants.{UnknownOption}
use Rattle.cd_settings.specs.declared.configuration.Configuration.{Configuration}
use Rattle.cd_settings.specs.declared.top_level.TopLevel.{TopLevel}
use Rattle.std.specs.List.{list_any}
use Rattle.std.specs.Prelude.{Bool, Err, List, None, Ok, Result, Some, [], codes, if◌then◌else◌, not, ℕ, ◌++◌, ◌∷◌}
use Rattle.std.specs.Str.{bytes_eq}

-- before the first item
unfoldable pub start : TopLevel
start = record {
  globals = default_globals;
  low = None;
  loaded = [];
  blocks = [];
  unixsock = record { path = codes "/var/run/collectd-unixsock" };
  network = record { listens = [] };
  pre = codes "PreCache";
  post = codes "PostCache";
}

abbrev pub is_among : List ℕ → List (List ℕ) → Bool
is_among name names = list_any (bytes_eq name) names

-- a name counts once
abbrev pub with_name : List (List ℕ) → List ℕ → List (List ℕ)
with_name names name = if is_among name names then names else names ++ name ∷ []

-- a text comes behind what its plug-in has
unfoldable pub with_block : List Block → List ℕ → List ℕ → List Block
with_block [] name text = record { name = name; text = text } ∷ []
with_block (block ∷ blocks) name text =
    if bytes_eq block.name name then record block { text = block.text ++ text } ∷ blocks
    else block ∷ with_block blocks name text

-- what blocks of the daemon's own plug-ins set
abbrev pub with_unixsock : TopLevel → List Item → Result TopLevel SettingsFault
with_unixsock t items =
    after_all (by_table unixsock_options) t.unixsock items >>= λ u. Ok (record t { unixsock = u })

abbrev pub with_network : TopLevel → List Item → Result TopLevel SettingsFault
with_network t items =
    after_all (by_table network_options) t.network items >>= λ n. Ok (record t { network = n })

-- a block: ignored where its plug-in wasn't loaded before it; read where it is of the daemon itself;
-- unknown where it is of thresholds; and otherwise the plug-in gets the canonical text of its items
abbrev pub plugin : TopLevel → List ℕ → Item → Result TopLevel SettingsFault
plugin t name item =
    if not (is_among name t.loaded) then Ok t
    else (if bytes_eq name (codes "unixsock") then with_unixsock t (children_of item)
    else (if bytes_eq name (codes "network") then with_network t (children_of item)
    else (if bytes_eq name (codes "threshold") then Err (at UnknownOption item)
    else Ok (record t { blocks = with_block t.blocks name (items_text (children_of item)) }))))

abbrev pub with_low : TopLevel → ℕ → Item → Result TopLevel SettingsFault
with_low t n item = Ok (record t { low = Some (record { count = n; line = line_of item }) })

abbrev pub within_globals : TopLevel → Item → Result TopLevel SettingsFault
within_globals t item = by_table global_options t.globals item >>= λ g. Ok (record t { globals = g })

-- what stands there beside the options of the whole daemon and the chains
abbrev pub top_options : List (Row TopLevel)
top_options =
    option "LoadPlugin" text (λ t x. record t { loaded = with_name t.loaded x })
    ∷ option_of "WriteQueueLimitLow" (whole 0 1000000) with_low
    ∷ section "Plugin" text plugin
    ∷ ignored "TypesDB" texts
    ∷ option "PreCacheChain" text (λ t x. record t { pre = x })
    ∷ option "PostCacheChain" text (λ t x. record t { post = x })
    ∷ ignored "BaseDir" one
    ∷ ignored "PluginDir" one
    ∷ ignored "PIDFile" one
    ∷ ignored "FQDNLookup" one
    ∷ ignored "AutoLoadPlugin" off
    ∷ ignored "CollectInternalStats" off
    ∷ []

-- ---- chains

abbrev pub with_chain : Configuration → List ℕ → Item → Result Configuration SettingsFault
with_chain c name item =
    chain_of name item >>= λ chain. Ok (record c { chains = c.chains ++ chain ∷ [] })

abbrev pub chain_sections : List (Row Configuration)
chain_sections = section "Chain" text with_chain ∷ []

abbrev pub within_top : Configuration → Item → Result Configuration SettingsFault
within_top c item =
    by_table_or within_globals top_options c.top item >>= λ t. Ok (record c { top = t })

abbrev pub beginning : Configuration
beginning = record { top = start; chains = [] }
