-- The bounds that accepted settings keep, and how their plug-ins, blocks and socket agree.
use Rattle.cd_chain.specs.Tables.{fault_of}
use Rattle.cd_globals.specs.declared.Globals.{Globals}
use Rattle.cd_settings.specs.Forms.{is_host}
use Rattle.cd_settings.specs.Settings.{settings_of}
use Rattle.cd_settings.specs.TopLevel.{is_among}
use Rattle.cd_settings.specs.declared.blocks.Block.{Block}
use Rattle.cd_settings.specs.declared.plugins.Listen.{Listen}
use Rattle.cd_settings.specs.declared.plugins.TheConstants.{LISTENS_LIMIT}
use Rattle.cd_settings.specs.declared.settings.Settings.{Settings}
use Rattle.cd_conf.specs.declared.item.Item.{Item}
use Rattle.cd_value.specs.declared.numbers.TheConstants.{SECOND}
use Rattle.std.specs.List.{IsDistinct}
use Rattle.std.specs.Prelude.{All, IfOk, IfSome, IsTrue, List, None, codes, is_some, length, map, ℕ, ◌*◌, ◌<◌, ◌^◌, ◌≡◌, ◌≤◌}
use Rattle.std.specs.Str.{bytes_eq}

abbrev pub IsWithin : ℕ → ℕ → ℕ → Type 0
IsWithin least most n = (least ≤ n) × (n ≤ most)

-- above 0 and at most 10^9 seconds
abbrev pub IsInterval : ℕ → Type 0
IsInterval time = IsWithin 1 (10 ^ 9 * SECOND) time

pub record AreGlobals (g : Globals) : Type 0 where
  pub hostname : IsTrue (is_host g.hostname)
  pub interval : IsInterval g.interval
  pub longest : IsInterval g.longest
  pub timeout : IsWithin 1 1000 g.timeout
  pub read_threads : IsWithin 1 64 g.read_threads
  pub write_threads : IsWithin 1 64 g.write_threads
  pub high : g.high ≤ 1000000

-- the lower limit of the write queue isn't above the upper one, where there is an upper one
pub record AreLimits (high low : ℕ) : Type 0 where
  pub most : low ≤ 1000000
  pub not_crossed : 0 < high → low ≤ high

pub record AreListens (listens : List Listen) : Type 0 where
  pub few : length listens ≤ LISTENS_LIMIT
  pub ports : All (λ listen. IsWithin 1 65535 listen.port) listens

abbrev pub block_names : List Block → List (List ℕ)
block_names blocks = map (λ block. block.name) blocks

-- each is loaded once, and has one block at most; what has a block is loaded
pub record ArePlugins (loaded : List (List ℕ)) (blocks : List Block) : Type 0 where
  pub once : IsDistinct bytes_eq loaded
  pub one_block : IsDistinct bytes_eq (block_names blocks)
  pub blocks_loaded : All (λ name. IsTrue (is_among name loaded)) (block_names blocks)

pub record AreBounded (s : Settings) : Type 0 where
  pub globals : AreGlobals s.globals
  pub limits : AreLimits s.globals.high s.globals.low
  pub listens : AreListens s.listens
  pub plugins : ArePlugins s.loaded s.blocks
  pub chains : fault_of s.chains ≡ None
  pub pre : IfSome s.pre (λ number. number < length s.chains)
  pub post : IfSome s.post (λ number. number < length s.chains)
  pub socket : is_some s.socket ≡ is_among (codes "unixsock") s.loaded

-- whatever the items, settings that are accepted are within the bounds; their chains are accepted; there is
-- a socket exactly where `unixsock` is loaded
abbrev pub AcceptedSettingsAreBounded : Type 0
AcceptedSettingsAreBounded = (items : List Item) → IfOk (settings_of items) AreBounded
