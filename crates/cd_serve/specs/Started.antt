-- What is in force in a run, by what the files of its command come to.
use Rattle.cd_command.specs.Command.{command}
use Rattle.cd_command.specs.declared.command.Command.{Command}
use Rattle.cd_conf.specs.declared.item.Item.{Item}
use Rattle.cd_daemon.specs.declared.Opening.{Opening}
use Rattle.cd_daemon.specs.declared.Rules.{Rules}
use Rattle.cd_io.specs.Causes.{Counts, Rose}
use Rattle.cd_io.specs.World.{FileTells, WorldTells}
use Rattle.cd_opening.specs.File.{HasConfFault}
use Rattle.cd_opening.specs.Opened.{ComesTo, MayHaveBigPattern, HasSettingsFault, HasTypesFault, IsDefault}
use Rattle.cd_opening.specs.declared.fault.OpeningFault.TheVariants as faults
use Rattle.cd_opening.specs.declared.fault.OpeningFault.{OpeningFault}
use Rattle.cd_opening.specs.declared.opening.Opened.{Opened}
use Rattle.cd_serve.specs.declared.end.End.TheVariants as ends
use Rattle.cd_serve.specs.declared.end.End.{End}
use Rattle.cd_settings.specs.Settings.{settings_of}
use Rattle.cd_settings.specs.declared.blocks.Block.{Block}
use Rattle.cd_settings.specs.declared.fault.SettingsFault.{SettingsFault}
use Rattle.cd_settings.specs.declared.settings.Settings.{Settings}
use Rattle.cd_transcript.specs.LineRuns.{Loaded, OnShelf}
use Rattle.std.specs.List.{filter, find, flat_map}
use Rattle.std.specs.Option.{option_map_or}
use Rattle.std.specs.Prelude.{Bool, Err, List, None, Ok, Option, Result, Some, [], false, map, true, ℕ, ◌≡◌}
use Rattle.std.specs.Str.{bytes_eq}

-- What the file of a command comes to, with the types files that it names; without one it is what is in force without a
-- configuration.
abbrev pub FilesComeTo : Option (List ℕ) → Option (List FileTells) → Result Opened OpeningFault → Type 0
FilesComeTo (Some path) files read = ComesTo path files read
FilesComeTo None files (Ok found) = IsDefault found
FilesComeTo None files (Err fault) = fault ≡ faults.Memory

-- the filter chains
abbrev pub rules_of : Settings → Rules
rules_of settings = record { chains = settings.chains; pre = settings.pre; post = settings.post }

-- the types, the settings of the whole daemon, and the filter chains
abbrev pub opening_of : Opened → Opening
opening_of found =
    record { types = found.types; globals = found.settings.globals; rules = rules_of found.settings }

-- the block of a plug-in in the configuration, and no text where it has none
abbrev pub config_of : List Block → List ℕ → List ℕ
config_of blocks name = option_map_or (λ block. block.text) (find (λ block. bytes_eq name block.name) blocks) []

abbrev pub with_block : List Block → OnShelf → Loaded
with_block blocks plug = record { plug = plug; config = config_of blocks plug.name }

-- those of a shelf that have a name
abbrev pub named_on : List OnShelf → List ℕ → List OnShelf
named_on shelf name = filter (λ plug. bytes_eq plug.name name) shelf

-- The plug-ins of a shelf that are loaded, each with its block, in the order in which they are: without a file all of
-- them, with one those that it loads.
abbrev pub loaded_of : Option (List ℕ) → Settings → List OnShelf → List Loaded
loaded_of None settings shelf = map (with_block []) shelf
loaded_of (Some path) settings shelf = map (with_block settings.blocks) (flat_map (named_on shelf) settings.loaded)

module _ (words : List (List ℕ)) (files : Option (List FileTells)) where
  -- the words are a command, and its files have this first fault
  pub record HasFault (fault : OpeningFault) : Type 0 where
    pub of : Command
    pub is : command words ≡ Some of
    pub comes : FilesComeTo of.file files (Err fault)

  -- why a run ends so before its command is run; want of memory has no cause
  abbrev pub IsRefusedAt : End → Type 0
  IsRefusedAt ends.Usage = command words ≡ None
  IsRefusedAt (ends.ConfFault fault) = HasFault (faults.Conf fault)
  IsRefusedAt (ends.TypesFault path fault) = HasFault (faults.Types path fault)
  IsRefusedAt (ends.SettingsFault fault) = HasFault (faults.Settings fault)
  IsRefusedAt (ends.OpenFault path) = HasFault (faults.Open path)
  IsRefusedAt (ends.ReadFault path) = HasFault (faults.Read path)
  IsRefusedAt ends.Memory = Unit {0}
  IsRefusedAt _ = ⊥

-- the end of a run whose files have this first fault
abbrev pub end_at : OpeningFault → End
end_at (faults.Conf fault) = ends.ConfFault fault
end_at (faults.Types path fault) = ends.TypesFault path fault
end_at (faults.Settings fault) = ends.SettingsFault fault
end_at (faults.Open path) = ends.OpenFault path
end_at (faults.Read path) = ends.ReadFault path
end_at faults.Memory = ends.Memory

-- ---- when files may be called ones that couldn't be opened, or couldn't be read

abbrev pub is_open_fault : End → Bool
is_open_fault (ends.OpenFault path) = true
is_open_fault _ = false

abbrev pub is_read_fault : End → Bool
is_read_fault (ends.ReadFault path) = true
is_read_fault _ = false

-- The world's count of faults rose exactly where the end is that a file couldn't be opened, and its count of reading
-- faults exactly where it is that one couldn't be read.
pub record HasTried (end : End) (before after : WorldTells) : Type 0 where
  pub faults : Counts (is_open_fault end) before.faults after.faults
  pub reading_faults : Counts (is_read_fault end) before.reading_faults after.reading_faults

-- ---- which end has to come

-- no count of the world rose
pub record NoneFailed (before after : WorldTells) : Type 0 where
  pub faults : Rose before.faults after.faults → ⊥
  pub reading_faults : Rose before.reading_faults after.reading_faults → ⊥

-- the world tells files that are accepted, or none is named
abbrev pub AreAccepted : Option (List ℕ) → Option (List FileTells) → Type 0
AreAccepted None files = Unit {0}
AreAccepted (Some path) None = ⊥
AreAccepted (Some path) (Some files) = (found : Opened) × ComesTo path (Some files) (Ok found)

-- the items of the file have this first fault, its types files none
pub record HasFirst (path : List ℕ) (files : List FileTells) (fault : SettingsFault) : Type 0 where
  pub refused : HasSettingsFault path (Some files) fault
  pub first : settings_of refused.items ≡ Err fault

-- the world tells files whose texts have this first fault
abbrev pub AreRefused : Option (List ℕ) → Option (List FileTells) → OpeningFault → Type 0
AreRefused (Some path) (Some files) (faults.Conf fault) = HasConfFault path (Some files) fault
AreRefused (Some path) (Some files) (faults.Types at fault) = HasTypesFault path (Some files) (faults.Types at fault)
AreRefused (Some path) (Some files) (faults.Settings fault) = HasFirst path files fault
AreRefused _ _ _ = ⊥

-- the ends that no text decides
abbrev pub IsFree : Option (List ℕ) → Option (List FileTells) → End → Type 0
IsFree file files ends.Memory = Unit {0}
IsFree (Some path) files (ends.SettingsFault fault) = MayHaveBigPattern path files fault
IsFree file files _ = ⊥
