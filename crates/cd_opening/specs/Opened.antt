-- What a configuration file comes to, with the types files that it names.
use Rattle.cd_conf.specs.declared.item.Item.{Item}
use Rattle.cd_globals.specs.Globals.{default_globals}
use Rattle.cd_io.specs.World.{FileTells, after_opening}
use Rattle.cd_opening.specs.File.{HasConfFault, HasItems}
use Rattle.cd_opening.specs.Types.{EndsAt, HasTypes, Reaches, after_openings}
use Rattle.cd_opening.specs.declared.fault.OpeningFault.TheVariants as faults
use Rattle.cd_opening.specs.declared.fault.OpeningFault.{OpeningFault}
use Rattle.cd_opening.specs.declared.opening.Opened.{Opened}
use Rattle.cd_settings.specs.BigPatterns.{MayBeTooBig}
use Rattle.cd_settings.specs.Paths.{paths_of}
use Rattle.cd_settings.specs.Settings.{settings_of}
use Rattle.cd_settings.specs.declared.fault.SettingsFault.{SettingsFault}
use Rattle.cd_types.specs.Types.{builtin}
use Rattle.cd_value.specs.declared.data.DataSet.{DataSet}
use Rattle.std.specs.Option.{option_map}
use Rattle.std.specs.Prelude.{Err, List, Ok, Option, Result, [], ℕ, ◌∷◌, ◌≡◌, ◌⊎◌}

module _ (path : List ℕ) (files : Option (List FileTells)) where
  -- the files that its types files are read from: those behind its own opening
  abbrev pub left : Option (List FileTells)
  left = option_map (after_opening path) files

  -- Its items, the types of the files that they name, or the built-in ones, and the settings that the items make.
  pub record IsOpened (found : Opened) : Type 0 where
    pub items : HasItems path files found.items
    pub types : HasTypes (paths_of found.items) left (Ok found.types)
    pub settings : settings_of found.items ≡ Ok found.settings

  -- the text is a configuration, and a types file that it names has the first fault
  pub record HasTypesFault (fault : OpeningFault) : Type 0 where
    pub items : List Item
    pub read : HasItems path files items
    pub refused : HasTypes (paths_of items) left (Err fault)

  -- so are the types files, and the items have this first fault, or their reading comes to a pattern that may be
  -- too big
  pub record HasSettingsFault (fault : SettingsFault) : Type 0 where
    pub items : List Item
    pub read : HasItems path files items
    pub types : List DataSet
    pub known : HasTypes (paths_of items) left (Ok types)
    pub refused : (settings_of items ≡ Err fault) ⊎ MayBeTooBig items fault

  -- a bad pattern at the line of a pattern to which the reading of the items comes: it may be too big when it is
  -- compiled
  pub record MayHaveBigPattern (fault : SettingsFault) : Type 0 where
    pub items : List Item
    pub read : HasItems path files items
    pub big : MayBeTooBig items fault

  -- the text is a configuration, and the file at `at` is the next types file: those named before it are good
  pub record HasReached (at : List ℕ) : Type 0 where
    pub items : List Item
    pub read : HasItems path files items
    pub reached : Reaches (paths_of items) left at

  -- a file that failed is the configuration file, or the next types file
  abbrev pub IsNext : List ℕ → Type 0
  IsNext at = (at ≡ path) ⊎ HasReached at

  abbrev pub IsRefused : OpeningFault → Type 0
  IsRefused (faults.Conf fault) = HasConfFault path files fault
  IsRefused (faults.Types at fault) = HasTypesFault (faults.Types at fault)
  IsRefused (faults.Settings fault) = HasSettingsFault fault
  IsRefused (faults.Open at) = IsNext at
  IsRefused (faults.Read at) = IsNext at
  IsRefused faults.Memory = Unit {0}

  -- what the files come to, in the order in which they are read: all of it, or the first fault
  abbrev pub ComesTo : Result Opened OpeningFault → Type 0
  ComesTo (Ok found) = IsOpened found
  ComesTo (Err fault) = IsRefused fault

-- what the world has left of its files behind an answer
module _ (path : List ℕ) (files after : Option (List FileTells)) where
  -- the work ends at the types file at `at`; behind the configuration and the types files before it these are opened
  pub record EndsIn (at : List ℕ) (opened : List (List ℕ)) : Type 0 where
    pub items : List Item
    pub read : HasItems path files items
    pub ends : EndsAt (paths_of items) (left path files) after at opened

  -- the work ends behind the types files that the items name
  pub record EndsBehind (items : List Item) : Type 0 where
    pub read : HasItems path files items
    pub left : after ≡ option_map (after_openings (path ∷ paths_of items)) files

  -- the work ends at the configuration file, which is opened or not
  abbrev pub EndsFirst : List ℕ → Option (List FileTells) → Type 0
  EndsFirst at left = (at ≡ path) × (after ≡ left)

  abbrev pub LeavesBy : OpeningFault → Type 0
  LeavesBy (faults.Conf fault) = after ≡ left path files
  LeavesBy (faults.Types at fault) = EndsIn at (at ∷ [])
  LeavesBy (faults.Settings fault) = (items : List Item) × EndsBehind items
  LeavesBy (faults.Open at) = EndsFirst at files ⊎ EndsIn at []
  LeavesBy (faults.Read at) = EndsFirst at (left path files) ⊎ EndsIn at (at ∷ [])
  LeavesBy faults.Memory = Unit {0}

  -- Those behind the openings that were made. Where memory is lacking nothing is said.
  abbrev pub Leaves : Result Opened OpeningFault → Type 0
  Leaves (Ok found) = after ≡ option_map (after_openings (path ∷ paths_of found.items)) files
  Leaves (Err fault) = LeavesBy fault

-- what is in force without a configuration
pub record IsDefault (found : Opened) : Type 0 where
  pub items : found.items ≡ []
  pub types : found.types ≡ builtin
  pub settings : settings_of [] ≡ Ok found.settings
  pub globals : found.settings.globals ≡ default_globals
