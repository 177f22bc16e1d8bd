-- The settings that are in force in a run are within their bounds, and its shelf can be loaded.
use Rattle.cd_chain.specs.Tables.{jump_table, looped}
use Rattle.cd_core.specs.Seen.{CoreSeen}
use Rattle.cd_core.specs.Stands.{Stands}
use Rattle.cd_io.specs.World.{FileTells}
use Rattle.cd_opening.specs.declared.opening.Opened.{Opened}
use Rattle.cd_registry.specs.declared.plug.PlugTells.{PlugTells}
use Rattle.cd_serve.proofs.Loadable.{shelf_loadable}
use Rattle.cd_serve.specs.Shelf.{CanBeLoaded, names_on, on_shelf}
use Rattle.cd_serve.specs.Started.{FilesComeTo, loaded_of, opening_of}
use Rattle.cd_serve.specs.Working.Loading.{IsReady, Runs, plugs_loaded, with_blocks}
use Rattle.cd_serve.specs.declared.places.ReadyOf.{ReadyOf}
use Rattle.cd_serve.specs.declared.shelf.ShelvedOf.{ShelvedOf}
use Rattle.cd_serve.specs.declared.shelf.ShelvedProbeOf.{ShelvedProbeOf}
use Rattle.cd_settings.proofs.BoundedSettings.{accepted_are_bounded}
use Rattle.cd_settings.specs.Bounds.{AreBounded}
use Rattle.cd_settings.specs.Settings.{settings_of}
use Rattle.cd_settings.specs.Tables.{after_all}
use Rattle.cd_settings.specs.TopLevel.{start}
use Rattle.cd_settings.specs.declared.blocks.Block.{Block}
use Rattle.cd_settings.specs.declared.fault.SettingsFault.{SettingsFault}
use Rattle.cd_settings.specs.declared.settings.Settings.{Settings}
use Rattle.cd_conf.specs.declared.item.Item.{Item}
use Rattle.cd_transcript.specs.LineRuns.{OnShelf}
use Rattle.std.proofs.Common.{Err, IfOk, List, None, Ok, Option, Result, Some, [], ap, refl, subst, sym, ℕ, ◌≡◌}

bounded : (items : List Item) (settings : Settings) → settings_of items ≡ Ok settings → AreBounded settings
bounded items settings is = let B : Result Settings SettingsFault → Type 0 = λ r. IfOk r AreBounded in subst B is (accepted_are_bounded items)

pub settings_bounded : (file : Option (List ℕ)) (files : Option (List FileTells)) (found : Opened) → FilesComeTo file files (Ok found) → AreBounded found.settings
settings_bounded None files found is = bounded [] found.settings is.settings
settings_bounded (Some path) files found is = bounded found.items found.settings is.settings

abbrev blocks_in : Result Settings SettingsFault → List Block
blocks_in (Ok settings) = settings.blocks
blocks_in (Err fault) = []

-- without a file no plug-in has a block
pub none_blocked : (file : Option (List ℕ)) (files : Option (List FileTells)) (found : Opened) → FilesComeTo file files (Ok found) → file ≡ None → found.settings.blocks ≡ []
unfolding after_all start looped jump_table
none_blocked None files found is none = ap blocks_in (sym is.settings)
none_blocked (Some path) files found is none = absurd (cc)

-- the plug-ins that are loaded, each with its block
pub loaded_so : (file : Option (List ℕ)) (settings : Settings) (shelf : List OnShelf) → (file ≡ None → settings.blocks ≡ [])
    → loaded_of file settings shelf ≡ with_blocks settings.blocks (plugs_loaded file settings.loaded shelf)
loaded_so None settings shelf none = ap (λ (blocks : List Block). with_blocks blocks shelf) (sym (none refl))
loaded_so (Some path) settings shelf none = refl

-- a shelf that was made ready can be registered in a new core
pub can_run : {P Q : Type 0} (tells : P → PlugTells) (file : Option (List ℕ)) (found : Opened) (plugs : List (ShelvedOf P)) (probes : List (ShelvedProbeOf Q)) (core : CoreSeen) (ready : ReadyOf P)
    → CanBeLoaded (names_on plugs probes) → AreBounded found.settings → Stands (opening_of found) core []
    → IsReady tells (on_shelf tells plugs) (plugs_loaded file found.settings.loaded (on_shelf tells plugs)) ready
    → Runs (opening_of found) (on_shelf tells plugs) (plugs_loaded file found.settings.loaded (on_shelf tells plugs)) core tells ready
can_run tells file found plugs probes core ready can are_bounded stands is_ready = record {
  stands = stands;
  loadable = shelf_loadable tells plugs probes file found.settings.loaded can are_bounded.plugins.once;
  is_ready = is_ready;
}
