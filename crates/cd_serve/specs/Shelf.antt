-- Plug-ins on a shelf, by what they tell.
use Rattle.cd_registry.specs.Faults.{is_reserved}
use Rattle.cd_registry.specs.declared.faults.TheConstants.{LIVE_LIMIT}
use Rattle.cd_registry.specs.declared.kinds.Kinds.{Kinds}
use Rattle.cd_registry.specs.declared.plug.PlugTells.{PlugTells}
use Rattle.cd_serve.specs.declared.checking.ShelfFault.TheVariants.{NameTaken, Reserved, TooMany}
use Rattle.cd_serve.specs.declared.checking.ShelfFault.{ShelfFault}
use Rattle.cd_serve.specs.declared.shelf.ShelvedOf.{ShelvedOf}
use Rattle.cd_serve.specs.declared.shelf.ShelvedProbeOf.{ShelvedProbeOf}
use Rattle.cd_transcript.specs.LineRuns.{OnShelf}
use Rattle.std.specs.List.{IsDistinct, list_any, slice_get}
use Rattle.std.specs.Option.{option_map_or}
use Rattle.std.specs.Prelude.{IsTrue, List, false, length, map, take, ℕ, ◌++◌, ◌<◌, ◌≡◌, ◌≤◌}
use Rattle.std.specs.Str.{bytes_eq}

abbrev pub shown : {P : Type 0} (tells : P → PlugTells) → ShelvedOf P → OnShelf
shown tells plug = record { name = plug.name; kinds = plug.kinds; tells = tells plug.object }

abbrev pub on_shelf : {P : Type 0} (tells : P → PlugTells) → List (ShelvedOf P) → List OnShelf
on_shelf tells shelf = map (shown tells) shelf

abbrev pub names_on : {P Q : Type 0} → List (ShelvedOf P) → List (ShelvedProbeOf Q) → List (List ℕ)
names_on plugs probes = map (λ plug. plug.name) plugs ++ map (λ probe. probe.name) probes

-- The names on the shelves of a run differ, none is one of the daemon's own, and there are at most LIVE_LIMIT.
pub record CanBeLoaded (names : List (List ℕ)) : Type 0 where
  pub differ : IsDistinct bytes_eq names
  pub are_free : list_any is_reserved names ≡ false
  pub few : length names ≤ LIVE_LIMIT

-- these are as many as may be, and no place before this one has a fault
pub record IsFirstFault (names : List (List ℕ)) (place : ℕ) : Type 0 where
  pub few : length names ≤ LIVE_LIMIT
  pub passed : CanBeLoaded (take place names)

-- These can't be loaded together, for this reason: there are too many, or this place is the first that has a fault.
abbrev pub IsShelfFault : List (List ℕ) → ShelfFault → Type 0
IsShelfFault names TooMany = LIVE_LIMIT < length names
IsShelfFault names (Reserved place) =
    IsFirstFault names place × IsTrue (option_map_or is_reserved (slice_get names place) false)
IsShelfFault names (NameTaken place) =
    IsFirstFault names place
    × IsTrue (option_map_or (λ name. list_any (bytes_eq name) (take place names)) (slice_get names place) false)

-- a place on a shelf: whose object stands there, whatever it has got
pub record Place : Type 0 where
  pub name : List ℕ
  pub kinds : Kinds
  pub mark : ℕ

abbrev pub place_of : OnShelf → Place
place_of plug = record { name = plug.name; kinds = plug.kinds; mark = plug.tells.mark }

abbrev pub places : List OnShelf → List Place
places shelf = map place_of shelf
