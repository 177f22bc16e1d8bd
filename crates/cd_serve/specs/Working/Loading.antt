-- Plug-ins that go from their places on a shelf into the core, and come back.
use Rattle.cd_core.specs.Seen.{CoreSeen}
use Rattle.cd_core.specs.Stands.{Anyhow, Makes, Stands}
use Rattle.cd_daemon.specs.Answers.{ready, register_answer}
use Rattle.cd_daemon.specs.Calls.{pending}
use Rattle.cd_daemon.specs.Legal.{IsLegal}
use Rattle.cd_daemon.specs.declared.Opening.{Opening}
use Rattle.cd_history.specs.History.{History, ◌▸◌}
use Rattle.cd_history.specs.Leases.{answered, answered_as, taken_by}
use Rattle.cd_history.specs.Registrations.{Registration, is_closed, is_retired, is_text, live, registrations}
use Rattle.cd_history.specs.declared.entry.Entry.TheVariants as entry
use Rattle.cd_history.specs.declared.entry.Joining.TheVariants as joining
use Rattle.cd_registry.specs.Faults.{is_reserved}
use Rattle.cd_registry.specs.Told.{told_after_all}
use Rattle.cd_registry.specs.declared.faults.TheConstants.{LIVE_LIMIT}
use Rattle.cd_registry.specs.declared.kinds.Kinds.{Kinds}
use Rattle.cd_registry.specs.declared.plug.PlugTells.{PlugTells}
use Rattle.cd_serve.specs.Started.{named_on, with_block}
use Rattle.cd_serve.specs.Working.Standing.{RunsOn}
use Rattle.cd_serve.specs.declared.loading.PlaceOf.{PlaceOf}
use Rattle.cd_serve.specs.declared.places.ReadyOf.{ReadyOf}
use Rattle.cd_settings.specs.declared.blocks.Block.{Block}
use Rattle.cd_transcript.specs.LineRuns.{Loaded, OnShelf, all_handed_out, registers}
use Rattle.std.specs.List.{IsDistinct, flat_map, list_any}
use Rattle.std.specs.Option.{option_map}
use Rattle.std.specs.Prelude.{Bool, IsSome, List, None, Ok, Option, Some, [], false, is_some, length, map, slice_get, true, ℕ, ◌++◌, ◌+◌, ◌∷◌, ◌≡◌, ◌≤◌}
use Rattle.std.specs.Str.{bytes_eq}
use Rattle.std.specs.Vec.{vec_capacity}

-- a place on a shelf: its name and its kinds, and what the object tells that stands there
pub record PlaceSeen : Type 0 where
  pub name : List ℕ
  pub kinds : Kinds
  pub tells : Option PlugTells

abbrev pub place_seen : {P : Type 0} (tells : P → PlugTells) → PlaceOf P → PlaceSeen
place_seen tells place = record { name = place.name; kinds = place.kinds; tells = option_map tells place.object }

-- the place of a plug-in that stands there
abbrev pub standing : OnShelf → PlaceSeen
standing plug = record { name = plug.name; kinds = plug.kinds; tells = Some plug.tells }

abbrev pub IsFull : PlaceSeen → Bool
IsFull place = is_some place.tells

-- the registration of a loaded plug-in, by its number
abbrev pub registration_of : ℕ → Loaded → Registration
registration_of n loaded = record {
  number = n;
  name = loaded.plug.name;
  joining = joining.Plug loaded.plug.kinds loaded.config loaded.plug.tells;
}

-- .. those of some, numbered from n on
abbrev pub numbered : ℕ → List Loaded → List Registration
numbered n [] = []
numbered n (loaded ∷ more) = registration_of n loaded ∷ numbered (n + 1) more

abbrev pub has_name : List Registration → List ℕ → Bool
has_name regs name = list_any (λ g. is_text g.name name) regs

-- what stands in the place of a plug-in, where the objects of some registrations aren't back yet
abbrev pub there_unless : Bool → PlugTells → Option PlugTells
there_unless true told = None
there_unless false told = Some told

-- A place after a history, where the objects of these registrations aren't back yet: it is empty where one of them has
-- its name, and else its object tells what it told, and then the calls and answers of the registrations of its name.
abbrev pub place_with : History → List Registration → OnShelf → PlaceSeen
place_with P waiting plug = record {
  name = plug.name;
  kinds = plug.kinds;
  tells = there_unless (has_name waiting plug.name) (told_after_all (answered_as plug.name P) plug.tells);
}

abbrev pub names_of : List OnShelf → List (List ℕ)
names_of shelf = map {A = OnShelf} (λ plug. plug.name) shelf

abbrev pub plugs_of : List Loaded → List OnShelf
plugs_of loaded = map {A = Loaded} (λ one. one.plug) loaded

abbrev pub with_blocks : List Block → List OnShelf → List Loaded
with_blocks blocks plugs = map (with_block blocks) plugs

-- the plug-ins of a shelf that are loaded, in order: without a file all, with one those of the names that it loads
abbrev pub plugs_loaded : Option (List ℕ) → List (List ℕ) → List OnShelf → List OnShelf
plugs_loaded None loaded shelf = shelf
plugs_loaded (Some path) loaded shelf = flat_map (named_on shelf) loaded

-- these are the numbers of the places on a shelf of these plug-ins, in order
abbrev pub ArePlacesOf : List OnShelf → List ℕ → List OnShelf → Type 0
ArePlacesOf shelf order plugs = map (slice_get shelf) order ≡ map Some plugs

-- a shelf was made ready: its objects stand in their places, and there is room for its return
pub record IsReady {P : Type 0} (tells : P → PlugTells) (shelf plugs : List OnShelf) (ready : ReadyOf P) : Type 0 where
  pub order : ArePlacesOf shelf ready.order.items plugs
  pub places : map (place_seen tells) ready.places.items ≡ map standing shelf
  pub empty : ready.room.items ≡ []
  pub room : length shelf ≤ vec_capacity ready.room

-- ---- into the core

-- these plug-ins of a shelf can be registered in a new core
pub record AreLoadable (shelf plugs : List OnShelf) : Type 0 where
  pub shelf_differs : IsDistinct bytes_eq (names_of shelf)
  pub differ : IsDistinct bytes_eq (names_of plugs)
  pub are_free : list_any is_reserved (names_of plugs) ≡ false
  pub few : length plugs ≤ LIVE_LIMIT

-- the history in which each of these was registered after P, in order
abbrev pub all_registered : List Loaded → History → History
all_registered [] P = P
all_registered (loaded ∷ more) P = all_registered more (P ▸ registers P loaded)

-- a plug-in stands in its place, and its registration can't be refused
pub record IsToRegister (core : CoreSeen) (place : PlaceSeen) : Type 0 where
  pub opening : Opening
  pub past : History
  pub number : ℕ
  pub stands : Stands opening core past
  pub free : register_answer past place.name ≡ Ok number
  pub stands_there : IsSome place.tells

-- a plug-in was registered, and its place is empty
pub record WasRegistered (config : List ℕ) (old new : PlaceSeen) (before after : CoreSeen) : Type 0 where
  pub told : PlugTells
  pub was : old.tells ≡ Some told
  pub is : new ≡ record old { tells = None }
  pub reg : ℕ
  pub makes : (actor : ℕ) → Makes before after Anyhow
      (entry.Register actor old.name (joining.Plug old.kinds config told) (Ok reg))

-- these stand in their places on a shelf and can be registered in the core, which is new
pub record CanLoad (K : Opening) (shelf : List OnShelf) (loaded : List Loaded) (blocks : List Block) (core : CoreSeen)
    (order : List ℕ) (shown : List PlaceSeen) : Type 0 where
  pub stands : Stands K core []
  pub loadable : AreLoadable shelf (plugs_of loaded)
  pub order_is : ArePlacesOf shelf order (plugs_of loaded)
  pub blocks_are : loaded ≡ with_blocks blocks (plugs_of loaded)
  pub places : shown ≡ map standing shelf

-- .. with something in force
pub record SomeCanLoad (blocks : List Block) (core : CoreSeen) (order : List ℕ) (shown : List PlaceSeen) : Type 0 where
  pub opening : Opening
  pub shelf : List OnShelf
  pub loaded : List Loaded
  pub can : CanLoad opening shelf loaded blocks core order shown

-- these were registered, in order, and nothing else came; their places are empty
pub record HasLoaded (K : Opening) (shelf : List OnShelf) (done : List Loaded) (core : CoreSeen)
    (shown : List PlaceSeen) : Type 0 where
  pub runs : RunsOn K false core (all_registered done [])
  pub registered : registrations (all_registered done []) ≡ numbered 0 done
  pub places : shown ≡ map (place_with [] (numbered 0 done)) shelf

-- ---- and back

-- no call waits for these, numbered from n on
abbrev pub NoneWaits : Opening → History → ℕ → List Loaded → Type 0
NoneWaits K P n [] = Unit {0}
NoneWaits K P n (loaded ∷ more) = (pending K P n ≡ 0) × NoneWaits K P (n + 1) more

-- The core stands for a history in which these were registered: the first were handed out, and the others are live, at
-- home, and no call waits for them.
pub record HandsOut (K : Opening) (core : CoreSeen) (P : History) (done more : List Loaded) : Type 0 where
  pub stands : Stands K core P
  pub registered : registrations P ≡ numbered 0 (done ++ more)
  pub live : live P ≡ numbered (length done) more
  pub home : (r : ℕ) → taken_by r P ≡ None
  pub unretired : (r : ℕ) → length done ≤ r → is_retired r P ≡ false
  pub none_waits : NoneWaits K P (length done) more

-- the next that is handed out has this name
pub record IsNext (core : CoreSeen) (name : List ℕ) : Type 0 where
  pub opening : Opening
  pub past : History
  pub done : List Loaded
  pub loaded : Loaded
  pub more : List Loaded
  pub hands : HandsOut opening core past done (loaded ∷ more)
  pub named : name ≡ loaded.plug.name

-- it was handed out, and stands in its place
pub record WasHandedOut (K : Opening) (P : History) (reg : ℕ) (loaded : Loaded) (old new : PlaceSeen)
    (core : CoreSeen) : Type 0 where
  pub stands : Stands K core (all_handed_out K (registration_of reg loaded ∷ []) P)
  pub is : new ≡ record old { tells = Some (told_after_all (answered reg P) loaded.plug.tells) }

-- .. whatever is in force, and after any history
abbrev pub HandsNext : List ℕ → PlaceSeen → PlaceSeen → CoreSeen → CoreSeen → Type 0
HandsNext name old new before after = (K : Opening) (P : History) (done : List Loaded) (loaded : Loaded) (more : List Loaded)
    → HandsOut K before P done (loaded ∷ more) → name ≡ loaded.plug.name
    → WasHandedOut K P (length done) loaded old new after

-- all that were registered can be handed out: nobody was closed or handed out, nobody is out, and no plug-in is ready
pub record CanBeHandedOut (K : Opening) (P : History) (shelf : List OnShelf) (loaded : List Loaded) (core : CoreSeen)
    (order : List ℕ) (shown : List PlaceSeen) : Type 0 where
  pub stands : Stands K core P
  pub home : (r : ℕ) → taken_by r P ≡ None
  pub none_ready : ready K P ≡ None
  pub unclosed : (r : ℕ) → is_closed r P ≡ false
  pub unretired : (r : ℕ) → is_retired r P ≡ false
  pub registered : registrations P ≡ numbered 0 loaded
  pub shelf_differs : IsDistinct bytes_eq (names_of shelf)
  pub differ : IsDistinct bytes_eq (names_of (plugs_of loaded))
  pub order_is : ArePlacesOf shelf order (plugs_of loaded)
  pub places : shown ≡ map (place_with [] (numbered 0 loaded)) shelf

-- .. after some history
pub record SomeCanBeHandedOut (core : CoreSeen) (order : List ℕ) (shown : List PlaceSeen) : Type 0 where
  pub opening : Opening
  pub past : History
  pub shelf : List OnShelf
  pub loaded : List Loaded
  pub can : CanBeHandedOut opening past shelf loaded core order shown

-- the first of them were handed out, and stand in their places
pub record HasHandedOut (K : Opening) (P : History) (shelf : List OnShelf) (done more : List Loaded)
    (core : CoreSeen) (shown : List PlaceSeen) : Type 0 where
  pub past : History
  pub hands : HandsOut K core past done more
  pub leads : all_handed_out K (numbered (length done) more) past ≡ all_handed_out K (numbered 0 (done ++ more)) P
  pub answers : (r : ℕ) → answered r past ≡ answered r P
  pub places : shown ≡ map (place_with P (numbered (length done) more)) shelf

-- all were handed out, and all stand in their places
pub record AllAreBack (K : Opening) (P : History) (shelf : List OnShelf) (loaded : List Loaded)
    (shown : List PlaceSeen) : Type 0 where
  pub legal : IsLegal K (all_handed_out K (numbered 0 loaded) P)
  pub places : shown ≡ map (place_with P []) shelf

-- ---- a run

-- a shelf was made ready, and its plug-ins can be registered in the core, which is new
pub record Runs (K : Opening) (shelf plugs : List OnShelf) (core : CoreSeen) {P : Type 0} (tells : P → PlugTells)
    (ready : ReadyOf P) : Type 0 where
  pub stands : Stands K core []
  pub loadable : AreLoadable shelf plugs
  pub is_ready : IsReady tells shelf plugs ready
