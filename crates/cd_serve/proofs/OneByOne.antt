-- The plug-ins of places go into the core one by one, and come back one by one.
use Rattle.cd_core.specs.Seen.{CoreSeen}
use Rattle.cd_daemon.specs.declared.Opening.{Opening}
use Rattle.cd_history.specs.History.{History}
use Rattle.cd_history.specs.Registrations.{registrations}
use Rattle.cd_registry.specs.declared.plug.PlugTells.{PlugTells}
use Rattle.cd_serve.proofs.HandingOut.{all_are_back, one_is_back}
use Rattle.cd_serve.proofs.Named.{IsAt, next_place}
use Rattle.cd_serve.proofs.Orders.{take_all}
use Rattle.cd_serve.proofs.Registering.{can_be_registered, registers_next}
use Rattle.cd_serve.specs.Started.{config_of, with_block}
use Rattle.cd_serve.specs.Working.Loading.{AllAreBack, AreLoadable, ArePlacesOf, CanBeHandedOut, CanLoad, HandsNext, HasHandedOut, HasLoaded, IsNext, IsToRegister, PlaceSeen, WasRegistered, names_of, numbered, place_seen, place_with, plugs_of, with_blocks}
use Rattle.cd_serve.specs.declared.loading.PlaceOf.{PlaceOf}
use Rattle.cd_settings.specs.declared.blocks.Block.{Block}
use Rattle.cd_transcript.specs.LineRuns.{Loaded, OnShelf}
use Rattle.std.proofs.Common.{List, Option, Some, [], ap, arith, drop, get_or, length, map, refl, slice_get, subst, suc, sym, take, zero, ℕ, ◌++◌, ◌+◌, ◌<◌, ◌∙◌, ◌∷◌, ◌≡◌, ◌≤◌}
use Rattle.std.proofs.Math.ListN.{set}
use Rattle.std.proofs.Math.Seq.{map-set_same}
use Rattle.std.proofs.lemmas.List.{length-map, map-set}
use Rattle.std.proofs.lemmas.Option.{same_Some, slice_get-get_or, slice_get-map, slice_get_within}
use Rattle.std.specs.List.{IsDistinct}
use Rattle.std.specs.Option.{option_map}
use Rattle.std.specs.Str.{bytes_eq}

within : {A B C : Type 0} (f : A → C) (h : B → C) (xs : List A) (ys : List B) (i : ℕ) (y : B) → map f xs ≡ map h ys → slice_get ys i ≡ Some y → i < length xs
within f h xs ys i y same at = omega (arith, slice_get_within ys i y at, sym (length-map xs f) ∙ ap length same ∙ length-map ys h)

stands_at : {A B C : Type 0} (f : A → C) (h : B → C) (xs : List A) (ys : List B) (i : ℕ) (y : B) (d : A) → map f xs ≡ map h ys → slice_get ys i ≡ Some y → f (get_or xs i d) ≡ h y
stands_at {C = C} f h xs ys i y d same at =
    same_Some (f (get_or xs i d)) (h y)
    (ap (option_map f) (sym (slice_get-get_or xs i d (within f h xs ys i y same at))) ∙ sym (slice_get-map f xs i) ∙ ap (λ (zs : List C). slice_get zs i) same
    ∙ slice_get-map h ys i ∙ ap (option_map h) at)

-- the block of a loaded plug-in
block_at : (blocks : List Block) (loaded : List Loaded) (i : ℕ) (one : Loaded) → loaded ≡ with_blocks blocks (plugs_of loaded) → slice_get loaded i ≡ Some one
    → config_of blocks one.plug.name ≡ one.config
block_at blocks loaded i one are at =
    let same : Some (with_block blocks one.plug) ≡ Some one =
    ap (λ (o : Option Loaded). option_map (with_block blocks) (option_map (λ (l : Loaded). l.plug) o)) (sym at)
    ∙ ap (option_map (with_block blocks)) (sym (slice_get-map (λ (l : Loaded). l.plug) loaded i))
    ∙ sym (slice_get-map (with_block blocks) (plugs_of loaded) i) ∙ ap (λ (xs : List Loaded). slice_get xs i) (sym are) ∙ at in
    ap (λ (l : Loaded). l.config) (same_Some (with_block blocks one.plug) one same)

module _ {P : Type 0} (tells : P → PlugTells) (places : List (PlaceOf P)) (order : List ℕ) (i : ℕ) (below : i < length order) where
  abbrev pub index : ℕ
  index = get_or order i 0

  -- ---- into the core

  module _ {K : Opening} {shelf : List OnShelf} {loaded : List Loaded} {blocks : List Block} {first core : CoreSeen} {shown : List PlaceSeen}
      (can : CanLoad K shelf loaded blocks first order shown) (h : HasLoaded K shelf (take i loaded) core (map (place_seen tells) places)) where
    loads_at : IsAt shelf loaded i index
    loads_at = next_place shelf order loaded i index can.order_is (slice_get-get_or order i 0 below)

    pub load_within : index < length places
    load_within = within (place_seen tells) (place_with [] (numbered 0 (take i loaded))) places shelf index loads_at.one.plug h.places loads_at.there

    loadable_so : AreLoadable shelf (plugs_of (take i loaded ++ loads_at.one ∷ loads_at.more))
    loadable_so = let L : List Loaded → Type 0 = λ xs. AreLoadable shelf (plugs_of xs) in subst L loads_at.all can.loadable

    module _ (d : PlaceOf P) where
      stood : place_seen tells (get_or places index d) ≡ place_with [] (numbered 0 (take i loaded)) loads_at.one.plug
      stood = stands_at (place_seen tells) (place_with [] (numbered 0 (take i loaded))) places shelf index loads_at.one.plug d h.places loads_at.there

      pub is_to_register : IsToRegister core (place_seen tells (get_or places index d))
      is_to_register = can_be_registered h loads_at.one loads_at.more loadable_so (place_seen tells (get_or places index d)) stood

      -- one more is registered
      pub loads_on : (new : PlaceOf P) (after : CoreSeen) → WasRegistered (config_of blocks (get_or places index d).name) (place_seen tells (get_or places index d)) (place_seen tells new) core after
          → HasLoaded K shelf (take (i + 1) loaded) after (map (place_seen tells) (set places index new))
      loads_on new after w =
          let config : config_of blocks (get_or places index d).name ≡ loads_at.one.config =
          ap (λ (p : PlaceSeen). config_of blocks p.name) stood ∙ block_at blocks loaded i loads_at.one can.blocks_are loads_at.at in
          let D : List Loaded → Type 0 = λ xs. HasLoaded K shelf xs after (map (place_seen tells) (set places index new)) in
          let S : List PlaceSeen → Type 0 = λ ps. HasLoaded K shelf (take i loaded ++ loads_at.one ∷ []) after ps in
          subst D (sym loads_at.next) (subst S (sym (map-set (place_seen tells) places index new))
          (registers_next h loads_at.one loads_at.more loadable_so (place_seen tells (get_or places index d)) (place_seen tells new) after
          (config_of blocks (get_or places index d).name) stood config w index loads_at.there))

    -- where it wasn't, all is as it was
    pub loads_none : (d new : PlaceOf P) (after : CoreSeen) → after ≡ core → place_seen tells new ≡ place_seen tells (get_or places index d)
        → HasLoaded K shelf (take i loaded) after (map (place_seen tells) (set places index new))
    loads_none d new after same as_before =
        let C : CoreSeen → Type 0 = λ seen. HasLoaded K shelf (take i loaded) seen (map (place_seen tells) (set places index new)) in
        let S : List PlaceSeen → Type 0 = λ ps. HasLoaded K shelf (take i loaded) core ps in
        subst C (sym same) (subst S (sym (map-set_same (place_seen tells) places index new d as_before)) h)

  -- ---- and back

  module _ {K : Opening} {H : History} {shelf : List OnShelf} {loaded : List Loaded} {first core : CoreSeen} {shown : List PlaceSeen}
      (can : CanBeHandedOut K H shelf loaded first order shown) (h : HasHandedOut K H shelf (take i loaded) (drop i loaded) core (map (place_seen tells) places)) where
    hands_at : IsAt shelf loaded i index
    hands_at = next_place shelf order loaded i index can.order_is (slice_get-get_or order i 0 below)

    so_far : HasHandedOut K H shelf (take i loaded) (hands_at.one ∷ hands_at.more) core (map (place_seen tells) places)
    so_far = let M : List Loaded → Type 0 = λ more. HasHandedOut K H shelf (take i loaded) more core (map (place_seen tells) places) in subst M hands_at.rest h

    pub hand_out_within : index < length places
    hand_out_within =
        within (place_seen tells) (place_with H (numbered (length (take i loaded)) (hands_at.one ∷ hands_at.more))) places shelf index hands_at.one.plug so_far.places hands_at.there

    module _ (d : PlaceOf P) where
      was_empty : place_seen tells (get_or places index d) ≡ place_with H (numbered (length (take i loaded)) (hands_at.one ∷ hands_at.more)) hands_at.one.plug
      was_empty =
          stands_at (place_seen tells) (place_with H (numbered (length (take i loaded)) (hands_at.one ∷ hands_at.more))) places shelf index hands_at.one.plug d so_far.places hands_at.there

      named : (get_or places index d).name ≡ hands_at.one.plug.name
      named = ap (λ (p : PlaceSeen). p.name) was_empty

      pub is_next : IsNext core (get_or places index d).name
      is_next = record { opening = K; past = so_far.past; done = take i loaded; loaded = hands_at.one; more = hands_at.more; hands = so_far.hands; named = named }

      -- one more is back
      pub hands_on : (new : PlaceOf P) (after : CoreSeen) → HandsNext (get_or places index d).name (place_seen tells (get_or places index d)) (place_seen tells new) core after
          → HasHandedOut K H shelf (take (i + 1) loaded) (drop (i + 1) loaded) after (map (place_seen tells) (set places index new))
      hands_on new after hands =
          let R : List Loaded → Type 0 = λ xs. registrations H ≡ numbered 0 xs in
          let D : List Loaded → Type 0 = λ xs. IsDistinct bytes_eq (names_of (plugs_of xs)) in
          let S : List PlaceSeen → Type 0 = λ ps. HasHandedOut K H shelf (take i loaded ++ hands_at.one ∷ []) hands_at.more after ps in
          let N : List Loaded → Type 0 = λ xs. HasHandedOut K H shelf xs hands_at.more after (map (place_seen tells) (set places index new)) in
          let M : List Loaded → Type 0 = λ more. HasHandedOut K H shelf (take (i + 1) loaded) more after (map (place_seen tells) (set places index new)) in
          subst M (sym hands_at.later) (subst N (sym hands_at.next) (subst S (sym (map-set (place_seen tells) places index new))
          (one_is_back so_far (subst R hands_at.all can.registered) can.shelf_differs (subst D hands_at.all can.differ)
          (place_seen tells (get_or places index d)) (place_seen tells new) after was_empty
          (hands K so_far.past (take i loaded) hands_at.one hands_at.more so_far.hands named) index hands_at.there)))

-- ---- all of them

drop_all : {A : Type 0} (xs : List A) (i : ℕ) → length xs ≤ i → drop i xs ≡ []
drop_all [] zero most = refl
drop_all [] (suc i) most = refl
drop_all (x ∷ xs) zero most = absurd (omega (arith, most))
drop_all (x ∷ xs) (suc i) most = drop_all xs i (omega (arith, most))

as_many : (shelf : List OnShelf) (order : List ℕ) (loaded : List Loaded) → ArePlacesOf shelf order (plugs_of loaded) → length order ≡ length loaded
as_many shelf order loaded are =
    sym (length-map order (slice_get shelf)) ∙ ap length are ∙ length-map (plugs_of loaded) Some ∙ length-map loaded (λ (l : Loaded). l.plug)

pub all_loaded : {K : Opening} {shelf : List OnShelf} {loaded : List Loaded} {blocks : List Block} {first core : CoreSeen} {order : List ℕ} {shown now : List PlaceSeen}
    → CanLoad K shelf loaded blocks first order shown → (i n : ℕ) → HasLoaded K shelf (take i loaded) core now → length order ≤ i → n ≡ length order → HasLoaded K shelf (take n loaded) core now
all_loaded {K = K} {shelf = shelf} {loaded = loaded} {core = core} {order = order} {now = now} can i n h most is =
    let L : List Loaded → Type 0 = λ xs. HasLoaded K shelf xs core now in
    let many = as_many shelf order loaded can.order_is in
    subst L (take_all loaded i (omega (arith, most, many)) ∙ sym (take_all loaded n (omega (arith, is, many)))) h

pub all_back : {K : Opening} {H : History} {shelf : List OnShelf} {loaded : List Loaded} {first core : CoreSeen} {order : List ℕ} {shown now : List PlaceSeen}
    → CanBeHandedOut K H shelf loaded first order shown → (i : ℕ) → HasHandedOut K H shelf (take i loaded) (drop i loaded) core now → length order ≤ i → AllAreBack K H shelf loaded now
all_back {K = K} {H = H} {shelf = shelf} {loaded = loaded} {core = core} {order = order} {now = now} can i h most =
    let many = as_many shelf order loaded can.order_is in
    let D : List Loaded → Type 0 = λ xs. HasHandedOut K H shelf xs (drop i loaded) core now in
    let M : List Loaded → Type 0 = λ xs. HasHandedOut K H shelf loaded xs core now in
    all_are_back K H shelf loaded core now (subst M (drop_all loaded i (omega (arith, most, many))) (subst D (take_all loaded i (omega (arith, most, many))) h))
