-- A shelf that was made ready is registered, and comes back.
use Rattle.cd_core.specs.Seen.{CoreSeen}
use Rattle.cd_daemon.specs.declared.Opening.{Opening}
use Rattle.cd_history.specs.History.{History}
use Rattle.cd_history.specs.Registrations.{registrations}
use Rattle.cd_io.specs.Link.{LinkTells}
use Rattle.cd_registry.specs.declared.plug.PlugTells.{PlugTells}
use Rattle.cd_serve.proofs.Ends.{places_are_same, shelf_is_back}
use Rattle.cd_serve.proofs.Loadable.{distinct_front, plugs_with}
use Rattle.cd_serve.proofs.Orders.{take_all}
use Rattle.cd_serve.proofs.Promises.{ended_over, has_opened, promised_nothing, run_promised}
use Rattle.cd_serve.proofs.Registering.{none_closed, none_retired}
use Rattle.cd_serve.specs.Promises.{PromisesLines}
use Rattle.cd_serve.specs.Shelf.{places}
use Rattle.cd_serve.specs.Working.Ended.{HasEnded, IsOver}
use Rattle.cd_serve.specs.Working.Loading.{AllAreBack, AreLoadable, ArePlacesOf, CanBeHandedOut, CanLoad, HasLoaded, IsFull, PlaceSeen, Runs, SomeCanBeHandedOut, all_registered, names_of, numbered, place_seen, place_with, plugs_of, standing, with_blocks}
use Rattle.cd_serve.specs.Working.Progress.{HasServed, Seen}
use Rattle.cd_serve.specs.Working.Standing.{RunsOn}
use Rattle.cd_serve.specs.declared.loading.PlaceOf.{PlaceOf}
use Rattle.cd_serve.specs.declared.end.End.TheVariants as ends
use Rattle.cd_serve.specs.declared.end.End.{End}
use Rattle.cd_serve.specs.declared.places.ReadyOf.{ReadyOf}
use Rattle.cd_settings.specs.declared.blocks.Block.{Block}
use Rattle.cd_transcript.specs.LineRuns.{Loaded, OnShelf}
use Rattle.std.proofs.Common.{Bool, IsTrue, List, Some, [], ap, arith, drop, false, length, map, nat_eq, refl, slice_get, subst, suc, sym, take, true, zero, ℕ, ◌++◌, ◌∙◌, ◌∷◌, ◌≡◌, ◌≤◌}
use Rattle.std.proofs.lemmas.List.{length-map}
use Rattle.std.proofs.Math.ListN.{take-append-drop}
use Rattle.std.specs.List.{IsDistinct, list_all}
use Rattle.std.specs.Str.{bytes_eq}

map-take : {A B : Type 0} (f : A → B) (n : ℕ) (xs : List A) → map f (take n xs) ≡ take n (map f xs)
map-take f zero [] = refl
map-take f zero (x ∷ xs) = refl
map-take f (suc n) [] = refl
map-take f (suc n) (x ∷ xs) = ap (λ ys. f x ∷ ys) (map-take f n xs)

pub same_count : (n m : ℕ) → nat_eq n m ≡ true → n ≡ m
same_count n m e = grind arith

names_taken : (n : ℕ) (loaded : List Loaded) → IsDistinct bytes_eq (names_of (plugs_of loaded)) → IsDistinct bytes_eq (names_of (plugs_of (take n loaded)))
names_taken n loaded differ =
    let D : List (List ℕ) → Type 0 = λ names. IsDistinct bytes_eq names in
    let all : names_of (plugs_of loaded) ≡ take n (names_of (plugs_of loaded)) ++ drop n (names_of (plugs_of loaded)) = sym (take-append-drop n (names_of (plugs_of loaded))) in
    let taken : names_of (plugs_of (take n loaded)) ≡ take n (names_of (plugs_of loaded)) =
    ap names_of (map-take (λ (l : Loaded). l.plug) n loaded) ∙ map-take (λ (p : OnShelf). p.name) n (plugs_of loaded) in
    subst D (sym taken) (distinct_front (take n (names_of (plugs_of loaded))) (drop n (names_of (plugs_of loaded))) (subst D all differ))

places_taken : (shelf : List OnShelf) (order : List ℕ) (loaded : List Loaded) (n : ℕ) → ArePlacesOf shelf order (plugs_of loaded) → ArePlacesOf shelf (take n order) (plugs_of (take n loaded))
places_taken shelf order loaded n are =
    map-take (slice_get shelf) n order ∙ ap (take n) are ∙ sym (map-take Some n (plugs_of loaded)) ∙ ap (map Some) (sym (map-take (λ (l : Loaded). l.plug) n loaded))

pub all_full : (H : History) (shelf : List OnShelf) (shown : List PlaceSeen) → shown ≡ map (place_with H []) shelf → IsTrue (list_all IsFull shown)
all_full H shelf shown is = ap (list_all IsFull) is ∙ each shelf
  where
    each : (plugs : List OnShelf) → list_all IsFull (map (place_with H []) plugs) ≡ true
    each [] = refl
    each (plug ∷ plugs) = each plugs

module _ {P : Type 0} (tells : P → PlugTells) {K : Opening} {shelf plugs : List OnShelf} {core : CoreSeen} {ready : ReadyOf P} (blocks : List Block)
    (r : Runs K shelf plugs core tells ready) where
  abbrev pub loaded_all : List Loaded
  loaded_all = with_blocks blocks plugs

  loadable_all : AreLoadable shelf (plugs_of loaded_all)
  loadable_all = let L : List OnShelf → Type 0 = λ ps. AreLoadable shelf ps in subst L (sym (plugs_with blocks plugs)) r.loadable

  order_all : ArePlacesOf shelf ready.order.items (plugs_of loaded_all)
  order_all = let A : List OnShelf → Type 0 = λ ps. ArePlacesOf shelf ready.order.items ps in subst A (sym (plugs_with blocks plugs)) r.is_ready.order

  pub can_load : (order : List ℕ) (shown : List PlaceSeen) → order ≡ ready.order.items → shown ≡ map (place_seen tells) ready.places.items
      → CanLoad K shelf loaded_all blocks core order shown
  can_load order shown order_is shown_is = record {
    stands = r.stands;
    loadable = loadable_all;
    order_is = let A : List ℕ → Type 0 = λ o. ArePlacesOf shelf o (plugs_of loaded_all) in subst A (sym order_is) order_all;
    blocks_are = ap (with_blocks blocks) (sym (plugs_with blocks plugs));
    places = shown_is ∙ r.is_ready.places;
  }

  -- they were loaded, by what is promised of that, from what these places are to what those are
  pub loaded_into : (order : List ℕ) → order ≡ ready.order.items → (old : List (PlaceOf P)) → old ≡ ready.places.items → (count : ℕ) (after : CoreSeen) (new : List (PlaceOf P))
      → ((K : Opening) (shelf : List OnShelf) (loaded : List Loaded) → CanLoad K shelf loaded blocks core order (map (place_seen tells) old)
      → HasLoaded K shelf (take count loaded) after (map (place_seen tells) new))
      → (then : List (PlaceOf P)) → then ≡ new → HasLoaded K shelf (take count loaded_all) after (map (place_seen tells) then)
  loaded_into order order_is old old_is count after new loads then same =
      let H : List (PlaceOf P) → Type 0 = λ ps. HasLoaded K shelf (take count loaded_all) after (map (place_seen tells) ps) in
      subst H (sym same) (loads K shelf loaded_all (can_load order (map (place_seen tells) old) order_is (ap (map (place_seen tells)) old_is)))

  module _ (count : ℕ) (after : CoreSeen) (shown : List PlaceSeen) (h : HasLoaded K shelf (take count loaded_all) after shown) where
    abbrev pub opened : History
    opened = all_registered (take count loaded_all) []

    -- all that were registered can be handed out once nothing waits
    pub can_hand_out : (P : History) (last : CoreSeen) (order : List ℕ) → IsOver K opened last P → order ≡ take count ready.order.items
        → CanBeHandedOut K P shelf (take count loaded_all) last order shown
    can_hand_out P last order over is = record {
      stands = over.stands;
      home = over.home;
      none_ready = over.none_ready;
      unclosed = λ n. over.left.closed n ∙ none_closed (take count loaded_all) [] n;
      unretired = λ n. over.left.retired n ∙ none_retired (take count loaded_all) [] n;
      registered = over.left.registered ∙ h.registered;
      shelf_differs = r.loadable.shelf_differs;
      differ = names_taken count loaded_all loadable_all.differ;
      order_is = let A : List ℕ → Type 0 = λ o. ArePlacesOf shelf o (plugs_of (take count loaded_all)) in subst A (sym is) (places_taken shelf ready.order.items loaded_all count order_all);
      places = h.places;
    }

    -- the daemon before the first line
    pub before_lines : (seen : Seen) → seen.given ≡ [] → seen.core ≡ after → HasServed K seen.pairs opened [] [] seen
    before_lines seen none is =
        let R : CoreSeen → Type 0 = λ c. RunsOn K false c opened in
        has_opened K (take count loaded_all) seen none (subst R (sym is) h.runs)

    -- The run from there on, as it is seen at first and at last, where the input was served so.
    module _ (first last : Seen) (none : first.given ≡ []) (is : first.core ≡ after) (before now : LinkTells) (end : End)
        (serves : HasServed K first.pairs opened [] [] first → HasEnded K first.pairs opened last before now end) where
      ended : HasEnded K first.pairs opened last before now end
      ended = serves (before_lines first none is)

      over : (P : History) × IsOver K opened last.core P
      over = ended_over K first.pairs opened last before now end ended

      pub some_handed_out : (order : List ℕ) → order ≡ take count ready.order.items → SomeCanBeHandedOut last.core order shown
      some_handed_out order order_is = record {
        opening = K;
        past = over.0;
        shelf = shelf;
        loaded = take count loaded_all;
        can = can_hand_out over.0 last.core order over.1 order_is;
      }

      module _ (order : List ℕ) (order_is : order ≡ take count ready.order.items) (back : List PlaceSeen)
          (hands : (K : Opening) (P : History) (shelf : List OnShelf) (loaded : List Loaded) → CanBeHandedOut K P shelf loaded last.core order shown → AllAreBack K P shelf loaded back) where
        back_after : (P : History) → IsOver K opened last.core P → AllAreBack K P shelf (take count loaded_all) back
        back_after P o = hands K P shelf (take count loaded_all) (can_hand_out P last.core order o order_is)

        -- each object stands in its place
        pub back_in_places : (P : History) × (back ≡ map (place_with P []) shelf)
        back_in_places = (over.0, (back_after over.0 over.1).places)

        pub same_places : (returned : List OnShelf) → map standing returned ≡ back → places returned ≡ places shelf
        same_places returned returned_is = places_are_same back_in_places.0 shelf returned (returned_is ∙ back_in_places.1)

        -- what the run promises at its end
        pub ready_promised : (loads : List OnShelf → List Loaded) → loads shelf ≡ loaded_all → (returned : List OnShelf) → map standing returned ≡ back → (whole : Bool)
            → (whole ≡ true → length ready.order.items ≤ count) → (whole ≡ false → end ≡ ends.Memory) → (whole ≡ false → now ≡ before)
            → PromisesLines K loads shelf returned last.given first.pairs before now end
        ready_promised loads is returned returned_is false most lacked unheard =
            promised_nothing K loads shelf returned last.given first.pairs before now end
            (record { history = over.0; legal = over.1.stands.legal; told = shelf_is_back over.0 shelf returned (returned_is ∙ (back_after over.0 over.1).places) }) (unheard refl) (lacked refl)
        ready_promised loads is returned returned_is true most lacked unheard =
            let many : length ready.order.items ≡ length loaded_all =
            sym (length-map ready.order.items (slice_get shelf)) ∙ ap length order_all ∙ length-map (plugs_of loaded_all) Some ∙ length-map loaded_all (λ (l : Loaded). l.plug) in
            let enough = most refl in
            let all : take count loaded_all ≡ loads shelf = take_all loaded_all count (omega (arith, many, enough)) ∙ sym is in
            let E : List Loaded → Type 0 = λ xs. HasEnded K first.pairs (all_registered xs []) last before now end in
            let R : List Loaded → Type 0 = λ xs. registrations (all_registered xs []) ≡ numbered 0 xs in
            let B : List Loaded → Type 0 = λ xs. (P : History) → IsOver K (all_registered xs []) last.core P → AllAreBack K P shelf xs back in
            let S : List PlaceSeen → Type 0 = λ ps. (P : History) → IsOver K (all_registered (loads shelf) []) last.core P → AllAreBack K P shelf (loads shelf) ps in
            run_promised K loads shelf returned first.pairs last before now (subst R all h.registered) (subst S (sym returned_is) (subst B all back_after)) end (subst E all ended)

-- a shelf that comes back
pub room_for : {P : Type 0} (tells : P → PlugTells) (shelf : List OnShelf) (xs : List (PlaceOf P)) (h : OnShelf → PlaceSeen) → map (place_seen tells) xs ≡ map h shelf → length xs ≡ length shelf
room_for tells shelf xs h is = sym (length-map xs (place_seen tells)) ∙ ap length is ∙ length-map shelf h
