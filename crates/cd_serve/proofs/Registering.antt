-- Plug-ins are registered in a new core, one after another.
use Rattle.cd_core.specs.Seen.{CoreSeen}
use Rattle.cd_core.specs.Stands.{Stands}
use Rattle.cd_daemon.specs.Answers.{register_answer}
use Rattle.cd_daemon.specs.Legal.{IsLegal}
use Rattle.cd_daemon.specs.declared.Opening.{Opening}
use Rattle.cd_history.specs.History.{Event, History, is_stopped, ◌▸◌}
use Rattle.cd_history.specs.Leases.{taken_by}
use Rattle.cd_history.specs.Registrations.{Registration, is_closed, is_retired, is_text, live, number_of_live, registrations}
use Rattle.cd_history.specs.declared.entry.Entry.TheVariants as entry
use Rattle.cd_history.specs.declared.entry.Joining.TheVariants as joining
use Rattle.cd_history.specs.declared.entry.RegisterFault.TheVariants as refused
use Rattle.cd_history.specs.declared.entry.RegisterFault.{RegisterFault}
use Rattle.cd_registry.specs.Faults.{is_reserved}
use Rattle.cd_registry.specs.declared.faults.TheConstants.{LIVE_LIMIT}
use Rattle.cd_registry.specs.declared.plug.PlugTells.{PlugTells}
use Rattle.cd_serve.proofs.Named.{OthersStay, length-numbered, none_before, none_passes, numbered-append, one_changed, other_named, own_named}
use Rattle.cd_serve.specs.Working.Loading.{AreLoadable, HasLoaded, IsToRegister, PlaceSeen, WasRegistered, all_registered, has_name, numbered, place_with, plugs_of, registration_of, there_unless}
use Rattle.cd_transcript.specs.LineRuns.{Loaded, OnShelf, Opens, none, plug_in, registers}
use Rattle.std.proofs.Common.{Bool, Err, List, None, Ok, Option, Result, Some, [], ap, arith, cond, false, length, length-append, map, nat_le, not, refl, slice_get, subst, sym, true, ℕ, ◌++◌, ◌+◌, ◌<◌, ◌∙◌, ◌∷◌, ◌≡◌, ◌||◌}
use Rattle.std.proofs.Math.ListN.{set}
use Rattle.std.proofs.lemmas.List.{length-map}
use Rattle.std.proofs.lemmas.Option.{same_Some}
use Rattle.std.specs.List.{filter, find}
use Rattle.std.specs.Option.{option_map}

-- ---- the history of registrations

registered_more : (done : List Loaded) (loaded : Loaded) (P : History) → all_registered (done ++ loaded ∷ []) P ≡ all_registered done P ▸ registers (all_registered done P) loaded
registered_more [] loaded P = refl
registered_more (x ∷ done) loaded P = registered_more done loaded (P ▸ registers P x)

pub opens_all : (loaded : List Loaded) (P : History) → Opens loaded P [] (all_registered loaded P)
opens_all [] P = none
opens_all (x ∷ loaded) P = plug_in (opens_all loaded (P ▸ registers P x))

pub registered_legal : (K : Opening) (loaded : List Loaded) (P : History) → IsLegal K P → IsLegal K (all_registered loaded P)
registered_legal K [] P legal = legal
registered_legal K (x ∷ loaded) P legal = registered_legal K loaded (P ▸ registers P x) (legal, refl)

pub none_closed : (loaded : List Loaded) (P : History) (r : ℕ) → is_closed r (all_registered loaded P) ≡ is_closed r P
none_closed [] P r = refl
none_closed (x ∷ loaded) P r = none_closed loaded (P ▸ registers P x) r

pub none_retired : (loaded : List Loaded) (P : History) (r : ℕ) → is_retired r (all_registered loaded P) ≡ is_retired r P
none_retired [] P r = refl
none_retired (x ∷ loaded) P r = none_retired loaded (P ▸ registers P x) r

none_taken : (loaded : List Loaded) (P : History) (r : ℕ) → taken_by r (all_registered loaded P) ≡ taken_by r P
none_taken [] P r = refl
none_taken (x ∷ loaded) P r = none_taken loaded (P ▸ registers P x) r

never_stopped : (loaded : List Loaded) (P : History) → is_stopped (all_registered loaded P) ≡ is_stopped P
never_stopped [] P = refl
never_stopped (x ∷ loaded) P = never_stopped loaded (P ▸ registers P x)

-- ---- a registration that can't be refused

-- where nobody is closed, all are live
pub all_live : (P : History) (regs : List Registration) → ((r : ℕ) → is_closed r P ≡ false) → filter (λ g. not (is_closed g.number P)) regs ≡ regs
all_live P [] unclosed = refl
all_live P (g ∷ regs) unclosed = rw (unclosed g.number) (ap (λ (gs : List Registration). g ∷ gs) (all_live P regs unclosed))

find_none : (regs : List Registration) (name : List ℕ) → has_name regs name ≡ false → find (λ g. is_text g.name name) regs ≡ None
find_none [] name unnamed = refl
find_none (g ∷ regs) name unnamed = by (is_text g.name name) (find_none regs name) unnamed
  where
    by : (t : Bool) → (has_name regs name ≡ false → find (λ g. is_text g.name name) regs ≡ None) → (t || has_name regs name) ≡ false
        → cond t (Some g) (find (λ g. is_text g.name name) regs) ≡ None
    by false rest e = rest e
    by true rest e = absurd (cc)

above : (a b : ℕ) → b < a → nat_le a b ≡ false
above a b less = grind arith

free_to_register : (P : History) (name : List ℕ) (done : List Loaded) → is_stopped P ≡ false → is_reserved name ≡ false → live P ≡ numbered 0 done
    → registrations P ≡ numbered 0 done → has_name (numbered 0 done) name ≡ false → length done < LIVE_LIMIT → register_answer P name ≡ Ok (length done)
free_to_register P name done going free alive registered unnamed few =
    by (is_stopped P) going (is_reserved name) free (number_of_live name P) nobody (nat_le LIVE_LIMIT (length (live P))) room
  where
    nobody : number_of_live name P ≡ None
    nobody = ap (λ (gs : List Registration). option_map (λ (g : Registration). g.number) (find (λ g. is_text g.name name) gs)) alive
        ∙ ap (λ (o : Option Registration). option_map (λ (g : Registration). g.number) o) (find_none (numbered 0 done) name unnamed)

    room : nat_le LIVE_LIMIT (length (live P)) ≡ false
    room = above LIVE_LIMIT (length (live P)) (let many = ap length alive ∙ length-numbered 0 done in omega (arith, many, few))

    number : length (registrations P) ≡ length done
    number = ap length registered ∙ length-numbered 0 done

    by : (stopped : Bool) → stopped ≡ false → (reserved : Bool) → reserved ≡ false → (taken : Option ℕ) → taken ≡ None → (full : Bool) → full ≡ false
        → cond stopped (Err refused.Stopping) (cond reserved (Err refused.Reserved)
        (elim taken as (λ o. Result ℕ RegisterFault) [ Some r ↦ Err (refused.NameTaken r) | None ↦ cond full (Err refused.TableFull) (Ok (length (registrations P))) ]))
        ≡ Ok (length done)
    by true a reserved b taken c full d = absurd (cc)
    by false a true b taken c full d = absurd (cc)
    by false a false b (Some r) c full d = absurd (cc)
    by false a false b None c true d = absurd (cc)
    by false a false b None c false d = ap Ok number

-- ---- one more

abbrev event_of : PlaceSeen → List ℕ → PlugTells → Result ℕ RegisterFault → Event
event_of place config told reply = entry.Register 0 place.name (joining.Plug place.kinds config told) reply

abbrev emptied : PlaceSeen → PlaceSeen
emptied place = record place { tells = None }

abbrev place_if : OnShelf → Bool → PlaceSeen
place_if plug waits = record { name = plug.name; kinds = plug.kinds; tells = there_unless waits plug.tells }

module _ {K : Opening} {shelf : List OnShelf} {done : List Loaded} {core : CoreSeen} {shown : List PlaceSeen} (h : HasLoaded K shelf done core shown)
    (one : Loaded) (more : List Loaded) (can : AreLoadable shelf (plugs_of (done ++ one ∷ more))) where
  abbrev past : History
  past = all_registered done []

  unclosed : (r : ℕ) → is_closed r past ≡ false
  unclosed r = none_closed done [] r

  unnamed : has_name (numbered 0 done) one.plug.name ≡ false
  unnamed = none_before 0 done one more can.differ

  next_free : register_answer past one.plug.name ≡ Ok (length done)
  next_free = free_to_register past one.plug.name done h.runs.is_so (none_passes is_reserved done one more can.are_free)
      (all_live past (registrations past) unclosed ∙ h.registered) h.registered unnamed
      (let few = can.few in omega (arith, few, length-map (done ++ one ∷ more) (λ (l : Loaded). l.plug), length-append done (one ∷ more)))

  -- it stands in its place, and can't be refused
  pub can_be_registered : (place : PlaceSeen) → place ≡ place_with [] (numbered 0 done) one.plug → IsToRegister core place
  can_be_registered place is =
      let T : PlaceSeen → Type 0 = λ p. IsToRegister core p in
      let Q : Bool → Type 0 = λ b. IsToRegister core (place_if one.plug b) in
      subst T (sym is) (subst Q (sym unnamed) (record { opening = K; past = past; number = length done; stands = h.runs.stands; free = next_free; stands_there = refl }))

  module _ (place new : PlaceSeen) (after : CoreSeen) (config : List ℕ) (is : place ≡ place_with [] (numbered 0 done) one.plug) (same : config ≡ one.config)
      (w : WasRegistered config place new core after) where
    stood : place ≡ place_if one.plug false
    stood = is ∙ ap (place_if one.plug) unnamed

    told-is : w.told ≡ one.plug.tells
    told-is = same_Some w.told one.plug.tells (sym w.was ∙ ap (λ (p : PlaceSeen). p.tells) stood)

    stands_so : Stands K after (past ▸ event_of place config w.told (Ok w.reg))
    stands_so = w.makes 0 K past h.runs.stands tt

    same_event : event_of place config w.told (Ok w.reg) ≡ registers past one
    same_event =
        ap (λ (r : Result ℕ RegisterFault). event_of place config w.told r) stands_so.legal.1
        ∙ ap (λ (p : PlaceSeen). event_of p config w.told (register_answer past p.name)) stood
        ∙ ap (λ (c : List ℕ). event_of (place_if one.plug false) c w.told (register_answer past one.plug.name)) same
        ∙ ap (λ (t : PlugTells). event_of (place_if one.plug false) one.config t (register_answer past one.plug.name)) told-is

    stands_after : Stands K after (all_registered (done ++ one ∷ []) [])
    stands_after =
        let S : History → Type 0 = λ P. Stands K after P in
        subst S (ap (λ (e : Event). past ▸ e) same_event ∙ sym (registered_more done one [])) stands_so

    registered_now : registrations (all_registered (done ++ one ∷ []) []) ≡ numbered 0 (done ++ one ∷ [])
    registered_now =
        ap registrations (registered_more done one [])
        ∙ ap (λ (r : Result ℕ RegisterFault). registrations (past ▸ entry.Register 0 one.plug.name (joining.Plug one.plug.kinds one.config one.plug.tells) r)) next_free
        ∙ ap (λ (n : ℕ). registrations past ++ registration_of n one ∷ []) (ap length h.registered ∙ length-numbered 0 done)
        ∙ ap (λ (gs : List Registration). gs ++ registration_of (length done) one ∷ []) h.registered
        ∙ ap (λ (n : ℕ). numbered 0 done ++ registration_of n one ∷ []) (let e : length done ≡ 0 + length done = omega arith in e)
        ∙ sym (numbered-append 0 done (one ∷ []))

    others_stay : OthersStay one.plug.name (place_with [] (numbered 0 done)) (place_with [] (numbered 0 (done ++ one ∷ [])))
    others_stay other apart = ap (place_if other) (sym (other_named 0 done one other.name apart))

    -- it was registered besides, and its place is empty
    pub registers_next : (i : ℕ) → slice_get shelf i ≡ Some one.plug → HasLoaded K shelf (done ++ one ∷ []) after (set shown i new)
    registers_next i at = record {
      runs = record {
        stands = stands_after;
        home = λ r. none_taken (done ++ one ∷ []) [] r;
        is_so = never_stopped (done ++ one ∷ []) [];
      };
      registered = registered_now;
      places = ap (λ (s : List PlaceSeen). set s i new) h.places
          ∙ one_changed (place_with [] (numbered 0 done)) (place_with [] (numbered 0 (done ++ one ∷ []))) shelf i one.plug new can.shelf_differs at
          (w.is ∙ ap emptied stood ∙ ap (place_if one.plug) (sym (own_named 0 done one))) others_stay;
    }

-- at first nothing was registered
pub nothing_loaded : (K : Opening) (shelf : List OnShelf) (core : CoreSeen) (shown : List PlaceSeen) → Stands K core [] → shown ≡ map (place_with [] []) shelf
    → HasLoaded K shelf [] core shown
nothing_loaded K shelf core shown stands is = record { runs = record { stands = stands; home = λ r. refl; is_so = refl }; registered = refl; places = is }
