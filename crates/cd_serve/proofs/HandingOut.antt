-- Registrations are closed and their objects handed out, one after another.
use Rattle.cd_core.specs.Objects.{TellsHome, home_after}
use Rattle.cd_core.specs.Seen.{CoreSeen}
use Rattle.cd_core.specs.Stands.{Anyhow, Makes, Stands}
use Rattle.cd_daemon.specs.Answers.{close_answer, home_or_pending, may_be_taken, retire_answer}
use Rattle.cd_daemon.specs.Calls.{calls_to, pending}
use Rattle.cd_daemon.specs.Legal.{IsLegal}
use Rattle.cd_daemon.specs.declared.Opening.{Opening}
use Rattle.cd_history.specs.History.{Event, History, ◌▸◌}
use Rattle.cd_history.specs.Leases.{answered, answered_as, taken_by, takes}
use Rattle.cd_history.specs.Registrations.{Registration, closed_by, is_closed, is_retired, is_text, live, registrations}
use Rattle.cd_history.specs.declared.entry.Entry.TheVariants as entry
use Rattle.cd_registry.specs.Told.{told_after_all}
use Rattle.cd_registry.specs.declared.calls.AnsweredCall.{AnsweredCall}
use Rattle.cd_registry.specs.declared.faults.RetireFault.TheVariants as held_back
use Rattle.cd_registry.specs.declared.faults.RetireFault.{RetireFault}
use Rattle.cd_registry.specs.declared.place.Place.TheVariants.{PlugHome}
use Rattle.cd_registry.specs.declared.place.Place.{Place}
use Rattle.cd_registry.specs.declared.plug.PlugTells.{PlugTells}
use Rattle.cd_registry.specs.declared.probe.ProbeTells.{ProbeTells}
use Rattle.cd_serve.proofs.Named.{AllDiffer, OthersStay, differ_both_ways, differs_in, none_behind, numbered_at, one_changed, same_name, same_number}
use Rattle.cd_serve.proofs.Registering.{all_live}
use Rattle.cd_serve.specs.Working.Loading.{AllAreBack, CanBeHandedOut, HandsOut, HasHandedOut, NoneWaits, PlaceSeen, WasHandedOut, has_name, names_of, numbered, place_with, plugs_of, registration_of, there_unless}
use Rattle.cd_transcript.specs.LineRuns.{Loaded, OnShelf, all_handed_out}
use Rattle.std.proofs.Common.{Bool, Err, IfSome, List, None, Ok, Option, Result, Some, [], ap, append-nil, append_assoc, arith, cond, false, is_some, length, length-append, map, nat_eq, not, refl, slice_get, subst, sym, true, ℕ, ◌&&◌, ◌++◌, ◌+◌, ◌-◌, ◌<◌, ◌∙◌, ◌∷◌, ◌≡◌, ◌≤◌, ◌||◌}
use Rattle.std.proofs.Math.ListN.{set}
use Rattle.std.proofs.lemmas.Bool.{eqb-true, ne_eqb}
use Rattle.std.proofs.lemmas.Option.{same_Some}
use Rattle.std.specs.List.{IsDistinct, filter, find, flat_map}
use Rattle.std.specs.Option.{option_map}
use Rattle.std.specs.Str.{bytes_eq}

-- ---- one registration

-- a registration whose object can be handed out, and the history after that
module _ (K : Opening) (P : History) (g : Registration) where
  abbrev pub after_close : History
  after_close = P ▸ entry.Close 0 g.name (close_answer P g.name)

  abbrev pub after_retire : History
  after_retire = after_close ▸ entry.Retire 0 g.number (retire_answer K after_close g.number)

  -- no call is made by closing
  pending_stays : (r : ℕ) → pending K after_close r ≡ pending K P r
  pending_stays r = ap (λ (n : ℕ). n - takes r P) (ap length (append-nil (calls_to K r P)))

  pending_stays_on : (r : ℕ) → pending K after_retire r ≡ pending K P r
  pending_stays_on r = ap (λ (n : ℕ). n - takes r P) (ap length (append-nil (calls_to K r after_close))) ∙ pending_stays r

  module _ (named : close_answer P g.name ≡ Some g.number) (kept : is_retired g.number P ≡ false) (home : taken_by g.number P ≡ None) (waits : pending K P g.number ≡ 0) where
    pub closed-is : (r : ℕ) → is_closed r after_close ≡ (nat_eq g.number r || is_closed r P)
    closed-is r = ap (λ (o : Option ℕ). is_closed r (P ▸ entry.Close 0 g.name o)) named

    pub closed_by_us : IfSome (closed_by g.number after_close) (λ closer. closer ≡ 0)
    closed_by_us = rw (named, same_number g.number) refl

    pub retires : retire_answer K after_close g.number ≡ Ok tt
    retires = by (is_closed g.number after_close) closed (is_retired g.number P) kept (taken_by g.number P) home (pending K after_close g.number) (pending_stays g.number ∙ waits)
      where
        closed : is_closed g.number after_close ≡ true
        closed = closed-is g.number ∙ ap (λ (b : Bool). b || is_closed g.number P) (same_number g.number)

        by : (closed : Bool) → closed ≡ true → (retired : Bool) → retired ≡ false → (taken : Option ℕ) → taken ≡ None → (waiting : ℕ) → waiting ≡ 0
            → cond (not closed || retired) (Err held_back.NotRegistered)
            (elim taken as (λ o. Result (Unit {0}) RetireFault) [ Some a ↦ Err (held_back.Out a) | None ↦ home_or_pending waiting ]) ≡ Ok tt
        by false a retired b taken c waiting d = absurd (cc)
        by true a true b taken c waiting d = absurd (cc)
        by true a false b (Some actor) c waiting d = absurd (cc)
        by true a false b None c waiting d = ap home_or_pending d

    pub retired-is : (r : ℕ) → is_retired r after_retire ≡ (nat_eq g.number r || is_retired r P)
    retired-is r = ap (λ (o : Result (Unit {0}) RetireFault). is_retired r (after_close ▸ entry.Retire 0 g.number o)) retires

-- ---- who is live then

-- the live ones are those that were, but for the one that was closed
live_without : (regs : List Registration) (closed then : ℕ → Bool) (n : ℕ) → ((r : ℕ) → then r ≡ (nat_eq n r || closed r))
    → filter (λ g. not (then g.number)) regs ≡ filter (λ (g : Registration). not (nat_eq n g.number)) (filter (λ (g : Registration). not (closed g.number)) regs)
live_without [] closed then n is = refl
live_without (g ∷ regs) closed then n is =
    ap (λ (b : Bool). cond (not b) (g ∷ filter (λ g. not (then g.number)) regs) (filter (λ g. not (then g.number)) regs)) (is g.number)
    ∙ by (nat_eq n g.number) refl (closed g.number) (live_without regs closed then n is)
  where
    rest : List Registration
    rest = filter (λ g. not (then g.number)) regs

    before : List Registration
    before = filter (λ (g : Registration). not (closed g.number)) regs

    by : (same : Bool) → nat_eq n g.number ≡ same → (shut : Bool) → filter (λ g. not (then g.number)) regs ≡ filter (λ (g : Registration). not (nat_eq n g.number)) (filter (λ (g : Registration). not (closed g.number)) regs)
        → cond (not (same || shut)) (g ∷ filter (λ g. not (then g.number)) regs) (filter (λ g. not (then g.number)) regs)
        ≡ filter (λ (g : Registration). not (nat_eq n g.number)) (cond (not shut) (g ∷ filter (λ (g : Registration). not (closed g.number)) regs) (filter (λ (g : Registration). not (closed g.number)) regs))
    by true e true more = more
    by true e false more = rw e more
    by false e true more = more
    by false e false more = rw e (ap (λ (gs : List Registration). g ∷ gs) more)

later_numbers : (n m : ℕ) (more : List Loaded) → n < m → filter (λ (g : Registration). not (nat_eq n g.number)) (numbered m more) ≡ numbered m more
later_numbers n m [] less = refl
later_numbers n m (x ∷ more) less =
    rw (ne_eqb n m (λ e. absurd (omega (arith, e, less)))) (ap (λ (gs : List Registration). registration_of m x ∷ gs) (later_numbers n (m + 1) more (omega (arith, less))))

without_first : (n : ℕ) (one : Loaded) (more : List Loaded) → filter (λ (g : Registration). not (nat_eq n g.number)) (numbered n (one ∷ more)) ≡ numbered (n + 1) more
without_first n one more = rw (same_number n) (later_numbers n (n + 1) more (omega arith))

-- ---- the next one

none_waits_then : (K : Opening) (P Q : History) (n : ℕ) (more : List Loaded) → ((r : ℕ) → pending K Q r ≡ pending K P r) → NoneWaits K P n more → NoneWaits K Q n more
none_waits_then K P Q n [] same none = tt
none_waits_then K P Q n (x ∷ more) same none = (same n ∙ none.0, none_waits_then K P Q (n + 1) more same none.1)

module _ {K : Opening} {core : CoreSeen} {P : History} {done : List Loaded} {one : Loaded} {more : List Loaded} (h : HandsOut K core P done (one ∷ more)) where
  abbrev own : Registration
  own = registration_of (length done) one

  abbrev pub then : History
  then = after_retire K P own

  pub closes : close_answer P one.plug.name ≡ Some (length done)
  closes =
      ap (λ (gs : List Registration). option_map (λ (x : Registration). x.number) (find (λ x. is_text x.name one.plug.name) gs)) h.live
      ∙ rw (same_name one.plug.name) refl

  kept : is_retired (length done) P ≡ false
  kept = h.unretired (length done) (omega arith)

  pub closer : IfSome (closed_by (length done) (after_close K P own)) (λ closer. closer ≡ 0)
  closer = closed_by_us K P own closes kept (h.home (length done)) h.none_waits.0

  pub retires_ok : retire_answer K (after_close K P own) (length done) ≡ Ok tt
  retires_ok = retires K P own closes kept (h.home (length done)) h.none_waits.0

  many : length (done ++ one ∷ []) ≡ length done + 1
  many = omega (arith, length-append done (one ∷ []))

  live_then : live then ≡ numbered (length done + 1) more
  live_then =
      live_without (registrations P) (λ r. is_closed r P) (λ r. is_closed r then) (length done) (closed-is K P own closes kept (h.home (length done)) h.none_waits.0)
      ∙ ap (filter (λ (g : Registration). not (nat_eq (length done) g.number))) h.live
      ∙ without_first (length done) one more

  unretired_then : (r : ℕ) → length done + 1 ≤ r → is_retired r then ≡ false
  unretired_then r above =
      retired-is K P own closes kept (h.home (length done)) h.none_waits.0 r
      ∙ ap (λ (b : Bool). b || is_retired r P) (ne_eqb (length done) r (λ e. absurd (omega (arith, e, above))))
      ∙ h.unretired r (omega (arith, above))

  -- one more was handed out
  pub hands_next : (after : CoreSeen) → Stands K after then → HandsOut K after then (done ++ one ∷ []) more
  hands_next after stands =
      let N : ℕ → Type 0 = λ n. NoneWaits K then n more in
      record {
        stands = stands;
        registered = h.registered ∙ ap (numbered 0) (sym (append_assoc done (one ∷ []) more));
        live = live_then ∙ ap (λ (n : ℕ). numbered n more) (sym many);
        home = h.home;
        unretired = λ r above. unretired_then r (omega (arith, above, many));
        none_waits = subst N (sym many) (none_waits_then K P then (length done + 1) more (pending_stays_on K P own) h.none_waits.1);
      }

  pub then_leads : all_handed_out K (numbered (length (done ++ one ∷ [])) more) then ≡ all_handed_out K (numbered (length done) (one ∷ more)) P
  then_leads = ap (λ (n : ℕ). all_handed_out K (numbered n more) then) many

  -- what comes out of the core is its object
  pub told_out : (home : Place PlugTells ProbeTells) → TellsHome (after_close K P own) (length done) home → home ≡ PlugHome (told_after_all (answered (length done) P) one.plug.tells)
  told_out home t =
      let same : t.registration ≡ own = same_Some t.registration own (sym t.registered ∙ ap (λ (gs : List Registration). slice_get gs (length done)) h.registered
      ∙ numbered_at 0 done one more ∙ ap (λ (n : ℕ). Some (registration_of n one)) (let e : 0 + length done ≡ length done = omega arith in e)) in
      t.tells ∙ ap (home_after (after_close K P own)) same

-- ---- the steps of the core

module _ {K : Opening} {before : CoreSeen} {P : History} {done : List Loaded} {one : Loaded} {more : List Loaded} (h : HandsOut K before P done (one ∷ more))
    (name : List ℕ) (named : name ≡ one.plug.name) (mid : CoreSeen) where
  shut_as : (reply : Option ℕ) → Makes before mid Anyhow (entry.Close 0 name reply) → reply ≡ Some (length done)
  shut_as reply makes = (makes K P h.stands tt).legal.1 ∙ ap (close_answer P) named ∙ closes h

  -- it can't be that nobody has the name
  pub never_unnamed : ((actor : ℕ) → Makes before mid Anyhow (entry.Close actor name None)) → ⊥
  never_unnamed makes = let e = shut_as None (makes 0) in cc

  module _ (reg : ℕ) (makes : (actor : ℕ) → Makes before mid Anyhow (entry.Close actor name (Some reg))) where
    reg_is : reg ≡ length done
    reg_is = same_Some reg (length done) (shut_as (Some reg) (makes 0))

    pub stands_shut : Stands K mid (after_close K P (registration_of (length done) one))
    stands_shut =
        let S : Event → Type 0 = λ e. Stands K mid (P ▸ e) in
        subst S (ap (λ (n : List ℕ). entry.Close 0 n (Some reg)) named ∙ ap (entry.Close 0 one.plug.name) (shut_as (Some reg) (makes 0) ∙ sym (closes h))) (makes 0 K P h.stands tt)

    module _ (after : CoreSeen) (answer : Result (Unit {0}) RetireFault)
        (retired : (actor : ℕ) → Makes mid after (λ K H. IfSome (closed_by reg H) (λ closer. closer ≡ actor)) (entry.Retire actor reg answer)) where
      stands_so : Stands K after (after_close K P (registration_of (length done) one) ▸ entry.Retire 0 (length done) answer)
      stands_so =
          let M : ℕ → Type 0 = λ r. Makes mid after (λ K H. IfSome (closed_by r H) (λ closer. closer ≡ 0)) (entry.Retire 0 r answer) in
          subst M reg_is (retired 0) K (after_close K P (registration_of (length done) one)) stands_shut (closer h)

      -- its object isn't kept back
      pub is_handed_out : answer ≡ Ok tt
      is_handed_out = stands_so.legal.1.0 ∙ retires_ok h

      pub stands_then : Stands K after (then h)
      stands_then =
          let S : Result (Unit {0}) RetireFault → Type 0 = λ r. Stands K after (after_close K P (registration_of (length done) one) ▸ entry.Retire 0 (length done) r) in
          subst S stands_so.legal.1.0 stands_so

    -- what comes out is its object
    pub home_is : (home : Place PlugTells ProbeTells) → ((K : Opening) (H : History) → Stands K mid H → TellsHome H reg home)
        → home ≡ PlugHome (told_after_all (answered (length done) P) one.plug.tells)
    home_is home tells =
        let T : ℕ → Type 0 = λ r. TellsHome (after_close K P (registration_of (length done) one)) r home in
        told_out h home (subst T reg_is (tells K (after_close K P (registration_of (length done) one)) stands_shut))

-- ---- all of them

-- nobody of a name was called where nobody has it
none_named : (regs : List Registration) (name : List ℕ) → has_name regs name ≡ false → filter (λ g. is_text g.name name) regs ≡ []
none_named [] name none = refl
none_named (g ∷ regs) name none = by (is_text g.name name) (none_named regs name) none
  where
    by : (t : Bool) → (has_name regs name ≡ false → filter (λ g. is_text g.name name) regs ≡ []) → (t || has_name regs name) ≡ false
        → cond t (g ∷ filter (λ g. is_text g.name name) regs) (filter (λ g. is_text g.name name) regs) ≡ []
    by false rest e = rest e
    by true rest e = absurd (cc)

none_called : (P : History) (regs : List Registration) (name : List ℕ) → registrations P ≡ regs → has_name regs name ≡ false → answered_as name P ≡ []
none_called P regs name is none =
    ap (λ (gs : List Registration). flat_map (λ g. answered g.number P) (filter (λ g. is_text g.name name) gs)) is
    ∙ ap (flat_map (λ (g : Registration). answered g.number P)) (none_named regs name none)

-- .. and those of one were, where one has it
one_named : (n : ℕ) (done : List Loaded) (one : Loaded) (more : List Loaded) → IsDistinct bytes_eq (names_of (plugs_of (done ++ one ∷ more)))
    → filter (λ g. is_text g.name one.plug.name) (numbered n (done ++ one ∷ more)) ≡ registration_of (n + length done) one ∷ []
unfolding IsDistinct
one_named n [] one more differ =
    rw (same_name one.plug.name) (ap (λ (gs : List Registration). registration_of n one ∷ gs) (none_left (n + 1) more differ.0) ∙ ap (λ (k : ℕ). registration_of k one ∷ []) (omega arith))
  where
    none_left : (k : ℕ) (xs : List Loaded) → AllDiffer one.plug.name (names_of (plugs_of xs)) → filter (λ g. is_text g.name one.plug.name) (numbered k xs) ≡ []
    none_left k [] all = refl
    none_left k (x ∷ xs) all = rw (differ_both_ways one.plug.name x.plug.name all.0) (none_left (k + 1) xs all.1)
one_named n (x ∷ done) one more differ =
    rw (differs_in x.plug.name done one more differ.0) (one_named (n + 1) done one more differ.1 ∙ ap (λ (k : ℕ). registration_of k one ∷ []) (omega arith))

own_calls : (P : History) (done : List Loaded) (one : Loaded) (more : List Loaded) → IsDistinct bytes_eq (names_of (plugs_of (done ++ one ∷ more)))
    → registrations P ≡ numbered 0 (done ++ one ∷ more) → answered_as one.plug.name P ≡ answered (length done) P
own_calls P done one more differ is =
    ap (λ (gs : List Registration). flat_map (λ g. answered g.number P) (filter (λ g. is_text g.name one.plug.name) gs)) is
    ∙ ap (flat_map (λ (g : Registration). answered g.number P)) (one_named 0 done one more differ)
    ∙ append-nil (answered (0 + length done) P)
    ∙ ap (λ (n : ℕ). answered n P) (let e : 0 + length done ≡ length done = omega arith in e)

abbrev place_if : OnShelf → Bool → PlugTells → PlaceSeen
place_if plug waits told = record { name = plug.name; kinds = plug.kinds; tells = there_unless waits told }

abbrev filled : PlaceSeen → PlugTells → PlaceSeen
filled place told = record place { tells = Some told }

module _ {K : Opening} {P : History} {shelf : List OnShelf} {done : List Loaded} {one : Loaded} {more : List Loaded} {core : CoreSeen} {shown : List PlaceSeen}
    (h : HasHandedOut K P shelf done (one ∷ more) core shown) (registered : registrations P ≡ numbered 0 (done ++ one ∷ more))
    (shelf_differs : IsDistinct bytes_eq (names_of shelf)) (differ : IsDistinct bytes_eq (names_of (plugs_of (done ++ one ∷ more)))) where
  abbrev told : PlugTells
  told = told_after_all (answered (length done) h.past) one.plug.tells

  others_stay : OthersStay one.plug.name (place_with P (numbered (length done) (one ∷ more))) (place_with P (numbered (length done + 1) more))
  others_stay other apart =
      ap (λ (b : Bool). place_if other (b || has_name (numbered (length done + 1) more) other.name) (told_after_all (answered_as other.name P) other.tells))
      (differ_both_ways other.name one.plug.name apart)

  stands_there : (place : PlaceSeen) → place ≡ place_with P (numbered (length done) (one ∷ more)) one.plug → filled place told ≡ place_with P (numbered (length done + 1) more) one.plug
  stands_there place is =
      ap (λ (p : PlaceSeen). filled p told) is
      ∙ ap (λ (cs : List AnsweredCall). place_if one.plug false (told_after_all cs one.plug.tells)) (h.answers (length done) ∙ sym (own_calls P done one more differ registered))
      ∙ ap (λ (b : Bool). place_if one.plug b (told_after_all (answered_as one.plug.name P) one.plug.tells)) (sym (none_behind (length done + 1) done one more differ))

  -- one more stands in its place
  pub one_is_back : (place new : PlaceSeen) (after : CoreSeen) → place ≡ place_with P (numbered (length done) (one ∷ more)) one.plug
      → WasHandedOut K h.past (length done) one place new after → (i : ℕ) → slice_get shelf i ≡ Some one.plug
      → HasHandedOut K P shelf (done ++ one ∷ []) more after (set shown i new)
  one_is_back place new after is w i at = record {
    past = then h.hands;
    hands = hands_next h.hands after w.stands;
    leads = then_leads h.hands ∙ h.leads ∙ ap (λ (xs : List Loaded). all_handed_out K (numbered 0 xs) P) (sym (append_assoc done (one ∷ []) more));
    answers = h.answers;
    places = ap (λ (s : List PlaceSeen). set s i new) h.places
        ∙ one_changed (place_with P (numbered (length done) (one ∷ more))) (place_with P (numbered (length done + 1) more)) shelf i one.plug new shelf_differs at
        (w.is ∙ stands_there place is) others_stay
        ∙ ap (λ (n : ℕ). map (place_with P (numbered n more)) shelf) (sym (many h.hands));
  }

-- ---- the beginning

none_waits_at : (K : Opening) (P : History) (n : ℕ) (more : List Loaded) → ((r : ℕ) → is_retired r P ≡ false) → ((r : ℕ) → taken_by r P ≡ None)
    → find (may_be_taken K P) (numbered n more) ≡ None → NoneWaits K P n more
none_waits_at K P n [] unretired home none = tt
none_waits_at K P n (x ∷ more) unretired home none =
    by (none_waits_at K P (n + 1) more unretired home) (is_retired n P) (unretired n) (taken_by n P) (home n) (nat_eq (pending K P n) 0) refl none
  where
    by : (find (may_be_taken K P) (numbered (n + 1) more) ≡ None → NoneWaits K P (n + 1) more) → (retired : Bool) → retired ≡ false → (taken : Option ℕ) → taken ≡ None → (zero : Bool) → nat_eq (pending K P n) 0 ≡ zero
        → cond (true && not retired && not (is_some taken) && not zero) (Some (registration_of n x)) (find (may_be_taken K P) (numbered (n + 1) more)) ≡ None
        → NoneWaits K P n (x ∷ more)
    by rest true a taken b zero c none = absurd (cc)
    by rest false a (Some actor) b zero c none = absurd (cc)
    by rest false a None b false c none = absurd (cc)
    by rest false a None b true c none = (eqb-true (pending K P n) 0 c, rest none)

none_found : (o : Option Registration) → option_map (λ (g : Registration). g.number) o ≡ None → o ≡ None
none_found None is = refl
none_found (Some g) is = absurd (cc)

module _ {K : Opening} {P : History} {shelf : List OnShelf} {loaded : List Loaded} {core : CoreSeen} {order : List ℕ} {shown : List PlaceSeen}
    (can : CanBeHandedOut K P shelf loaded core order shown) where
  places_at_first : (plugs : List OnShelf) → map (place_with [] (numbered 0 loaded)) plugs ≡ map (place_with P (numbered 0 loaded)) plugs
  places_at_first [] = refl
  places_at_first (plug ∷ plugs) =
      ap (λ (p : PlaceSeen). p ∷ map (place_with [] (numbered 0 loaded)) plugs) (by (has_name (numbered 0 loaded) plug.name) refl)
      ∙ ap (λ (ps : List PlaceSeen). place_with P (numbered 0 loaded) plug ∷ ps) (places_at_first plugs)
    where
      by : (b : Bool) → has_name (numbered 0 loaded) plug.name ≡ b → place_if plug b plug.tells ≡ place_if plug b (told_after_all (answered_as plug.name P) plug.tells)
      by true e = refl
      by false e = ap (λ (cs : List AnsweredCall). place_if plug false (told_after_all cs plug.tells)) (sym (none_called P (numbered 0 loaded) plug.name can.registered e))

  pub nobody_is_back : HasHandedOut K P shelf [] loaded core shown
  nobody_is_back = record {
    past = P;
    hands = record {
      stands = can.stands;
      registered = can.registered;
      live = all_live P (registrations P) can.unclosed ∙ can.registered;
      home = can.home;
      unretired = λ r above. can.unretired r;
      none_waits = none_waits_at K P 0 loaded can.unretired can.home
          (ap (find (may_be_taken K P)) (sym can.registered) ∙ none_found (find (may_be_taken K P) (registrations P)) can.none_ready);
    };
    leads = refl;
    answers = λ r. refl;
    places = can.places ∙ places_at_first shelf;
  }

-- ---- the end

pub all_are_back : (K : Opening) (P : History) (shelf : List OnShelf) (loaded : List Loaded) (core : CoreSeen) (shown : List PlaceSeen)
    → HasHandedOut K P shelf loaded [] core shown → AllAreBack K P shelf loaded shown
all_are_back K P shelf loaded core shown h =
    let L : History → Type 0 = λ H. IsLegal K H in
    record {
      legal = subst L (h.leads ∙ ap (λ (xs : List Loaded). all_handed_out K (numbered 0 xs) P) (append-nil loaded)) h.hands.stands.legal;
      places = h.places;
    }
