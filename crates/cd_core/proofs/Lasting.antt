-- Along lists of steps, and what lasts until a plug-in comes home.
use Rattle.cd_daemon.proofs.Leaving.{idle_by}
use Rattle.cd_daemon.proofs.Legality.{free, number_of, numbered, takeable}
use Rattle.cd_daemon.proofs.Lists.{number_at}
use Rattle.cd_core.proofs.Rows.{rows_quiet}
use Rattle.cd_core.proofs.Standing.{quiet}
use Rattle.cd_daemon.specs.Answers.{is_idle, ready, retire_answer}
use Rattle.cd_daemon.specs.Legal.{Allowed, IsLegal}
use Rattle.cd_core.specs.Objects.{IsLent, home_after, home_with, place_after, place_by}
use Rattle.cd_core.specs.Seen.{CoreSeen}
use Rattle.cd_core.specs.Stands.{Stands, row_after}
use Rattle.cd_core.specs.Steps.{AllMay, AreSteps, Step, core_after, history_after, is_brought_home_by, is_home_of}
use Rattle.cd_daemon.specs.declared.Opening.{Opening}
use Rattle.cd_history.specs.History.{Event, History, ◌▸◌}
use Rattle.cd_history.specs.Leases.{answered, taken_by}
use Rattle.cd_history.specs.Order.{IsFrontOf}
use Rattle.cd_history.specs.Registrations.{Registration, is_retired, registrations}
use Rattle.cd_history.specs.declared.entry.Entry.TheVariants as entry
use Rattle.cd_registry.specs.declared.calls.Call.{Call}
use Rattle.cd_registry.specs.Rows.{At, IsPlugOut, Row}
use Rattle.cd_registry.specs.declared.place.Place.TheVariants.{PlugOut}
use Rattle.cd_registry.specs.declared.plug.PlugTells.{PlugTells}
use Rattle.std.proofs.Common.{Bool, IsSomeAnd, IsTrue, List, None, Ok, Option, Some, [], ap, cond, eq-eqb, false, is_some, map, nat_eq, not, refl, slice_get, subst, suc, sym, true, zero, ℕ, ◌&&◌, ◌++◌, ◌∙◌, ◌∷◌, ◌≡◌, ◌||◌}
use Rattle.std.proofs.lemmas.Bool.{and_from, and_parts, eqb-true, ne_eqb, not-true}
use Rattle.std.proofs.lemmas.Option.{none-some, same_Some, slice_get-map}
use Rattle.std.specs.List.{list_all}
use Rattle.std.specs.Option.{option_map}

pub steps_stand : (K : Opening) (core : CoreSeen) (P : History) (steps : List Step) → Stands K core P → AreSteps core steps → AllMay K P steps
    → Stands K (core_after core steps) (history_after P steps)
steps_stand K core P [] s are may = s
steps_stand K core P (step ∷ steps) s are may = steps_stand K step.after (P ▸ step.event) steps (are.0 K P s may.0) are.1 may.1

pub looked : (K : Opening) (core : CoreSeen) (P : History) (actor : ℕ) (idle : Bool) → Stands K core P → (idle ≡ true → IsTrue (is_idle K P)) → Stands K core (P ▸ entry.Look actor idle)
looked K core P actor idle s may = quiet K core core.rows P (entry.Look actor idle) refl s may refl refl (rows_quiet K P) refl refl refl refl

-- ---- a plug-in that is out

still_there : {A : Type 0} (xs ys : List A) (i : ℕ) (x : A) → slice_get xs i ≡ Some x → slice_get (xs ++ ys) i ≡ Some x
still_there [] ys i x at = absurd (none-some x at)
still_there (y ∷ xs) ys zero x at = at
still_there (y ∷ xs) ys (suc i) x at = still_there xs ys i x at

module _ (K : Opening) (P : History) (actor reg : ℕ) (call : Call) (told : PlugTells) (lent : IsLent P actor reg call told) where
  -- a call of another is taken
  other_taken : (a n : ℕ) (c : Call) → Allowed K P (entry.Take a n c) → nat_eq n reg ≡ false
  other_taken a n c may = ne_eqb n reg (λ same.
      let T : ℕ → Type 0 = λ m. is_some (taken_by m P) ≡ false in
      let home : is_some (taken_by reg P) ≡ false = subst T same (takeable K P n may.0).home in
      let both : true ≡ false = ap is_some (sym lent.with_actor) ∙ home in
      absurd (cc))

  pub stays_out : (e : Event) → Allowed K P e → is_home_of reg e ≡ false → IsLent (P ▸ e) actor reg call told
  stays_out (entry.Register a name joining (Ok n)) may other = record {
    with_actor = lent.with_actor;
    out_for = lent.out_for;
    told_home = record {
      registration = lent.told_home.registration;
      registered = still_there (registrations P) _ reg lent.told_home.registration lent.told_home.registered;
      tells = lent.told_home.tells;
    };
  }
  stays_out (entry.Take a n c) may other =
      let elsewhere : nat_eq n reg ≡ false = other_taken a n c may in
      record {
        with_actor = rw elsewhere lent.with_actor;
        out_for = rw elsewhere lent.out_for;
        told_home = record { registration = lent.told_home.registration; registered = lent.told_home.registered; tells = lent.told_home.tells };
      }
  stays_out (entry.Done a n answer) may other = record {
    with_actor = rw other lent.with_actor;
    out_for = rw other lent.out_for;
    told_home = record {
      registration = lent.told_home.registration;
      registered = lent.told_home.registered;
      tells = lent.told_home.tells
          ∙ ap (home_with lent.told_home.registration.joining) (unanswered lent.told_home.registration.number (number_at number_of (registrations P) reg lent.told_home.registration (numbered P) lent.told_home.registered));
    };
  }
    where
      unanswered : (m : ℕ) → m ≡ reg → answered m P ≡ answered m (P ▸ entry.Done a n answer)
      unanswered m is =
          let elsewhere : nat_eq n m ≡ false = ap (nat_eq n) is ∙ other in
          rw elsewhere refl
  stays_out e may other = record {
    with_actor = lent.with_actor;
    out_for = lent.out_for;
    told_home = record { registration = lent.told_home.registration; registered = lent.told_home.registered; tells = lent.told_home.tells };
  }

-- ---- .. along a history

-- nobody else brings it home
other_home : (K : Opening) (P : History) (actor reg : ℕ) (call : Call) (told : PlugTells) (e : Event) → Allowed K P e → IsLent P actor reg call told → is_brought_home_by actor reg e ≡ false → is_home_of reg e ≡ false
other_home K P actor reg call told (entry.Done a n answer) may lent other = by (nat_eq n reg) refl
  where
    by : (b : Bool) → nat_eq n reg ≡ b → b ≡ false
    by true is =
        let T : ℕ → Type 0 = λ m. taken_by m P ≡ Some a in
        let same : a ≡ actor = same_Some a actor (sym (subst T (eqb-true n reg is) may) ∙ lent.with_actor) in
        let both : (nat_eq a actor && nat_eq n reg) ≡ true = and_from (nat_eq a actor) (nat_eq n reg) (eq-eqb a actor same) is in
        let never : true ≡ false = sym both ∙ other in
        absurd (cc)
    by false is = refl
other_home K P actor reg call told e may lent other = refl

pub stays_out_along : (K : Opening) (P H : History) (actor reg : ℕ) (call : Call) (told : PlugTells) (front : IsFrontOf P H) → IsLegal K H
    → list_all (λ e. not (is_brought_home_by actor reg e)) front.later ≡ true → IsLent P actor reg call told → IsLent H actor reg call told
stays_out_along K P H actor reg call told front legal none lent =
    let L : History → Type 0 = λ H. IsLent H actor reg call told in
    subst L (sym front.is) (along front.later (subst (IsLegal K) front.is legal) none)
  where
    along : (later : History) → IsLegal K (later ++ P) → list_all (λ e. not (is_brought_home_by actor reg e)) later ≡ true → IsLent (later ++ P) actor reg call told
    along [] l all = lent
    along (e ∷ later) l all =
        let two = and_parts (not (is_brought_home_by actor reg e)) (list_all (λ e. not (is_brought_home_by actor reg e)) later) all in
        let before = along later l.0 two.1 in
        stays_out K (later ++ P) actor reg call told before e l.1
        (other_home K (later ++ P) actor reg call told e l.1 before (not-true (is_brought_home_by actor reg e) two.0))

-- ---- nothing is left to do

pub without_work : (K : Opening) (core : CoreSeen) (P : History) → Stands K core P → core.queue ≡ [] → ready K P ≡ None → is_idle K P ≡ true
without_work K core P s none nobody = idle_by K P (sym s.queue ∙ none) nobody

-- ---- one that is out is out in the core

module _ (K : Opening) (r actor : ℕ) where
  -- by the number of the entry
  retired_other : (P : History) (n : ℕ) (u : Unit {0}) (b : Bool) → nat_eq n r ≡ b → Ok u ≡ retire_answer K P n → taken_by r P ≡ Some actor → is_retired r P ≡ false → (nat_eq n r || is_retired r P) ≡ false
  retired_other P n u true is answer taken kept =
      let T : ℕ → Type 0 = λ m. taken_by m P ≡ None in
      absurd (none-some actor (sym (subst T (eqb-true n r is) (free K P n u answer).home) ∙ taken))
  retired_other P n u false is answer taken kept = rw is kept

  taken_kept : (P : History) (a n : ℕ) (c : Call) (b : Bool) → nat_eq n r ≡ b → Allowed K P (entry.Take a n c) → (taken_by r P ≡ Some actor → is_retired r P ≡ false)
      → cond b (Some a) (taken_by r P) ≡ Some actor → is_retired r P ≡ false
  taken_kept P a n c true is may before taken =
      let R : ℕ → Type 0 = λ m. is_retired m P ≡ false in
      subst R (eqb-true n r is) (takeable K P n may.0).kept
  taken_kept P a n c false is may before taken = before taken

  done_kept : (P : History) (b : Bool) → (taken_by r P ≡ Some actor → is_retired r P ≡ false) → cond b None (taken_by r P) ≡ Some actor → is_retired r P ≡ false
  done_kept P true before taken = absurd (none-some actor taken)
  done_kept P false before taken = before taken

  out_kept : (P : History) → IsLegal K P → taken_by r P ≡ Some actor → is_retired r P ≡ false
  out_kept [] legal taken = refl
  out_kept (P ▸ entry.Retire a n (Ok u)) legal taken = retired_other P n u (nat_eq n r) refl legal.1.0 taken (out_kept P legal.0 taken)
  out_kept (P ▸ entry.Take a n c) legal taken = taken_kept P a n c (nat_eq n r) refl legal.1 (out_kept P legal.0) taken
  out_kept (P ▸ entry.Done a n answer) legal taken = done_kept P (nat_eq n r) (out_kept P legal.0) taken
  out_kept (P ▸ e) legal taken = out_kept P legal.0 taken

at_some : {A B : Type 0} (show : A → B) (xs : List A) (i : ℕ) (x : A) (Q : B → Type 0) → slice_get xs i ≡ Some x → Q (show x) → IsSomeAnd (slice_get (map show xs) i) Q
at_some {A} {B} show xs i x Q at fact =
    let S : Option B → Type 0 = λ o. IsSomeAnd o Q in
    subst S (sym (slice_get-map show xs i ∙ ap (option_map show) at)) fact

pub out_in_core : (K : Opening) (core : CoreSeen) (P : History) (actor reg : ℕ) (call : Call) (told : PlugTells) → Stands K core P → IsLent P actor reg call told → At core.rows reg IsPlugOut
out_in_core K core P actor reg call told s lent =
    let g : Registration = lent.told_home.registration in
    let number : g.number ≡ reg = number_at number_of (registrations P) reg g (numbered P) lent.told_home.registered in
    let A : List Row → Type 0 = λ rows. At rows reg IsPlugOut in
    let T : ℕ → Type 0 = λ n. taken_by n P ≡ Some actor in
    let R : ℕ → Type 0 = λ n. is_retired n P ≡ false in
    let taken : taken_by g.number P ≡ Some actor = subst T (sym number) lent.with_actor in
    let kept : is_retired g.number P ≡ false = subst R (sym number) (out_kept K reg actor P s.legal lent.with_actor) in
    let place : place_after P g ≡ PlugOut actor = ap (λ (b : Bool). place_by b (taken_by g.number P) (home_after P g)) kept ∙ ap (λ (o : Option ℕ). place_by false o (home_after P g)) taken in
    subst A (sym s.rows) (at_some (row_after K P) (registrations P) reg g IsPlugOut lent.told_home.registered (record { actor = actor; out = place }))
