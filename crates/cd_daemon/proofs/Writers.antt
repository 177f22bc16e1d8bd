-- The calls that handling a list makes are writes, to live writers alone.
use Rattle.cd_cache.specs.Cache.{CacheMap, updated}
use Rattle.cd_chain.specs.declared.data.Action.TheVariants as actions
use Rattle.cd_chain.specs.declared.data.Action.{Action}
use Rattle.cd_chain.specs.declared.data.Run.{Run}
use Rattle.cd_daemon.specs.Calls.{sent_to}
use Rattle.cd_daemon.specs.Handling.{after_run, handling, handling_as, is_stop, run_before, run_behind, scene_of, set_of}
use Rattle.cd_daemon.specs.Performing.{Effects, Post, each_once, nothing, perform, perform_all, to_each, write_to, writer_named}
use Rattle.cd_daemon.specs.declared.Opening.{Opening}
use Rattle.cd_daemon.specs.declared.Rules.{Rules}
use Rattle.cd_history.specs.Registrations.{Registration, has_kind, is_text, listeners}
use Rattle.cd_registry.specs.declared.calls.Call.TheVariants as calls
use Rattle.cd_registry.specs.declared.calls.Call.{Call}
use Rattle.cd_registry.specs.declared.kinds.TheConstants.Kinds.{WRITE}
use Rattle.cd_value.specs.declared.data.DataSet.{DataSet}
use Rattle.cd_value.specs.declared.data.ValueList.{ValueList}
use Rattle.std.proofs.Common.{Bool, List, None, Option, Some, [], ap, arith, cond, false, map, nat_eq, not, refl, true, ℕ, ◌&&◌, ◌++◌, ◌∷◌, ◌≡◌}
use Rattle.std.specs.List.{filter, find, fold, list_all}
use Rattle.std.specs.Option.{option_map}

both : (a b : Bool) → (a && b) ≡ true → (a ≡ true) × (b ≡ true)
both true b is = (refl, is)
both false b is = absurd (cc)

same_number : (n : ℕ) → nat_eq n n ≡ true
same_number n = grind arith

-- a call that writes a list
abbrev pub is_write : Call → Bool
is_write (calls.Write list) = true
is_write call = false

-- what is true of all by two tests is so by each
all_first : (h k : Post → Bool) (posts : List Post) → list_all (λ (p : Post). h p && k p) posts ≡ true → list_all h posts ≡ true
all_first h k [] all = refl
all_first h k (p ∷ posts) all =
    let two = both (h p && k p) (list_all (λ (p : Post). h p && k p) posts) all in
    rw (both (h p) (k p) two.0).0 (all_first h k posts two.1)

all_second : (h k : Post → Bool) (posts : List Post) → list_all (λ (p : Post). h p && k p) posts ≡ true → list_all k posts ≡ true
all_second h k [] all = refl
all_second h k (p ∷ posts) all =
    let two = both (h p && k p) (list_all (λ (p : Post). h p && k p) posts) all in
    rw (both (h p) (k p) two.0).1 (all_second h k posts two.1)

-- ---- each call is a write, and what holds of the number of each live writer holds of its registration

module _ (holds : ℕ → Bool) where
  abbrev all_hold : List Post → Bool
  all_hold posts = list_all (λ (p : Post). holds p.reg && is_write p.call) posts

  all_hold-append : (xs ys : List Post) → all_hold xs ≡ true → all_hold ys ≡ true → all_hold (xs ++ ys) ≡ true
  all_hold-append [] ys first then = then
  all_hold-append (x ∷ xs) ys first then =
      let two = both (holds x.reg && is_write x.call) (all_hold xs) first in
      rw (two.0, all_hold-append xs ys two.1 then) refl

  all_hold-to_each : (regs : List ℕ) (list : ValueList) → list_all holds regs ≡ true → all_hold (to_each regs (calls.Write list)) ≡ true
  all_hold-to_each [] list all = refl
  all_hold-to_each (r ∷ regs) list all =
      let two = both (holds r) (list_all holds regs) all in
      rw (two.0, all_hold-to_each regs list two.1) refl

  -- of a writer, where there is one
  abbrev holds_if_any : Option ℕ → Bool
  holds_if_any None = true
  holds_if_any (Some r) = holds r

  holds_found : (regs : List Registration) (name : List ℕ) → list_all holds (listeners WRITE regs) ≡ true → holds_if_any (writer_named regs name) ≡ true
  holds_found [] name all = refl
  holds_found (g ∷ regs) name all = by (is_text g.name name) (has_kind WRITE g) (holds_found regs name) all
    where
      by : (same writes : Bool) → (list_all holds (listeners WRITE regs) ≡ true → holds_if_any (writer_named regs name) ≡ true)
          → list_all holds (map (λ (g : Registration). g.number) (cond writes (g ∷ filter (has_kind WRITE) regs) (filter (has_kind WRITE) regs))) ≡ true
          → holds_if_any (option_map (λ (g : Registration). g.number) (cond (same && writes) (Some g) (find (λ (g : Registration). is_text g.name name && has_kind WRITE g) regs))) ≡ true
      by true true rest all = (both (holds g.number) (list_all holds (listeners WRITE regs)) all).0
      by false true rest all = rest (both (holds g.number) (list_all holds (listeners WRITE regs)) all).1
      by true false rest all = rest all
      by false false rest all = rest all

  module _ (regs : List Registration) (all : list_all holds (listeners WRITE regs) ≡ true) where
    hold-write_to : (list : ValueList) (done : Effects) (to : Option ℕ) → holds_if_any to ≡ true → all_hold done.posts ≡ true → all_hold (write_to list done to).posts ≡ true
    hold-write_to list done None is before = before
    hold-write_to list done (Some r) is before = all_hold-append done.posts (to_each (r ∷ []) (calls.Write list)) before (rw is refl)

    hold-writes : (list : ValueList) (names : List (List ℕ)) (done : Effects) → all_hold done.posts ≡ true → all_hold (fold (write_to list) done (map (writer_named regs) names)).posts ≡ true
    hold-writes list [] done before = before
    hold-writes list (name ∷ names) done before =
        hold-writes list names (write_to list done (writer_named regs name))
        (hold-write_to list done (writer_named regs name) (holds_found regs name all) before)

    hold-perform : (done : Effects) (action : Action) → all_hold done.posts ≡ true → all_hold (perform regs done action).posts ≡ true
    hold-perform done (actions.Write [] list) before =
        all_hold-append done.posts (to_each (listeners WRITE regs) (calls.Write list)) before (all_hold-to_each (listeners WRITE regs) list all)
    hold-perform done (actions.Write (name ∷ names) list) before = hold-writes list (each_once (name ∷ names)) done before
    hold-perform done (actions.Notify note) before = before

    hold-perform_all : (asked : List Action) (done : Effects) → all_hold done.posts ≡ true → all_hold (perform_all regs asked done).posts ≡ true
    hold-perform_all [] done before = before
    hold-perform_all (action ∷ asked) done before = hold-perform_all asked (perform regs done action) (hold-perform done action before)

    hold-after_run : (rules : Rules) (set : DataSet) (now : ℕ) (cache : CacheMap) (run : Run) → all_hold (after_run rules regs set now cache run).posts ≡ true
    hold-after_run rules set now cache run = by (is_stop run.verdict) refl
      where
        before : all_hold (perform_all regs run.actions nothing).posts ≡ true
        before = hold-perform_all run.actions nothing refl

        by : (stops : Bool) → is_stop run.verdict ≡ stops → all_hold (after_run rules regs set now cache run).posts ≡ true
        by true is = rw is before
        by false is = rw is (hold-perform_all (run_behind rules (scene_of set (updated set run.list now cache) now) run.list).actions (perform_all regs run.actions nothing) before)

    hold-handling_as : (set : Option DataSet) (rules : Rules) (cache : CacheMap) (list : ValueList) (now : ℕ) → all_hold (handling_as set rules cache regs list now).posts ≡ true
    hold-handling_as None rules cache list now = refl
    hold-handling_as (Some set) rules cache list now = hold-after_run rules set now cache (run_before rules (scene_of set cache now) list)

    pub hold-handling : (K : Opening) (cache : CacheMap) (list : ValueList) (now : ℕ) → list_all (λ (p : Post). holds p.reg) (handling K cache regs list now).posts ≡ true
    hold-handling K cache list now =
        all_first (λ (p : Post). holds p.reg) (λ (p : Post). is_write p.call) (handling K cache regs list now).posts (hold-handling_as (set_of K.types list) K.rules cache list now)

    written_alone : (K : Opening) (cache : CacheMap) (list : ValueList) (now : ℕ) → list_all (λ (p : Post). is_write p.call) (handling K cache regs list now).posts ≡ true
    written_alone K cache list now =
        all_second (λ (p : Post). holds p.reg) (λ (p : Post). is_write p.call) (handling K cache regs list now).posts (hold-handling_as (set_of K.types list) K.rules cache list now)

any_number : (ns : List ℕ) → list_all (λ (n : ℕ). true) ns ≡ true
any_number [] = refl
any_number (n ∷ ns) = any_number ns

pub writes-handling : (regs : List Registration) (K : Opening) (cache : CacheMap) (list : ValueList) (now : ℕ) → list_all (λ (p : Post). is_write p.call) (handling K cache regs list now).posts ≡ true
writes-handling regs K cache list now = written_alone (λ n. true) regs (any_number (listeners WRITE regs)) K cache list now

-- ---- where there is one live registration, all calls go to it

unwritten : (r : ℕ) (posts : List Post) → list_all (λ (p : Post). not (nat_eq p.reg r)) posts ≡ true → sent_to r posts ≡ []
unwritten r [] all = refl
unwritten r (p ∷ posts) all =
    let two = both (not (nat_eq p.reg r)) (list_all (λ (p : Post). not (nat_eq p.reg r)) posts) all in
    let other : nat_eq p.reg r ≡ false = not_true (nat_eq p.reg r) two.0 in
    rw other (unwritten r posts two.1)
  where
    not_true : (b : Bool) → not b ≡ true → b ≡ false
    not_true true is = absurd (cc)
    not_true false is = refl

written : (r : ℕ) (posts : List Post) → list_all (λ (p : Post). nat_eq p.reg r) posts ≡ true → sent_to r posts ≡ map (λ (p : Post). p.call) posts
written r [] all = refl
written r (p ∷ posts) all =
    let two = both (nat_eq p.reg r) (list_all (λ (p : Post). nat_eq p.reg r) posts) all in
    rw two.0 (ap (λ (calls : List Call). p.call ∷ calls) (written r posts two.1))

module _ (K : Opening) (cache : CacheMap) (g : Registration) (list : ValueList) (now : ℕ) where
  only : (holds : ℕ → Bool) → holds g.number ≡ true → list_all holds (listeners WRITE (g ∷ [])) ≡ true
  only holds is = by (has_kind WRITE g)
    where
      by : (writes : Bool) → list_all holds (map (λ (g : Registration). g.number) (cond writes (g ∷ []) [])) ≡ true
      by true = rw is refl
      by false = refl

  -- to another registration none
  pub sent_elsewhere : (r : ℕ) → nat_eq g.number r ≡ false → sent_to r (handling K cache (g ∷ []) list now).posts ≡ []
  sent_elsewhere r other =
      unwritten r (handling K cache (g ∷ []) list now).posts
      (hold-handling (λ n. not (nat_eq n r)) (g ∷ []) (only (λ n. not (nat_eq n r)) (rw other refl)) K cache list now)

  pub sent_all : sent_to g.number (handling K cache (g ∷ []) list now).posts ≡ map (λ (p : Post). p.call) (handling K cache (g ∷ []) list now).posts
  sent_all =
      written g.number (handling K cache (g ∷ []) list now).posts
      (hold-handling (λ n. nat_eq n g.number) (g ∷ []) (only (λ n. nat_eq n g.number) (same_number g.number)) K cache list now)

-- where nobody is a live writer none is made
pub sent_to_nobody : (K : Opening) (cache : CacheMap) (regs : List Registration) (list : ValueList) (now : ℕ) → listeners WRITE regs ≡ []
    → (handling K cache regs list now).posts ≡ []
sent_to_nobody K cache regs list now nobody = none (handling K cache regs list now).posts (hold-handling (λ n. false) regs (ap (λ (regs : List ℕ). list_all (λ n. false) regs) nobody) K cache list now)
  where
    none : (posts : List Post) → list_all (λ (p : Post). false) posts ≡ true → posts ≡ []
    none [] all = refl
    none (p ∷ posts) all = absurd (cc)
