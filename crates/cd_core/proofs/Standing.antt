-- The core stands for the history with an entry more: one lemma for each kind of step.
use Rattle.cd_core.proofs.Answering.{number_is, ready_is, retire_is, retire_reply_is}
use Rattle.cd_core.proofs.FlushCounts.{flushes_answered}
use Rattle.cd_daemon.proofs.Legality.{number_of, numbered, takeable}
use Rattle.cd_daemon.proofs.Lists.{at_shown, first_left, number_at}
use Rattle.cd_core.proofs.Rows.{rows_closed, rows_given, rows_quiet, rows_retired, rows_taken, eq_sym}
use Rattle.cd_daemon.specs.Answers.{next_call, query_answer, queued, ready, retire_answer}
use Rattle.cd_daemon.specs.Calls.{cache_after, calls_to}
use Rattle.cd_daemon.specs.Flushes.{flushes_begun}
use Rattle.cd_daemon.specs.Legal.{Allowed}
use Rattle.cd_core.specs.Objects.{IsEntered, IsLent, TellsHome, home_after, place_by}
use Rattle.cd_core.specs.Replies.{retire_reply}
use Rattle.cd_core.specs.Seen.{CoreSeen}
use Rattle.cd_core.specs.Stands.{Anyhow, Makes, Stands, flushes_after, row_after, rows_after, writers_after}
use Rattle.cd_core.specs.UnderWay.{after_answer_to}
use Rattle.cd_core.specs.declared.flush.Flush.{Flush}
use Rattle.cd_daemon.specs.declared.Opening.{Opening}
use Rattle.cd_history.specs.History.{Event, History, is_stopped, ◌▸◌}
use Rattle.cd_history.specs.Leases.{taken_by, takes}
use Rattle.cd_history.specs.Registrations.{Registration, closed_by, has_kind, is_closed, is_retired, number_of_live, registrations}
use Rattle.cd_history.specs.declared.entry.Entry.TheVariants as entry
use Rattle.cd_history.specs.declared.entry.Found.{Found}
use Rattle.cd_registry.proofs.Ats.{at_map}
use Rattle.cd_registry.specs.Faults.{retire_fault}
use Rattle.cd_registry.specs.Rows.{At, IsHomeFor, IsPlugOut, Row, after_close, after_give, after_retire, after_take, home_of, is_ready, live_number, with_row}
use Rattle.cd_registry.specs.declared.calls.Answer.{Answer}
use Rattle.cd_registry.specs.declared.calls.Call.{Call}
use Rattle.cd_registry.specs.declared.faults.NotRegistered.{NotRegistered}
use Rattle.cd_registry.specs.declared.faults.RetireFault.{RetireFault}
use Rattle.cd_registry.specs.declared.kinds.TheConstants.Kinds.{WRITE}
use Rattle.cd_registry.specs.Slots.{member_tells}
use Rattle.cd_registry.specs.declared.member.MemberOf.TheVariants as members
use Rattle.cd_registry.specs.declared.member.MemberOf.{MemberOf}
use Rattle.cd_registry.specs.declared.place.Place.TheVariants.{PlugHome, ProbeHome}
use Rattle.cd_registry.specs.declared.place.Place.{Place}
use Rattle.cd_registry.specs.declared.plug.PlugTells.{PlugTells}
use Rattle.cd_registry.specs.declared.probe.ProbeTells.{ProbeTells}
use Rattle.std.proofs.Common.{Bool, Err, IfSome, List, None, Ok, OnErr, OnOk, Option, Result, Some, [], ap, cond, eq-eqb, false, map, nat_eq, not, refl, slice_get, subst, sym, true, ℕ, ◌∙◌, ◌∷◌, ◌≡◌, ◌||◌}
use Rattle.std.specs.List.{filter, position}
use Rattle.std.specs.Option.{ok_or}
use Rattle.std.specs.Result.{result_err}

-- an entry that changes the rows alone
pub touched : (K : Opening) (v : CoreSeen) (rows : List Row) (P : History) (e : Event) → Stands K v P → Allowed K P e
    → cache_after K (P ▸ e) ≡ cache_after K P → queued (P ▸ e) ≡ queued P → rows ≡ rows_after K (P ▸ e) → writers_after (P ▸ e) ≡ writers_after P
    → flushes_after (P ▸ e) ≡ flushes_after P → flushes_begun (P ▸ e) ≡ flushes_begun P → is_stopped (P ▸ e) ≡ is_stopped P → Stands K (record v { rows = rows }) (P ▸ e)
touched K v now P e s may cache queue rows writers flushes begun stopped = record {
  legal = (s.legal, may);
  opening = s.opening;
  cache = s.cache ∙ sym cache;
  limits = s.limits;
  queue = s.queue ∙ sym queue;
  rows = rows;
  writers = s.writers ∙ sym writers;
  flushes = s.flushes ∙ sym flushes;
  begun = s.begun ∙ sym begun;
  stopped = s.stopped ∙ sym stopped;
}

-- an entry that leaves every part as it is
pub quiet : (K : Opening) (v : CoreSeen) (rows : List Row) (P : History) (e : Event) → rows ≡ v.rows → Stands K v P → Allowed K P e
    → cache_after K (P ▸ e) ≡ cache_after K P → queued (P ▸ e) ≡ queued P → rows_after K (P ▸ e) ≡ rows_after K P → writers_after (P ▸ e) ≡ writers_after P
    → flushes_after (P ▸ e) ≡ flushes_after P → flushes_begun (P ▸ e) ≡ flushes_begun P → is_stopped (P ▸ e) ≡ is_stopped P → Stands K (record v { rows = rows }) (P ▸ e)
quiet K v now P e same s may cache queue rows writers flushes begun stopped =
    touched K v now P e s may cache queue (same ∙ s.rows ∙ sym rows) writers flushes begun stopped

-- ---- what is cached

pub asked : (v : CoreSeen) (actor : ℕ) (name : Option (List ℕ)) (reply : Found) → ((K : Opening) (P : History) → Stands K v P → reply ≡ query_answer K P name)
    → Makes v v Anyhow (entry.Query actor name reply)
asked v actor name reply is K P s any = quiet K v v.rows P (entry.Query actor name reply) refl s (is K P s) refl refl (rows_quiet K P) refl refl refl refl

-- ---- a name is closed

-- whether a writer is listed, by its number, whether it is closed and whether it writes
abbrev listed : Bool → Bool → ℕ → List ℕ → List ℕ
listed closed writes n rest = cond (not closed) (cond writes (n ∷ rest) rest) rest

listing : (closed : Registration → Bool) (g : Registration) (gs : List Registration)
    → map number_of (filter (has_kind WRITE) (filter (λ (g : Registration). not (closed g)) (g ∷ gs)))
    ≡ listed (closed g) (has_kind WRITE g) g.number (map number_of (filter (has_kind WRITE) (filter (λ (g : Registration). not (closed g)) gs)))
listing closed g gs = by (closed g) (has_kind WRITE g) refl
  where
    by : (c w : Bool) → has_kind WRITE g ≡ w
        → map number_of (filter (has_kind WRITE) (cond (not c) (g ∷ filter (λ (g : Registration). not (closed g)) gs) (filter (λ (g : Registration). not (closed g)) gs)))
        ≡ listed c w g.number (map number_of (filter (has_kind WRITE) (filter (λ (g : Registration). not (closed g)) gs)))
    by true w is = refl
    by false true is = rw is refl
    by false false is = rw is refl

closing : (closed writes : Bool) (n m : ℕ) (ns ms : List ℕ) → ns ≡ filter (λ w. not (nat_eq w m)) ms
    → listed (nat_eq m n || closed) writes n ns ≡ filter (λ w. not (nat_eq w m)) (listed closed writes n ms)
closing closed writes n m ns ms rest = by (nat_eq n m) refl closed writes
  where
    by : (same : Bool) → nat_eq n m ≡ same → (closed writes : Bool) → listed (nat_eq m n || closed) writes n ns ≡ filter (λ w. not (nat_eq w m)) (listed closed writes n ms)
    by true i true w = rw (eq_sym n m true i) rest
    by true i false true = rw (eq_sym n m true i, i) rest
    by true i false false = rw (eq_sym n m true i) rest
    by false i true w = rw (eq_sym n m false i) rest
    by false i false true = rw (eq_sym n m false i, i) (ap (λ xs. n ∷ xs) rest)
    by false i false false = rw (eq_sym n m false i) rest

-- the writers without the one that was closed
writers_closed : (P : History) (a n : ℕ) (name : List ℕ) → writers_after (P ▸ entry.Close a name (Some n)) ≡ filter (λ w. not (nat_eq w n)) (writers_after P)
writers_closed P a n name = each (registrations P)
  where
    each : (gs : List Registration)
        → map number_of (filter (has_kind WRITE) (filter (λ (g : Registration). not (nat_eq n g.number || is_closed g.number P)) gs))
        ≡ filter (λ w. not (nat_eq w n)) (map number_of (filter (has_kind WRITE) (filter (λ (g : Registration). not (is_closed g.number P)) gs)))
    each [] = refl
    each (g ∷ gs) =
        listing (λ (g : Registration). nat_eq n g.number || is_closed g.number P) g gs
        ∙ closing (is_closed g.number P) (has_kind WRITE g) g.number n _ _ (each gs)
        ∙ ap (filter (λ w. not (nat_eq w n))) (sym (listing (λ (g : Registration). is_closed g.number P) g gs))

pub shut : (v : CoreSeen) (rows : List Row) (writers : List ℕ) (actor : ℕ) (name : List ℕ) (n : ℕ) → Ok n ≡ ok_or {E = NotRegistered} (live_number name v.rows) (record {})
    → rows ≡ with_row n after_close v.rows → writers ≡ filter (λ w. not (nat_eq w n)) v.writers
    → Makes v (record v { rows = rows; writers = writers }) Anyhow (entry.Close actor name (Some n))
shut v rows writers actor name n found changed left K P s any =
    let number : Some n ≡ number_of_live name P = sym (close_is (live_number name v.rows) n found) ∙ ap (live_number name) s.rows ∙ number_is K P name in
    record {
      legal = (s.legal, number);
      opening = s.opening;
      cache = s.cache;
      limits = s.limits;
      queue = s.queue;
      rows = changed ∙ ap (with_row n after_close) s.rows ∙ sym (rows_closed K P actor n name);
      writers = left ∙ ap (filter (λ w. not (nat_eq w n))) s.writers ∙ sym (writers_closed P actor n name);
      flushes = s.flushes;
      begun = s.begun;
      stopped = s.stopped;
    }
  where
    close_is : (o : Option ℕ) (n : ℕ) → Ok n ≡ ok_or {E = NotRegistered} o (record {}) → o ≡ Some n
    close_is (Some m) n is = cc
    close_is None n is = absurd (cc)

pub not_shut : (v : CoreSeen) (rows : List Row) (actor : ℕ) (name : List ℕ) (why : NotRegistered) → Err why ≡ ok_or (live_number name v.rows) (record {})
    → rows ≡ v.rows → Makes v (record v { rows = rows }) Anyhow (entry.Close actor name None)
not_shut v rows actor name why found same K P s any =
    let none : None ≡ number_of_live name P = sym (close_is (live_number name v.rows) found) ∙ ap (live_number name) s.rows ∙ number_is K P name in
    quiet K v rows P (entry.Close actor name None) same s none refl refl (rows_quiet K P) refl refl refl refl
  where
    close_is : (o : Option ℕ) → Err why ≡ ok_or o (record {}) → o ≡ None
    close_is (Some m) is = absurd (cc)
    close_is None is = refl

-- ---- an object is handed out

answered_so : {A : Type 0} (v : CoreSeen) (reg : ℕ) (result : Result A RetireFault) → result_err result ≡ retire_fault (slice_get v.rows reg)
    → (K : Opening) (P : History) → Stands K v P → retire_reply result ≡ retire_answer K P reg
answered_so v reg result fault K P s =
    retire_reply_is result (retire_answer K P reg) (fault ∙ ap (λ (rows : List Row). retire_fault (slice_get rows reg)) s.rows ∙ retire_is K P reg s.legal)

-- where it was asked for, by what came of it
pub retired : {A : Type 0} (v : CoreSeen) (rows : List Row) (actor reg : ℕ) (result : Result A RetireFault) → result_err result ≡ retire_fault (slice_get v.rows reg)
    → OnOk result (rows ≡ with_row reg after_retire v.rows) → OnErr result (rows ≡ v.rows)
    → Makes v (record v { rows = rows }) (λ K P. IfSome (closed_by reg P) (λ closer. closer ≡ actor)) (entry.Retire actor reg (retire_reply result))
retired {A} v rows actor reg (Ok member) fault changed same K P s own =
    touched K v rows P (entry.Retire actor reg (Ok tt)) s (answered_so {A = A} v reg (Ok member) fault K P s, own)
    refl refl (changed ∙ ap (with_row reg after_retire) s.rows ∙ sym (rows_retired K P actor reg)) refl refl refl refl
retired {A} v rows actor reg (Err why) fault changed same K P s own =
    quiet K v rows P (entry.Retire actor reg (Err why)) same s (answered_so {A = A} v reg (Err why) fault K P s, own) refl refl (rows_quiet K P) refl refl refl refl

-- at home
abbrev pub IsHome : Place PlugTells ProbeTells → Type 0
IsHome (PlugHome told) = Unit {0}
IsHome (ProbeHome told) = Unit {0}
IsHome _ = ⊥

-- what is handed out tells what it did at home
at_home : (retired : Bool) (taken : Option ℕ) (home place : Place PlugTells ProbeTells) → place_by retired taken home ≡ place → IsHome place → home ≡ place
at_home true taken home place is here = absurd (subst IsHome (sym is) here)
at_home false (Some a) home place is here = absurd (subst IsHome (sym is) here)
at_home false None home place is here = is

pub tells_home : (v : CoreSeen) (reg : ℕ) (place : Place PlugTells ProbeTells) → IsHome place → At v.rows reg (λ row. row.place ≡ place)
    → (K : Opening) (P : History) → Stands K v P → TellsHome P reg place
tells_home v reg place here at K P s =
    let A : List Row → Type 0 = λ rows. At rows reg (λ row. row.place ≡ place) in
    let found = at_shown (row_after K P) (registrations P) reg (λ row. row.place ≡ place) (subst A s.rows at) in
    record {
      registration = found.0;
      registered = found.1;
      tells = sym (at_home (is_retired found.0.number P) (taken_by found.0.number P) (home_after P found.0) place found.2 here);
    }

pub member_home : {P Q : Type 0} (plug : P → PlugTells) (probe : Q → ProbeTells) (member : MemberOf P Q) → IsHome (home_of (member_tells plug probe member))
member_home plug probe (members.Plug object) = tt
member_home plug probe (members.Probe object) = tt

-- ---- a call is taken

pub taken : (v : CoreSeen) (rows : List Row) (actor reg lent : ℕ) (call : Call) (told : PlugTells) → position is_ready v.rows ≡ Some reg → lent ≡ reg
    → At v.rows reg (IsHomeFor told call) → rows ≡ with_row reg (after_take actor) v.rows → Makes v (record v { rows = rows }) Anyhow (entry.Take actor lent call)
taken v rows actor reg lent call told first same at changed K P s any =
    let A : List Row → Type 0 = λ rows. At rows reg (IsHomeFor told call) in
    let found = at_shown (row_after K P) (registrations P) reg (IsHomeFor told call) (subst A s.rows at) in
    let g : Registration = found.0 in
    let number : g.number ≡ reg = number_at number_of (registrations P) reg g (numbered P) found.1 in
    let is_first : ready K P ≡ Some reg = sym (ready_is K P) ∙ ap (position is_ready) (sym s.rows) ∙ first in
    let N : ℕ → Type 0 = λ n. next_call K P n ≡ Some call in
    let next : next_call K P reg ≡ Some call = subst N number (sym (first_left (takes g.number P) (calls_to K g.number P)) ∙ found.2.oldest) in
    let S : ℕ → Type 0 = λ n. Stands K (record v { rows = rows }) (P ▸ entry.Take actor n call) in
    subst S (sym same) (touched K v rows P (entry.Take actor reg call) s (is_first, next) refl refl
    (changed ∙ ap (with_row reg (after_take actor)) s.rows ∙ sym (rows_taken K P actor reg call (takeable K P reg is_first).kept)) refl refl refl refl)

pub is_lent : (v : CoreSeen) (actor reg lent : ℕ) (call : Call) (told : PlugTells) → lent ≡ reg → At v.rows reg (IsHomeFor told call)
    → (K : Opening) (P : History) → Stands K v P → IsLent (P ▸ entry.Take actor lent call) actor lent call told
is_lent v actor reg lent call told same at K P s =
    let home = tells_home v reg (PlugHome told) tt (at_map v.rows reg (IsHomeFor told call) (λ row. row.place ≡ PlugHome told) (λ row is. is.home) at) K P s in
    let L : ℕ → Type 0 = λ n. IsLent (P ▸ entry.Take actor n call) actor n call told in
    subst L (sym same) (record {
      with_actor = rw (eq-eqb reg reg refl) refl;
      out_for = rw (eq-eqb reg reg refl) refl;
      told_home = record { registration = home.registration; registered = home.registered; tells = home.tells };
    })

pub none_ready : (v : CoreSeen) → position is_ready v.rows ≡ None → (K : Opening) (P : History) → Stands K v P → ready K P ≡ None
none_ready v none K P s = sym (ready_is K P) ∙ ap (position is_ready) (sym s.rows) ∙ none

-- ---- a plug-in comes home

pub came_home : (v : CoreSeen) (rows : List Row) (under_way : List Flush) (actor reg : ℕ) (call : Call) (answer : Answer) (told : PlugTells)
    → At v.rows reg IsPlugOut → rows ≡ with_row reg (after_give told) v.rows → under_way ≡ map (after_answer_to call answer) v.flushes
    → Makes v (record v { rows = rows; flushes = under_way }) (λ K P. IsEntered P actor reg call answer told) (entry.Done actor reg answer)
came_home v rows under_way actor reg call answer told out changed noted K P s entered =
    let A : List Row → Type 0 = λ rows. At rows reg IsPlugOut in
    record {
      legal = (s.legal, entered.lent.with_actor);
      opening = s.opening;
      cache = s.cache;
      limits = s.limits;
      queue = s.queue;
      rows = changed ∙ ap (with_row reg (after_give told)) s.rows ∙ sym (rows_given K P actor reg call answer told entered (subst A s.rows out));
      writers = s.writers;
      flushes = noted ∙ ap (map (after_answer_to call answer)) s.flushes ∙ sym (flushes_answered P actor reg call answer entered.lent.out_for);
      begun = s.begun;
      stopped = s.stopped;
    }
