-- A core that runs on.
use Rattle.cd_core.specs.Seen.{CoreSeen}
use Rattle.cd_core.specs.Stands.{Anyhow, Makes, Stands}
use Rattle.cd_daemon.specs.Answers.{ready}
use Rattle.cd_daemon.specs.Flushes.{flush_begun_by}
use Rattle.cd_daemon.specs.declared.Opening.{Opening}
use Rattle.cd_history.specs.History.{Event, History, is_stopped, ◌▸◌}
use Rattle.cd_history.specs.Leases.{taken_by}
use Rattle.cd_history.specs.Registrations.{is_closed, is_retired, registrations}
use Rattle.cd_history.specs.declared.entry.Entry.TheVariants as entry
use Rattle.cd_history.specs.declared.entry.FlushEnd.{FlushEnd}
use Rattle.cd_history.specs.declared.entry.Found.{Found}
use Rattle.cd_history.specs.declared.entry.Handled.{Handled}
use Rattle.cd_history.specs.declared.entry.Stopping.{Stopping}
use Rattle.cd_registry.specs.declared.calls.Answer.{Answer}
use Rattle.cd_registry.specs.declared.calls.Call.{Call}
use Rattle.cd_serve.specs.Working.Outside.{Calls, WasCalled}
use Rattle.cd_serve.specs.Working.Progress.{Drains}
use Rattle.cd_serve.specs.Working.Standing.{GoesOn, Keeps, RunsOn}
use Rattle.cd_value.specs.declared.data.FlushRequest.{FlushRequest}
use Rattle.cd_value.specs.declared.data.Offered.{Offered}
use Rattle.cd_value.specs.declared.data.ValueList.{ValueList}
use Rattle.std.proofs.Common.{Bool, IfSome, List, None, Option, Result, Some, cond, false, nat_eq, refl, subst, sym, true, ℕ, ◌∙◌, ◌≡◌}

-- ---- events that leave all registrations alone

-- it registers, closes and hands out nobody, lends and brings home no object, and is no stop
pub record IsQuiet (e : Event) : Type 0 where
  pub registered : (P : History) → registrations (P ▸ e) ≡ registrations P
  pub closed : (P : History) (r : ℕ) → is_closed r (P ▸ e) ≡ is_closed r P
  pub retired : (P : History) (r : ℕ) → is_retired r (P ▸ e) ≡ is_retired r P
  pub taken : (P : History) (r : ℕ) → taken_by r (P ▸ e) ≡ taken_by r P
  pub stopped : (P : History) → is_stopped (P ▸ e) ≡ is_stopped P

pub accept_quiet : (a : ℕ) (lists : List ValueList) (words : List ℕ) (now : ℕ) (reply : Result (List Offered) Stopping) → IsQuiet (entry.Accept a lists words now reply)
accept_quiet a lists words now reply = record { registered = λ P. refl; closed = λ P r. refl; retired = λ P r. refl; taken = λ P r. refl; stopped = λ P. refl }

pub handle_quiet : (a now : ℕ) (reply : Handled) → IsQuiet (entry.Handle a now reply)
handle_quiet a now reply = record { registered = λ P. refl; closed = λ P r. refl; retired = λ P r. refl; taken = λ P r. refl; stopped = λ P. refl }

pub query_quiet : (a : ℕ) (name : Option (List ℕ)) (reply : Found) → IsQuiet (entry.Query a name reply)
query_quiet a name reply = record { registered = λ P. refl; closed = λ P r. refl; retired = λ P r. refl; taken = λ P r. refl; stopped = λ P. refl }

pub begin_quiet : (a : ℕ) (request : FlushRequest) (reply : Result ℕ Stopping) → IsQuiet (entry.FlushOpen a request reply)
begin_quiet a request reply = record { registered = λ P. refl; closed = λ P r. refl; retired = λ P r. refl; taken = λ P r. refl; stopped = λ P. refl }

pub end_quiet : (a number : ℕ) (reply : FlushEnd) → IsQuiet (entry.FlushClose a number reply)
end_quiet a number reply = record { registered = λ P. refl; closed = λ P r. refl; retired = λ P r. refl; taken = λ P r. refl; stopped = λ P. refl }

pub runs_step : {K : Opening} {stopped : Bool} {old new : CoreSeen} {P : History} (e : Event) → IsQuiet e → RunsOn K stopped old P → Stands K new (P ▸ e) → RunsOn K stopped new (P ▸ e)
runs_step {P = P} e quiet runs stands = record {
  stands = stands;
  home = λ r. quiet.taken P r ∙ runs.home r;
  is_so = quiet.stopped P ∙ runs.is_so;
}

pub runs_as : {K : Opening} {stopped : Bool} {old new : CoreSeen} {P : History} → new ≡ old → RunsOn K stopped old P → RunsOn K stopped new P
runs_as {K = K} {stopped = stopped} {P = P} is runs = let R : CoreSeen → Type 0 = λ core. RunsOn K stopped core P in subst R (sym is) runs

pub stands_as : {K : Opening} {old new : CoreSeen} {P : History} → new ≡ old → Stands K old P → Stands K new P
stands_as {K = K} {P = P} is stands = let S : CoreSeen → Type 0 = λ core. Stands K core P in subst S (sym is) stands

-- ---- a call

home_again : (t : Bool) (o : Option ℕ) → o ≡ None → cond t None (cond t (Some 0) o) ≡ None
home_again true o e = refl
home_again false o e = e

pub runs_called : {K : Opening} {stopped : Bool} {old new : CoreSeen} {P : History} (answer : Answer) (reg : ℕ) (call : Call)
    → RunsOn K stopped old P → Stands K new (P ▸ entry.Take 0 reg call ▸ entry.Done 0 reg answer)
    → RunsOn K stopped new (P ▸ entry.Take 0 reg call ▸ entry.Done 0 reg answer)
runs_called {P = P} answer reg call runs stands = record {
  stands = stands;
  home = λ r. home_again (nat_eq reg r) (taken_by r P) (runs.home r);
  is_so = runs.is_so;
}

-- ---- it runs on

pub keeps_same : (old new : CoreSeen) → new ≡ old → Keeps old new
keeps_same old new is K stopped P runs = record {
  past = P;
  runs = runs_as is runs;
  left = record { registered = refl; closed = λ r. refl; retired = λ r. refl };
}

pub keeps_then : (old mid new : CoreSeen) → Keeps old mid → Keeps mid new → Keeps old new
keeps_then old mid new first second K stopped P runs =
    let one : GoesOn K stopped P mid = first K stopped P runs in
    let two : GoesOn K stopped one.past new = second K stopped one.past one.runs in
    record {
      past = two.past;
      runs = two.runs;
      left = record {
        registered = two.left.registered ∙ one.left.registered;
        closed = λ r. two.left.closed r ∙ one.left.closed r;
        retired = λ r. two.left.retired r ∙ one.left.retired r;
      };
    }

pub keeps_step : (old new : CoreSeen) (e : Event) → IsQuiet e → Makes old new Anyhow e → Keeps old new
keeps_step old new e quiet makes K stopped P runs = record {
  past = P ▸ e;
  runs = runs_step e quiet runs (makes K P runs.stands tt);
  left = record { registered = quiet.registered P; closed = quiet.closed P; retired = quiet.retired P };
}

pub keeps_called : (old new : CoreSeen) (answer : Answer) → WasCalled answer old new → Keeps old new
keeps_called old new answer was K stopped P runs =
    let c : Calls K P answer new = was K P runs.stands in
    record {
      past = P ▸ entry.Take 0 c.reg c.call ▸ entry.Done 0 c.reg answer;
      runs = runs_called answer c.reg c.call runs c.stands;
      left = record { registered = refl; closed = λ r. refl; retired = λ r. refl };
    }

-- whoever began a flush may end it
beginner_of : Option ℕ → ℕ
beginner_of None = 0
beginner_of (Some b) = b

may_end : (o : Option ℕ) → IfSome o (λ b. b ≡ beginner_of o)
unfolding beginner_of
may_end None = tt
may_end (Some b) = refl

pub keeps_ended : (old new : CoreSeen) (number : ℕ) (reply : FlushEnd)
    → ((actor : ℕ) → Makes old new (λ K H. IfSome (flush_begun_by number H) (λ beginner. beginner ≡ actor)) (entry.FlushClose actor number reply)) → Keeps old new
keeps_ended old new number reply makes K stopped P runs =
    let a : ℕ = beginner_of (flush_begun_by number P) in
    let quiet : IsQuiet (entry.FlushClose a number reply) = end_quiet a number reply in
    record {
      past = P ▸ entry.FlushClose a number reply;
      runs = runs_step (entry.FlushClose a number reply) quiet runs (makes a K P runs.stands (may_end (flush_begun_by number P)));
      left = record { registered = quiet.registered P; closed = quiet.closed P; retired = quiet.retired P };
    }

-- ---- nobody is ready at last

pub drains : (old mid new : CoreSeen) → Keeps old mid → new ≡ mid → ((K : Opening) (H : History) → Stands K mid H → ready K H ≡ None) → Drains old new
drains old mid new keeps is none K stopped P runs =
    let on : GoesOn K stopped P mid = keeps K stopped P runs in
    (on.past, runs_as is on.runs, on.left, none K on.past on.runs.stands)

-- where no plug-in was ready, none was called
pub called_unready : (begun old new : CoreSeen) (answer : Answer) → WasCalled answer old new
    → (K : Opening) (P : History) → old ≡ begun → Stands K begun P → ready K P ≡ None → ⊥
called_unready begun old new answer was K P same stands none =
    let c : Calls K P answer new = was K P (stands_as same stands) in
    let is : ready K P ≡ Some c.reg = c.was_ready in
    cc (is, none)
