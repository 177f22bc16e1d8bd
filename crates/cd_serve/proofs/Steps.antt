-- Work goes on, step by step.
use Rattle.cd_core.specs.Stands.{Anyhow, Makes, Stands}
use Rattle.cd_daemon.specs.Answers.{handle_answer, ready}
use Rattle.cd_daemon.specs.declared.Opening.{Opening}
use Rattle.cd_history.specs.History.{History, handles, kept, ◌▸◌}
use Rattle.cd_history.specs.declared.entry.Entry.TheVariants as entry
use Rattle.cd_history.specs.declared.entry.Handled.{Handled}
use Rattle.cd_history.specs.declared.given.Given.TheVariants.{Answered, Now}
use Rattle.cd_history.specs.declared.given.Given.{Given}
use Rattle.cd_registry.specs.declared.calls.Answer.{Answer}
use Rattle.cd_serve.proofs.Gifts.{gave_answer, gave_as, gave_moment}
use Rattle.cd_serve.proofs.Keeping.{handle_quiet, runs_as, runs_called, runs_step, stands_as}
use Rattle.cd_serve.specs.Tells.{Pairs}
use Rattle.cd_serve.specs.Working.Outside.{Calls, GaveAllUpTo, WasCalled}
use Rattle.cd_serve.specs.Working.Progress.{CallsAll, HandlesOne, HasCalledAll, HasWorked, IsWorking, KeepsWorking, Seen, WorksOn, with_moment}
use Rattle.cd_serve.specs.Working.Standing.{RunsOn}
use Rattle.cd_transcript.specs.LineRuns.{IsAsked, WorksUntilIdle, called, handled, nothing}
use Rattle.cd_value.specs.declared.data.ValueList.{ValueList}
use Rattle.std.proofs.Common.{Bool, Err, IfSome, IsTrue, List, None, Ok, OnOk, Option, Result, [], ap, append_assoc, arith, drop, is_some, length, length-drop, nat_le, not, refl, subst, sym, ℕ, ◌&&◌, ◌++◌, ◌∙◌, ◌∷◌, ◌≡◌, ◌≤◌}
use Rattle.std.proofs.lemmas.List.{append-nil}

pub on_ok : {T E A B : Type 0} (r : Result T E) → (A → B) → OnOk r A → OnOk r B
on_ok (Ok x) f a = f a
on_ok (Err e) f a = tt

-- work begins
pub begin : {K : Opening} {stopped : Bool} {begun : Pairs} {P : History} {seen : Seen} → RunsOn K stopped seen.core P → GaveAllUpTo begun seen.pairs seen.given → IsWorking K stopped begun P seen.given seen
begin {P = P} {seen = seen} runs gave = record {
  past = P;
  runs = runs;
  given = [];
  follows = sym (append-nil seen.given);
  works = nothing;
  gave = gave;
}

pub keeps_working_as : (old new : Seen) → new.core ≡ old.core → new.pairs ≡ old.pairs → new.given ≡ old.given → KeepsWorking old new
keeps_working_as old new core pairs given K stopped begun start before w = record {
  past = w.past;
  runs = runs_as core w.runs;
  given = w.given;
  follows = given ∙ w.follows;
  works = w.works;
  gave = gave_as pairs given w.gave;
}

pub keeps_working_then : (old mid new : Seen) → KeepsWorking old mid → KeepsWorking mid new → KeepsWorking old new
keeps_working_then old mid new first second K stopped begun start before w = second K stopped begun start before (first K stopped begun start before w)

-- a call was made
pub keeps_working_called : (old new : Seen) (answer : Answer) → WasCalled answer old.core new.core → new.pairs ≡ old.pairs → new.given ≡ old.given ++ Answered answer ∷ [] → KeepsWorking old new
keeps_working_called old new answer was pairs given K stopped begun start before w =
    let c : Calls K w.past answer new.core = was K w.past w.runs.stands in
    record {
      past = w.past ▸ entry.Take 0 c.reg c.call ▸ entry.Done 0 c.reg answer;
      runs = runs_called answer c.reg c.call w.runs c.stands;
      given = w.given ++ Answered answer ∷ [];
      follows = given ∙ ap (λ (gifts : List Given). gifts ++ Answered answer ∷ []) w.follows ∙ append_assoc before w.given (Answered answer ∷ []);
      works = called w.works c.was_ready c.its_call;
      gave = gave_as pairs given (gave_answer begun old.pairs old.given answer w.gave);
    }

-- .. and none waits
pub called_all : (old mid new : Seen) → KeepsWorking old mid → new.core ≡ mid.core → new.pairs ≡ mid.pairs → new.given ≡ mid.given
    → ((K : Opening) (H : History) → Stands K mid.core H → ready K H ≡ None) → CallsAll old new
unfolding keeps_working_as
called_all old mid new works core pairs given none K stopped begun start before w =
    let m : IsWorking K stopped begun start before mid = works K stopped begun start before w in
    record {
      working = keeps_working_as mid new core pairs given K stopped begun start before m;
      none = none K m.past m.runs.stands;
    }

-- a list was handled after a moment, and then all calls were made
pub handled_one : (old mid done new : Seen) (now : ℕ) (how : Handled) → IfSome old.pairs.clock (λ pair. now ≡ pair.0) → mid ≡ with_moment now old
    → Makes mid.core done.core Anyhow (entry.Handle 0 now how) → done.pairs ≡ mid.pairs → done.given ≡ mid.given → CallsAll done new → HandlesOne old new
handled_one old mid done new now how at then makes pairs given calls K stopped begun start before h =
    let w : IsWorking K stopped begun start before old = h.working in
    let P : History = w.past in
    let stands : Stands K done.core (P ▸ entry.Handle 0 now how) = makes K P (stands_as (ap (λ (s : Seen). s.core) then) w.runs.stands) tt in
    let is : how ≡ handle_answer K P now = stands.legal.1.0 in
    let S : Handled → Type 0 = λ reply. Stands K done.core (P ▸ entry.Handle 0 now reply) in
    let gifts : done.given ≡ old.given ++ Now now ∷ [] = given ∙ ap (λ (s : Seen). s.given) then in
    let told : done.pairs ≡ (with_moment now old).pairs = pairs ∙ ap (λ (s : Seen). s.pairs) then in
    calls K stopped begun start before (record {
      past = P ▸ entry.Handle 0 now (handle_answer K P now);
      runs = runs_step (entry.Handle 0 now (handle_answer K P now)) (handle_quiet 0 now (handle_answer K P now)) w.runs (subst S is stands);
      given = w.given ++ Now now ∷ [];
      follows = gifts ∙ ap (λ (given : List Given). given ++ Now now ∷ []) w.follows ∙ append_assoc before w.given (Now now ∷ []);
      works = handled w.works h.none stands.legal.1.1 refl;
      gave = gave_as told gifts (gave_moment begun old.pairs old.given now w.gave at);
    })

pub calls_then_handles : (old mid new : Seen) → CallsAll old mid → HandlesOne mid new → CallsAll old new
calls_then_handles old mid new calls handles K stopped begun start before w = handles K stopped begun start before (calls K stopped begun start before w)

-- ---- it is idle

idle : (n m : ℕ) (o : Option ℕ) → n ≤ m → o ≡ None → IsTrue (nat_le n m && not (is_some o))
idle n m o le is = rw is (grind arith)

none_left : (n : ℕ) (xs queue : List ValueList) → queue ≡ drop n xs → length queue ≡ 0 → length xs ≤ n
none_left n xs queue is none = omega (arith, length-drop n xs, ap length is)

pub worked : (old new : Seen) → CallsAll old new → length new.core.queue ≡ 0 → WorksOn old new
worked old new calls none K stopped begun start before w =
    let h : HasCalledAll K stopped begun start before new = calls K stopped begun start before w in
    let P : History = h.working.past in
    record {
      working = h.working;
      idle = idle (length (kept P)) (handles P) (ready K P) (none_left (handles P) (kept P) new.core.queue h.working.runs.stands.queue none) h.none;
    }

pub until : {K : Opening} {stopped : Bool} {begun : Pairs} {start : History} {before : List Given} {seen : Seen} (h : HasWorked K stopped begun start before seen) → WorksUntilIdle K IsAsked start h.working.given h.working.past
until h = record { works = h.working.works; idle = h.idle }
