-- The history of a run over lines on one thread, by the rules of its making: which events come, and what each took of
-- what the clock, the dice and the plug-ins gave.
use Rattle.cd_daemon.specs.Answers.{accept_answer, close_answer, flush_close_answer, flush_open_answer, handle_answer, is_idle, next_call, query_answer, ready, register_answer, retire_answer}
use Rattle.cd_daemon.specs.declared.Opening.{Opening}
use Rattle.cd_history.specs.History.{Event, History, handles, kept, ◌▸◌}
use Rattle.cd_history.specs.Leases.{answered_as}
use Rattle.cd_history.specs.Registrations.{Registration, live}
use Rattle.cd_history.specs.declared.entry.Entry.TheVariants as entry
use Rattle.cd_history.specs.declared.entry.Joining.TheVariants as joining
use Rattle.cd_history.specs.declared.entry.Why.TheVariants as why
use Rattle.cd_history.specs.declared.given.Given.TheVariants.{Answered, Now, Word}
use Rattle.cd_history.specs.declared.given.Given.{Given}
use Rattle.cd_registry.specs.Told.{told_after_all}
use Rattle.cd_registry.specs.declared.calls.Answer.{Answer}
use Rattle.cd_registry.specs.declared.calls.Call.{Call}
use Rattle.cd_registry.specs.declared.kinds.Kinds.{Kinds}
use Rattle.cd_registry.specs.declared.plug.PlugTells.{PlugTells}
use Rattle.cd_sock.specs.declared.command.Command.TheVariants as command
use Rattle.cd_sock.specs.declared.fault.LineFault.{LineFault}
use Rattle.cd_transcript.specs.Transcripts.{Said}
use Rattle.cd_value.specs.Identifier.{Fields, name_of}
use Rattle.cd_value.specs.declared.data.FlushRequest.{FlushRequest}
use Rattle.cd_value.specs.declared.data.ValueList.{ValueList}
use Rattle.std.specs.Prelude.{Err, IsTrue, List, None, Ok, Some, [], length, map, ℕ, ◌++◌, ◌<◌, ◌∷◌, ◌≡◌}

-- a plug-in on a shelf: its name, its kinds and what it tells
pub record OnShelf : Type 0 where
  pub name : List ℕ
  pub kinds : Kinds
  pub tells : PlugTells

-- a plug-in of a shelf that is loaded, with its block of the configuration in canonical text
pub record Loaded : Type 0 where
  pub plug : OnShelf
  pub config : List ℕ

-- it is registered
abbrev pub registers : History → Loaded → Event
registers P loaded =
    entry.Register 0 loaded.plug.name (joining.Plug loaded.plug.kinds loaded.config loaded.plug.tells)
    (register_answer P loaded.plug.name)

-- The opening of a run from P, which leaves Q: each loaded plug-in is registered, in order. That takes nothing of what was
-- given.
pub data Opens : List Loaded → History → List Given → History → Type 0 where
  none : {P : History} → Opens [] P [] P
  plug_in : {loaded : Loaded} {more : List Loaded} {P Q : History} {given : List Given}
      → Opens more (P ▸ registers P loaded) given Q → Opens (loaded ∷ more) P given Q

-- Work from P, as far as it has come to Q. A call that waits is taken and answered before a list is handled. At which
-- moment a list is handled, and what that took of what was given, is as `Moment` says.
module _ (K : Opening) (Moment : ℕ → List Given → Type 0) where
  pub data Works : History → List Given → History → Type 0 where
    nothing : {P : History} → Works P [] P
    called : {P Q : History} {given : List Given} {r : ℕ} {call : Call} {answer : Answer}
        → Works P given Q → ready K Q ≡ Some r → next_call K Q r ≡ Some call
        → Works P (given ++ Answered answer ∷ []) (Q ▸ entry.Take 0 r call ▸ entry.Done 0 r answer)
    handled : {P Q : History} {given took : List Given} {now : ℕ}
        → Works P given Q → ready K Q ≡ None → handles Q < length (kept Q) → Moment now took
        → Works P (given ++ took) (Q ▸ entry.Handle 0 now (handle_answer K Q now))

  -- .. until nothing is queued and no plug-in is ready
  pub record WorksUntilIdle (P : History) (given : List Given) (Q : History) : Type 0 where
    pub works : Works P given Q
    pub idle : IsTrue (is_idle K Q)

-- the moment is the next that the clock gave
abbrev pub IsAsked : ℕ → List Given → Type 0
IsAsked now took = took ≡ Now now ∷ []

module _ {Line : Type 0} (K : Opening) (says : Line → ℕ → Said) where
  -- A line was served after P, which leaves Q. One that isn't blank asks a moment. One that offers lists then asks a
  -- word for each, and they are accepted at that moment; a query and the beginning of a flush have their events. Then
  -- work goes on until it is idle, after a line that was refused too. A flush ends after that. No line comes after a
  -- stop, so no flush is refused.
  pub data ServesLine : Line → History → List Given → History → Type 0 where
    blank : {l : Line} {P : History} → says l 0 ≡ Ok command.Blank → ServesLine l P [] P
    refused : {l : Line} {P Q : History} {now : ℕ} {fault : LineFault} {given : List Given}
        → says l 0 ≡ Err fault → WorksUntilIdle K IsAsked P given Q → ServesLine l P (Now now ∷ given) Q
    put : {l : Line} {P Q : History} {now : ℕ} {at_zero lists : List ValueList} {words : List ℕ} {given : List Given}
        → says l 0 ≡ Ok (command.PutVal at_zero) → says l now ≡ Ok (command.PutVal lists) → length words ≡ length lists
        → WorksUntilIdle K IsAsked (P ▸ entry.Accept 0 lists words now (accept_answer K P words)) given Q
        → ServesLine l P (Now now ∷ map Word words ++ given) Q
    got : {l : Line} {P Q : History} {now : ℕ} {id : Fields} {given : List Given}
        → says l 0 ≡ Ok (command.GetVal id)
        → WorksUntilIdle K IsAsked
        (P ▸ entry.Query 0 (Some (name_of id)) (query_answer K P (Some (name_of id)))) given Q
        → ServesLine l P (Now now ∷ given) Q
    listed : {l : Line} {P Q : History} {now : ℕ} {given : List Given}
        → says l 0 ≡ Ok command.ListVal
        → WorksUntilIdle K IsAsked (P ▸ entry.Query 0 None (query_answer K P None)) given Q
        → ServesLine l P (Now now ∷ given) Q
    flushed : {l : Line} {P Q : History} {now number : ℕ} {request : FlushRequest} {given : List Given}
        → says l 0 ≡ Ok (command.Flush request) → flush_open_answer P ≡ Ok number
        → WorksUntilIdle K IsAsked (P ▸ entry.FlushOpen 0 request (flush_open_answer P)) given Q
        → ServesLine l P (Now now ∷ given) (Q ▸ entry.FlushClose 0 number (flush_close_answer Q number))

  -- these lines were served after P, in order
  pub data ServesLines : List Line → History → List Given → History → Type 0 where
    none : {P : History} → ServesLines [] P [] P
    one_more : {l : Line} {lines : List Line} {P Q R : History} {given more : List Given}
        → ServesLines lines P given Q → ServesLine l Q more R → ServesLines (lines ++ l ∷ []) P (given ++ more) R

-- each registration is closed and its object handed out, in order
abbrev pub all_handed_out : Opening → List Registration → History → History
all_handed_out K [] P = P
all_handed_out K (g ∷ gs) P =
    let Q = P ▸ entry.Close 0 g.name (close_answer P g.name) in
    all_handed_out K gs (Q ▸ entry.Retire 0 g.number (retire_answer K Q g.number))

-- The history of a run over these lines: it opens, the lines are served, and at the end of the input the daemon stops,
-- works until it is idle, and hands all objects out. Each of the first three has its own share of what was given.
pub record IsLineRun {Line : Type 0} (K : Opening) (says : Line → ℕ → Said)
    (loaded : List Loaded) (lines : List Line) (given : List Given) (H : History) : Type 0 where
  pub opened : History
  pub served : History
  pub stopped : History
  pub given_first : List Given
  pub given_lines : List Given
  pub given_last : List Given
  pub opens : Opens loaded [] given_first opened
  pub serves : ServesLines K says lines opened given_lines served
  pub stops : WorksUntilIdle K IsAsked (served ▸ entry.Stop 0 why.ControlEnd) given_last stopped
  pub hands_out : H ≡ all_handed_out K (live stopped) stopped
  pub given_is : given ≡ given_first ++ (given_lines ++ given_last)

-- each plug-in tells what it told, and then the calls and answers of all registrations of its name
abbrev pub returned : History → List OnShelf → List OnShelf
returned H shelf =
    map {A = OnShelf} (λ plug. record plug { tells = told_after_all (answered_as plug.name H) plug.tells }) shelf
