-- Which histories are those of a one-thread daemon: each reply is its answer after the entries before it.
use Rattle.cd_daemon.specs.Answers.{accept_answer, close_answer, flush_close_answer, flush_open_answer, handle_answer, in_force, is_idle, next_call, query_answer, ready, register_answer, retire_answer}
use Rattle.cd_daemon.specs.Flushes.{flush_begun_by}
use Rattle.cd_daemon.specs.declared.Opening.{Opening}
use Rattle.cd_history.specs.History.{Event, History, handles, kept, ◌▸◌}
use Rattle.cd_history.specs.Leases.{taken_by}
use Rattle.cd_history.specs.Registrations.{closed_by}
use Rattle.cd_history.specs.declared.entry.Entry.TheVariants as entry
use Rattle.cd_types.specs.Types.{fits}
use Rattle.std.specs.List.{list_all}
use Rattle.std.specs.Prelude.{IfSome, IsTrue, Some, [], length, true, ◌<◌, ◌≡◌}

-- The entry may follow P. Only who closed a registration asks for its object, only who began a flush asks for its end,
-- and only who took a plug-in brings it home. Notifications, ticks and readings aren't made yet.
abbrev pub Allowed : Opening → History → Event → Type 0
Allowed K P (entry.Register a name joining reply) = reply ≡ register_answer P name
Allowed K P (entry.Close a name reply) = reply ≡ close_answer P name
Allowed K P (entry.Retire a r reply) = (reply ≡ retire_answer K P r) × IfSome (closed_by r P) (λ b. b ≡ a)
Allowed K P (entry.Accept a lists words now reply) =
    (reply ≡ accept_answer K P words) × IsTrue (list_all (fits (in_force K P).types) lists) × (length words ≡ length lists)
Allowed K P (entry.Handle a now reply) = (reply ≡ handle_answer K P now) × (handles P < length (kept P))
Allowed K P (entry.Query a name reply) = reply ≡ query_answer K P name
Allowed K P (entry.FlushOpen a request reply) = reply ≡ flush_open_answer P
Allowed K P (entry.FlushClose a f reply) =
    (reply ≡ flush_close_answer P f) × IfSome (flush_begun_by f P) (λ b. b ≡ a)
Allowed K P (entry.Take a r call) = (ready K P ≡ Some r) × (next_call K P r ≡ Some call)
Allowed K P (entry.Done a r answer) = taken_by r P ≡ Some a
Allowed K P (entry.Stop a why) = Unit {0}
Allowed K P (entry.Look a idle) = idle ≡ true → IsTrue (is_idle K P)
Allowed K P _ = ⊥

-- each entry may follow those before it
abbrev pub IsLegal : Opening → History → Type 0
IsLegal K [] = Unit {0}
IsLegal K (P ▸ e) = IsLegal K P × Allowed K P e
