-- Which flushes there were, as FLUSH of collectd-unixsock(5) asks for them: the calls that each makes, and what came
-- of these.
use Rattle.cd_daemon.specs.Performing.{Post}
use Rattle.cd_history.specs.History.{Event, History, ◌▸◌}
use Rattle.cd_history.specs.Leases.{call_out}
use Rattle.cd_history.specs.Registrations.{Registration, has_kind, is_text, listeners, live}
use Rattle.cd_history.specs.declared.entry.Entry.TheVariants as entry
use Rattle.cd_history.specs.declared.entry.FlushEnd.TheVariants as ends
use Rattle.cd_registry.specs.declared.calls.Answer.TheVariants.{Done}
use Rattle.cd_registry.specs.declared.calls.Answer.{Answer}
use Rattle.cd_registry.specs.declared.calls.Call.TheVariants as calls
use Rattle.cd_registry.specs.declared.calls.Call.{Call}
use Rattle.cd_registry.specs.declared.kinds.TheConstants.Kinds.{FLUSH}
use Rattle.cd_value.specs.declared.data.FlushRequest.{FlushRequest}
use Rattle.std.specs.List.{filter, find, flat_map}
use Rattle.std.specs.Option.{option_map}
use Rattle.std.specs.Prelude.{Bool, List, None, Ok, Option, Some, [], false, if◌then◌else◌, is_some, length, map, min, nat_eq, not, true, ℕ, ◌&&◌, ◌*◌, ◌++◌, ◌+◌, ◌-◌, ◌^◌, ◌∷◌}

-- ---- what is asked for

-- of the live registrations the one of a name, where it is flushed
abbrev pub flusher_named : List Registration → List ℕ → Option ℕ
flusher_named regs name =
    option_map (λ g. g.number) (find (λ g. is_text g.name name && has_kind FLUSH g) regs)

-- the plug-ins that are meant: those named, none where no live plug-in of that name is flushed; or else all that are
-- flushed
abbrev pub plugins_meant : FlushRequest → List Registration → List (Option ℕ)
plugins_meant request regs = elim request.plugins [
  | [] ↦ map Some (listeners FLUSH regs)
  | name ∷ more ↦ map (flusher_named regs) (name ∷ more)
]

-- the names of values that are meant: those given, or all at once
abbrev pub names_meant : FlushRequest → List (Option (List ℕ))
names_meant request = elim request.names [ [] ↦ None ∷ [] | name ∷ more ↦ map Some (name ∷ more) ]

-- the calls of a plug-in, one for each name
abbrev pub flush_calls_to : ℕ → FlushRequest → Option ℕ → List Post
flush_calls_to number request None = []
flush_calls_to number request (Some r) =
    map (λ name. record { reg = r; call = calls.Flush number request.timeout name }) (names_meant request)

-- the calls of a flush, plug-in by plug-in and then name by name, as often as each is given
abbrev pub flush_posts : ℕ → FlushRequest → List Registration → List Post
flush_posts number request regs = flat_map (flush_calls_to number request) (plugins_meant request regs)

-- how many pairs there are of a plug-in named and a name of values, where no live plug-in of that name is flushed
abbrev pub pairs_missed : FlushRequest → List Registration → ℕ
pairs_missed request regs =
    length (filter (λ plugin. not (is_some plugin)) (plugins_meant request regs)) * length (names_meant request)

-- ---- the flushes of a history

-- how many flushes were begun; each has the count of those before it as its number
abbrev pub flushes_begun : History → ℕ
flushes_begun [] = 0
flushes_begun (P ▸ entry.FlushOpen a request (Ok n)) = flushes_begun P + 1
flushes_begun (P ▸ e) = flushes_begun P

-- who began flush f
abbrev pub flush_begun_by : ℕ → History → Option ℕ
flush_begun_by f [] = None
flush_begun_by f (P ▸ entry.FlushOpen a request (Ok n)) = if nat_eq n f then Some a else flush_begun_by f P
flush_begun_by f (P ▸ e) = flush_begun_by f P

-- those that are under way, in order of number: they were begun, and their counts weren't told
abbrev pub under_way : History → List ℕ
under_way [] = []
under_way (P ▸ entry.FlushOpen a request (Ok n)) = under_way P ++ n ∷ []
under_way (P ▸ entry.FlushClose a n (ends.Counts successful errors)) = filter (λ f. not (nat_eq f n)) (under_way P)
under_way (P ▸ e) = under_way P

-- the event tells the counts of flush f
abbrev pub tells_counts : ℕ → Event → Bool
tells_counts f (entry.FlushClose a n (ends.Counts successful errors)) = nat_eq n f
tells_counts f e = false

-- how many calls it made
abbrev pub flush_calls : ℕ → History → ℕ
flush_calls f [] = 0
flush_calls f (P ▸ entry.FlushOpen a request (Ok n)) =
    if nat_eq n f then length (flush_posts n request (live P)) else flush_calls f P
flush_calls f (P ▸ e) = flush_calls f P

-- how many of its pairs named a plug-in that isn't live, or isn't flushed
abbrev pub flush_missed : ℕ → History → ℕ
flush_missed f [] = 0
flush_missed f (P ▸ entry.FlushOpen a request (Ok n)) =
    if nat_eq n f then pairs_missed request (live P) else flush_missed f P
flush_missed f (P ▸ e) = flush_missed f P

-- the number of the flush that a call is one of
abbrev pub flush_of : Call → Option ℕ
flush_of (calls.Flush number timeout name) = Some number
flush_of call = None

abbrev pub is_number : ℕ → Option ℕ → Bool
is_number f None = false
is_number f (Some number) = nat_eq number f

abbrev pub is_call_of : ℕ → Option Call → Bool
is_call_of f None = false
is_call_of f (Some call) = is_number f (flush_of call)

-- the answers to its calls since it was begun, in the order in which they came
abbrev pub flush_answers : ℕ → History → List Answer
flush_answers f [] = []
flush_answers f (P ▸ entry.FlushOpen a request (Ok n)) = if nat_eq n f then [] else flush_answers f P
flush_answers f (P ▸ entry.Done a reg answer) =
    if is_call_of f (call_out reg P) then flush_answers f P ++ answer ∷ [] else flush_answers f P
flush_answers f (P ▸ e) = flush_answers f P

-- how many of its calls have no answer
abbrev pub flush_unanswered : ℕ → History → ℕ
flush_unanswered f P = flush_calls f P - length (flush_answers f P)

-- ---- what came of a flush

abbrev pub is_done : Answer → Bool
is_done Done = true
is_done _ = false

-- a count stands still at the end of its type
abbrev pub counted : ℕ → ℕ
counted n = min n (2 ^ 64 - 1)

-- how many of its calls were answered with Done
abbrev pub flush_successful : ℕ → History → ℕ
flush_successful f P = counted (length (filter is_done (flush_answers f P)))

-- how many were answered otherwise, and those pairs whose plug-in isn't live, or isn't flushed
abbrev pub flush_errors : ℕ → History → ℕ
flush_errors f P =
    counted (flush_missed f P + length (filter (λ answer. not (is_done answer)) (flush_answers f P)))
