-- The answers of a one-thread daemon after a history.
use Rattle.cd_cache.specs.Cache.{cached}
use Rattle.cd_cache.specs.Rows.{rows_of}
use Rattle.cd_cache.specs.declared.entry.CacheEntry.{CacheEntry}
use Rattle.cd_daemon.specs.Calls.{cache_after, calls_to, pending}
use Rattle.cd_daemon.specs.Flushes.{flush_errors, flush_successful, flush_unanswered, flushes_begun, under_way}
use Rattle.cd_daemon.specs.Handling.{next_handling}
use Rattle.cd_daemon.specs.declared.Opening.{Opening}
use Rattle.cd_globals.specs.declared.Globals.{Globals}
use Rattle.cd_history.specs.History.{History, handles, is_stopped, kept}
use Rattle.cd_history.specs.Leases.{taken_by, takes}
use Rattle.cd_history.specs.Registrations.{Registration, is_closed, is_plug, is_retired, live, number_of_live, registrations}
use Rattle.cd_history.specs.declared.entry.FlushEnd.TheVariants as ends
use Rattle.cd_history.specs.declared.entry.FlushEnd.{FlushEnd}
use Rattle.cd_history.specs.declared.entry.Found.TheVariants as found
use Rattle.cd_history.specs.declared.entry.Found.{Found}
use Rattle.cd_history.specs.declared.entry.Handled.{Handled}
use Rattle.cd_history.specs.declared.entry.RegisterFault.TheVariants as refused
use Rattle.cd_history.specs.declared.entry.RegisterFault.{RegisterFault}
use Rattle.cd_history.specs.declared.entry.Stopping.{Stopping}
use Rattle.cd_queue.specs.Drops.{Limits, fates_of}
use Rattle.cd_registry.specs.Faults.{is_reserved}
use Rattle.cd_registry.specs.declared.calls.Call.{Call}
use Rattle.cd_registry.specs.declared.faults.RetireFault.TheVariants as held_back
use Rattle.cd_registry.specs.declared.faults.RetireFault.{RetireFault}
use Rattle.cd_registry.specs.declared.faults.TheConstants.{LIVE_LIMIT}
use Rattle.cd_types.specs.Types.{set_named}
use Rattle.cd_value.specs.declared.data.DataSet.{DataSet}
use Rattle.cd_value.specs.declared.data.Offered.{Offered}
use Rattle.cd_value.specs.declared.data.ValueList.{ValueList}
use Rattle.std.specs.List.{find, list_any}
use Rattle.std.specs.Option.{option_map}
use Rattle.std.specs.Prelude.{Bool, Err, List, None, Ok, Option, Result, Some, [], drop, if◌then◌else◌, is_some, length, map, nat_eq, nat_le, not, slice_get, ℕ, ◌&&◌, ◌||◌}

-- What is in force after a history: what was so from the start. No entry changes it.
abbrev pub in_force : Opening → History → Opening
in_force K P = K

-- the answer, unless a stop came before
abbrev pub unless_stopped : {A : Type 0} → History → A → Result A Stopping
unless_stopped P answer = if is_stopped P then Err (record {}) else Ok answer

-- the number of the new registration; none of the daemon's own names is given away, and no live one's, and at most
-- LIVE_LIMIT registrations are live
abbrev pub register_answer : History → List ℕ → Result ℕ RegisterFault
register_answer P name =
    if is_stopped P then Err refused.Stopping
    else if is_reserved name then Err refused.Reserved
    else elim (number_of_live name P) [
      | Some r ↦ Err (refused.NameTaken r)
      | None ↦ if nat_le LIVE_LIMIT (length (live P)) then Err refused.TableFull else Ok (length (registrations P))
    ]

-- the number of the live registration of the name, or none
abbrev pub close_answer : History → List ℕ → Option ℕ
close_answer P name = number_of_live name P

abbrev pub home_or_pending : ℕ → Result (Unit {0}) RetireFault
home_or_pending n = if nat_eq n 0 then Ok tt else Err (held_back.Pending n)

-- the object of a closed registration is handed out once, when it is at home and no call waits for it
abbrev pub retire_answer : Opening → History → ℕ → Result (Unit {0}) RetireFault
retire_answer K P r =
    if not (is_closed r P) || is_retired r P then Err held_back.NotRegistered
    else elim (taken_by r P) [ Some a ↦ Err (held_back.Out a) | None ↦ home_or_pending (pending K P r) ]

-- the limits of the write queue
abbrev pub limits_of : Globals → Limits
limits_of globals = record { high = globals.high; low = globals.low }

-- the lists that wait to be handled, the first to be handled first
abbrev pub queued : History → List ValueList
queued P = drop (handles P) (kept P)

-- each list is kept or dropped by its word, and by how many wait then
abbrev pub accept_answer : Opening → History → List ℕ → Result (List Offered) Stopping
accept_answer K P words = unless_stopped P (fates_of (limits_of (in_force K P).globals) (length (queued P)) words)

-- how the list was stored, and how many writers that were named were skipped
abbrev pub handle_answer : Opening → History → ℕ → Handled
handle_answer K P now =
    let done = next_handling K (cache_after K P) P now in
    record { how = done.how; skipped = done.skipped }

-- the names of the data sources of a cached list, by the types that are known
abbrev pub source_names : List DataSet → CacheEntry → List (List ℕ)
source_names types entry =
    elim (set_named entry.list.id.type_name types) [ None ↦ [] | Some set ↦ map (λ source. source.name) set.sources ]

abbrev pub found_in : List DataSet → Option CacheEntry → Found
found_in types None = found.NoSuchValue
found_in types (Some entry) = found.Got (source_names types entry) entry.rates

-- the rates that are cached under a name, or the rows of all
abbrev pub query_answer : Opening → History → Option (List ℕ) → Found
query_answer K P None = found.Listed (rows_of (cache_after K P))
query_answer K P (Some name) = found_in (in_force K P).types (cached name (cache_after K P))

-- a call of it may be taken: it is a plug-in that is at home, and a call waits
abbrev pub may_be_taken : Opening → History → Registration → Bool
may_be_taken K P g =
    is_plug g.joining && not (is_retired g.number P)
    && not (is_some (taken_by g.number P)) && not (nat_eq (pending K P g.number) 0)

-- the least of them
abbrev pub ready : Opening → History → Option ℕ
ready K P = option_map (λ g. g.number) (find (may_be_taken K P) (registrations P))

-- the call that the next Take of r gets
abbrev pub next_call : Opening → History → ℕ → Option Call
next_call K P r = slice_get (calls_to K r P) (takes r P)

-- nothing is queued, and no plug-in is ready
abbrev pub is_idle : Opening → History → Bool
is_idle K P = nat_le (length (kept P)) (handles P) && not (is_some (ready K P))

-- the number of the flush that is begun
abbrev pub flush_open_answer : History → Result ℕ Stopping
flush_open_answer P = unless_stopped P (flushes_begun P)

-- of a flush that is under way its counts, once all its calls were answered
abbrev pub flush_close_answer : History → ℕ → FlushEnd
flush_close_answer P f =
    if not (list_any (nat_eq f) (under_way P)) then ends.NoSuchFlush
    else if nat_eq (flush_unanswered f P) 0 then ends.Counts (flush_successful f P) (flush_errors f P)
    else ends.NotYet (flush_unanswered f P)
