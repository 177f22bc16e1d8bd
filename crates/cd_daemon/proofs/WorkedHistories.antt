-- Histories worked by hand: what a one-thread daemon answers in them.
use Rattle.cd_daemon.specs.Answers.{accept_answer, close_answer, flush_close_answer, flush_open_answer, handle_answer, is_idle, next_call, query_answer, queued, ready, register_answer, retire_answer}
use Rattle.cd_daemon.specs.Calls.{calls_to, posts_of}
use Rattle.cd_daemon.specs.Flushes.{flush_missed}
use Rattle.cd_daemon.specs.Legal.{Allowed, IsLegal}
use Rattle.cd_daemon.specs.Performing.{Post}
use Rattle.cd_daemon.specs.declared.Opening.{Opening}
use Rattle.cd_globals.specs.Globals.{default_globals}
use Rattle.cd_history.specs.History.{History, is_stopped, ◌▸◌}
use Rattle.cd_history.specs.Leases.{answered_as}
use Rattle.cd_history.specs.Registrations.{live, number_of_live, registrations}
use Rattle.cd_history.specs.declared.entry.Entry.TheVariants as entry
use Rattle.cd_history.specs.declared.entry.FlushEnd.TheVariants as ends
use Rattle.cd_history.specs.declared.entry.Found.TheVariants as found
use Rattle.cd_history.specs.declared.entry.How.TheVariants as how
use Rattle.cd_history.specs.declared.entry.Joining.TheVariants.{Plug}
use Rattle.cd_history.specs.declared.entry.Joining.{Joining}
use Rattle.cd_history.specs.declared.entry.RegisterFault.TheVariants as refused
use Rattle.cd_history.specs.declared.entry.Why.TheVariants as why
use Rattle.cd_registry.specs.Faults.{is_reserved}
use Rattle.cd_registry.specs.declared.calls.Answer.TheVariants as answers
use Rattle.cd_registry.specs.declared.calls.Call.TheVariants as calls
use Rattle.cd_registry.specs.declared.calls.Call.{Call}
use Rattle.cd_registry.specs.declared.faults.RetireFault.TheVariants as held_back
use Rattle.cd_types.specs.Types.{fits_set, single}
use Rattle.cd_value.specs.declared.data.DsType.TheVariants as kinds
use Rattle.cd_value.specs.declared.data.FlushRequest.{FlushRequest}
use Rattle.cd_value.specs.declared.data.Offered.TheVariants.{Dropped, Kept}
use Rattle.cd_value.specs.declared.data.Rate.TheVariants.{Known}
use Rattle.cd_value.specs.declared.data.Value.TheVariants.{Gauge}
use Rattle.cd_value.specs.declared.data.ValueList.{ValueList}
use Rattle.std.proofs.Common.{Err, List, None, Ok, Some, [], ap, arith, codes, false, length, pos, refl, true, ℕ, ◌<◌, ◌∷◌, ◌≡◌}
use Rattle.std.specs.Prelude.{unwrap_or}

-- a daemon that knows gauges alone, and has no filter chains
abbrev K : Opening
K = record {
  types = single (codes "gauge") kinds.Gauge None ∷ [];
  globals = default_globals;
  rules = record { chains = []; pre = None; post = None };
}

-- a gauge of some millionths at a time
abbrev gauge : ℕ → ℕ → ValueList
gauge time level = record {
  id = record { host = codes "h"; plugin = codes "p"; plugin_instance = []; type_name = codes "gauge"; type_instance = [] };
  time = time;
  interval = 10;
  values = Gauge (Some (pos level)) ∷ [];
}

-- a plug-in that is called with lists
abbrev writer : ℕ → Joining
writer mark = Plug (record { 0 = 1 }) [] (record { mark = mark; calls = None })

-- ---- two writers, and a list

abbrev registered : History
registered = [] ▸ entry.Register 0 (codes "a") (writer 0) (Ok 0) ▸ entry.Register 0 (codes "b") (writer 1) (Ok 1)

abbrev accepted : History
accepted = registered ▸ entry.Accept 0 (gauge 5 250000 ∷ []) (0 ∷ []) 9 (Ok (Kept ∷ []))

abbrev handled : History
handled = accepted ▸ entry.Handle 0 9 (record { how = how.Stored; skipped = 0 })

-- actor 7 takes the call to the first one, which is closed meanwhile
abbrev taken : History
taken = handled ▸ entry.Take 7 0 (calls.Write (gauge 5 250000)) ▸ entry.Close 0 (codes "a") (Some 0)

abbrev done : History
done = taken ▸ entry.Done 7 0 answers.Done ▸ entry.Take 0 1 (calls.Write (gauge 5 250000)) ▸ entry.Done 0 1 answers.Done

abbrev retired : History
retired = done ▸ entry.Retire 0 0 (Ok tt) ▸ entry.Stop 0 why.ControlEnd

all_legal : IsLegal K retired
unfolding fits_set
all_legal =
    let one_waits : 0 < 1 = omega arith in
    ((((((((((((tt, refl), refl), (refl, refl, refl)), (refl, one_waits)), (refl, refl)), refl), refl), (refl, refl)), refl), (refl, refl)), tt))

-- registrations
name_taken : register_answer registered (codes "b") ≡ Err (refused.NameTaken 1)
name_taken = refl

name_free_again : register_answer taken (codes "a") ≡ Ok 2
name_free_again = refl

name_reserved : register_answer [] (codes "network") ≡ Err refused.Reserved
name_reserved = refl

none_after_a_stop : register_answer retired (codes "c") ≡ Err refused.Stopping
none_after_a_stop = refl

module _ (P : History) (name : List ℕ) (goes_on : is_stopped P ≡ false) (is_free : is_reserved name ≡ false) (is_new : number_of_live name P ≡ None) where
  last_of_the_table : length (live P) ≡ 255 → length (registrations P) ≡ 300 → register_answer P name ≡ Ok 300
  last_of_the_table many all = rw (goes_on, is_free, is_new, many, all) refl

  none_beyond_the_table : length (live P) ≡ 256 → register_answer P name ≡ Err refused.TableFull
  none_beyond_the_table many = rw (goes_on, is_free, is_new, many) refl

-- closing and handing out
closes_the_first : close_answer handled (codes "a") ≡ Some 0
closes_the_first = refl

closes_no_more : close_answer taken (codes "a") ≡ None
closes_no_more = refl

not_closed : retire_answer K registered 0 ≡ Err held_back.NotRegistered
not_closed = refl

with_an_actor : retire_answer K taken 0 ≡ Err (held_back.Out 7)
with_an_actor = refl

call_waits : retire_answer K (handled ▸ entry.Close 0 (codes "a") (Some 0)) 0 ≡ Err (held_back.Pending 1)
call_waits = refl

not_by_another : Allowed K taken (entry.Done 3 0 answers.Done) → ⊥
not_by_another may = let same : 7 ≡ 3 = ap (λ who. unwrap_or who 0) may in absurd (omega (arith, same))

home_again : retire_answer K (taken ▸ entry.Done 7 0 answers.Done) 0 ≡ Ok tt
home_again = refl

handed_out_once : retire_answer K retired 0 ≡ Err held_back.NotRegistered
handed_out_once = refl

not_to_another : Allowed K done (entry.Retire 3 0 (Ok tt)) → ⊥
not_to_another may = let same : 0 ≡ 3 = may.1 in absurd (omega (arith, same))

-- the queue and the calls
stored : handle_answer K accepted 9 ≡ record { how = how.Stored; skipped = 0 }
stored = refl

as_old : handle_answer K (handled ▸ entry.Accept 0 (gauge 5 1 ∷ []) (0 ∷ []) 9 (Ok (Kept ∷ []))) 9 ≡ record { how = how.Old; skipped = 0 }
as_old = refl

least_first : ready K handled ≡ Some 0
least_first = refl

other_while_out : ready K taken ≡ Some 1
other_while_out = refl

its_call : next_call K taken 1 ≡ Some (calls.Write (gauge 5 250000))
its_call = refl

none_left : next_call K done 1 ≡ None
none_left = refl

what_it_got : answered_as (codes "b") done ≡ record { call = calls.Write (gauge 5 250000); answer = answers.Done } ∷ []
what_it_got = refl

nobody_else : calls_to K 2 done ≡ []
nobody_else = refl

-- idle
at_first : is_idle K registered ≡ true
at_first = refl

not_with_a_list : is_idle K accepted ≡ false
not_with_a_list = refl

not_with_a_call : is_idle K taken ≡ false
not_with_a_call = refl

at_last : is_idle K done ≡ true
at_last = refl

not_said_before : Allowed K taken (entry.Look 0 true) → ⊥
not_said_before may = let e : false ≡ true = may refl in cc

-- queries
its_rate : query_answer K done (Some (codes "h/p/gauge")) ≡ found.Got (codes "value" ∷ []) (Known (pos 250000) 1 ∷ [])
its_rate = refl

none_of_that_name : query_answer K done (Some (codes "h/p/gauge-x")) ≡ found.NoSuchValue
none_of_that_name = refl

all_rows : query_answer K done None ≡ found.Listed ((5, codes "h/p/gauge") ∷ [])
all_rows = refl

-- ---- a plug-in that is configured and flushed

abbrev begun : History
begun = [] ▸ entry.Register 0 (codes "csv") (Plug (record { 0 = 18 }) (codes "a 1\n") (record { mark = 0; calls = None })) (Ok 0)

configured_first : next_call K begun 0 ≡ Some (calls.Configure (codes "a 1\n"))
configured_first = refl

-- for it and for one that isn't there, one name
abbrev request : FlushRequest
request = record { plugins = codes "csv" ∷ codes "none" ∷ []; names = codes "h/p/gauge" ∷ []; timeout = None }

abbrev its_flush : Call
its_flush = calls.Flush 0 None (Some (codes "h/p/gauge"))

abbrev flushing : History
flushing = begun ▸ entry.Take 0 0 (calls.Configure (codes "a 1\n")) ▸ entry.Done 0 0 answers.Done ▸ entry.FlushOpen 0 request (Ok 0)

flushed_once : next_call K flushing 0 ≡ Some its_flush
flushed_once = refl

unanswered : flush_close_answer flushing 0 ≡ ends.NotYet 1
unanswered = refl

abbrev flushed : History
flushed = flushing ▸ entry.Take 0 0 its_flush ▸ entry.Done 0 0 answers.Done

counts_both : flush_close_answer flushed 0 ≡ ends.Counts 1 1
counts_both = refl

counts_failures : flush_close_answer (flushing ▸ entry.Take 0 0 its_flush ▸ entry.Done 0 0 answers.Failed) 0 ≡ ends.Counts 0 2
counts_failures = refl

abbrev counted_up : History
counted_up = flushed ▸ entry.FlushClose 0 0 (ends.Counts 1 1)

flush_legal : IsLegal K counted_up
flush_legal = (((((((tt, refl), (refl, refl)), refl), refl), (refl, refl)), refl), (refl, refl))

told_once : flush_close_answer counted_up 0 ≡ ends.NoSuchFlush
told_once = refl

numbered_on : flush_open_answer flushing ≡ Ok 1
numbered_on = refl

no_flush_after_a_stop : flush_open_answer retired ≡ Err (record {})
no_flush_after_a_stop = refl

-- ---- with one that is flushed and not configured, and one that is called with lists alone

abbrev three : History
three =
    begun
    ▸ entry.Register 0 (codes "log") (Plug (record { 0 = 2 }) (codes "b 2\n") (record { mark = 1; calls = None })) (Ok 1)
    ▸ entry.Register 0 (codes "w") (writer 2) (Ok 2)

not_configured : next_call K three 1 ≡ None
not_configured = refl

-- two names, for one of them twice, and for the one that isn't flushed
abbrev wide : FlushRequest
wide = record {
  plugins = codes "log" ∷ codes "w" ∷ codes "csv" ∷ codes "log" ∷ [];
  names = codes "a" ∷ codes "b" ∷ [];
  timeout = Some 3;
}

abbrev one_call : ℕ → List ℕ → Post
one_call r name = record { reg = r; call = calls.Flush 0 (Some 3) (Some name) }

as_often_as_given : posts_of K three (entry.FlushOpen 4 wide (Ok 0))
    ≡ one_call 1 (codes "a") ∷ one_call 1 (codes "b") ∷ one_call 0 (codes "a") ∷ one_call 0 (codes "b") ∷ one_call 1 (codes "a") ∷ one_call 1 (codes "b") ∷ []
as_often_as_given = refl

-- with nothing named, all that are flushed, and all names at once
all_flushed : posts_of K three (entry.FlushOpen 4 (record { plugins = []; names = []; timeout = None }) (Ok 0))
    ≡ record { reg = 0; call = calls.Flush 0 None None } ∷ record { reg = 1; call = calls.Flush 0 None None } ∷ []
all_flushed = refl

-- actor 4 begins it
abbrev wide_begun : History
wide_begun = three ▸ entry.FlushOpen 4 wide (Ok 0)

-- one plug-in, and each of the two names
two_missed : flush_missed 0 wide_begun ≡ 2
two_missed = refl

six_unanswered : flush_close_answer wide_begun 0 ≡ ends.NotYet 6
six_unanswered = refl

writer_uncalled : calls_to K 2 wide_begun ≡ []
writer_uncalled = refl

not_told_another : Allowed K wide_begun (entry.FlushClose 3 0 (ends.NotYet 6)) → ⊥
not_told_another may = let same : 4 ≡ 3 = may.1 in absurd (omega (arith, same))

-- ---- a queue of two lists at most

abbrev narrow : Opening
narrow = record K { globals = record default_globals { high = 2; low = 2 } }

third_dropped : accept_answer narrow [] (7 ∷ 8 ∷ 9 ∷ []) ≡ Ok (Kept ∷ Kept ∷ Dropped ∷ [])
third_dropped = refl

-- two come and one is handled, so that there is room for one
abbrev one_handled : History
one_handled =
    []
    ▸ entry.Accept 0 (gauge 5 1 ∷ gauge 6 1 ∷ []) (0 ∷ 0 ∷ []) 9 (Ok (Kept ∷ Kept ∷ []))
    ▸ entry.Handle 0 9 (record { how = how.Stored; skipped = 0 })

room_for_one : accept_answer narrow one_handled (7 ∷ 8 ∷ []) ≡ Ok (Kept ∷ Dropped ∷ [])
room_for_one = refl

-- two more come, and the next one is handled
abbrev one_dropped : History
one_dropped =
    one_handled
    ▸ entry.Accept 0 (gauge 7 1 ∷ gauge 8 1 ∷ []) (7 ∷ 8 ∷ []) 9 (Ok (Kept ∷ Dropped ∷ []))
    ▸ entry.Handle 0 9 (record { how = how.Stored; skipped = 0 })

drop_legal : IsLegal narrow one_dropped
unfolding fits_set
drop_legal =
    let one_waits : 0 < 2 = omega arith in
    let next_waits : 1 < 3 = omega arith in
    ((((tt, (refl, refl, refl)), (refl, one_waits)), (refl, refl, refl)), (refl, next_waits))

-- the dropped one isn't handled
last_queued : queued one_dropped ≡ gauge 7 1 ∷ []
last_queued = refl
