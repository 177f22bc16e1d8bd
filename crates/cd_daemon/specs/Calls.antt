-- The cache after a history, and the calls that the entries make.
use Rattle.cd_cache.specs.Cache.{CacheMap, empty}
use Rattle.cd_daemon.specs.Flushes.{flush_posts}
use Rattle.cd_daemon.specs.Handling.{next_handling}
use Rattle.cd_daemon.specs.Performing.{Post}
use Rattle.cd_daemon.specs.declared.Opening.{Opening}
use Rattle.cd_history.specs.History.{Event, History, ◌▸◌}
use Rattle.cd_history.specs.Leases.{takes}
use Rattle.cd_history.specs.Registrations.{live}
use Rattle.cd_history.specs.declared.entry.Entry.TheVariants as entry
use Rattle.cd_history.specs.declared.entry.Joining.TheVariants.{Plug, Probe}
use Rattle.cd_history.specs.declared.entry.Joining.{Joining}
use Rattle.cd_registry.specs.declared.calls.Answer.{Answer}
use Rattle.cd_registry.specs.declared.calls.AnsweredCall.{AnsweredCall}
use Rattle.cd_registry.specs.declared.calls.Call.TheVariants as calls
use Rattle.cd_registry.specs.declared.calls.Call.{Call}
use Rattle.cd_registry.specs.declared.kinds.TheConstants.Kinds.{CONFIGURE}
use Rattle.std.specs.List.{filter}
use Rattle.std.specs.Prelude.{List, Ok, [], bit_and, drop, if◌then◌else◌, length, map, nat_eq, ℕ, ◌++◌, ◌-◌, ◌==◌, ◌∷◌}

-- of some calls, those to r
abbrev pub sent_to : ℕ → List Post → List Call
sent_to r posts = map (λ p. p.call) (filter (λ p. nat_eq p.reg r) posts)

-- of calls and answers in order, each call with its answer, as far as both go
abbrev pub answered_calls : List Call → List Answer → List AnsweredCall
answered_calls (call ∷ more) (answer ∷ answers) = record { call = call; answer = answer } ∷ answered_calls more answers
answered_calls more answers = []

-- a plug-in with CONFIGURE is called with its block of the configuration
abbrev pub configuring : ℕ → Joining → List Post
configuring r (Plug kinds config told) =
    if bit_and kinds.0 CONFIGURE.0 == CONFIGURE.0 then record { reg = r; call = calls.Configure config } ∷ [] else []
configuring r (Probe interval now told) = []

module _ (K : Opening) where
  -- the cache is empty at first, and each Handle leaves the one that its list leaves; no other entry changes it
  abbrev pub cache_after : History → CacheMap
  cache_after [] = empty K.globals.timeout
  cache_after (P ▸ entry.Handle a now reply) = (next_handling K (cache_after P) P now).cache
  cache_after (P ▸ e) = cache_after P

  -- the calls that an entry makes after P, in order
  abbrev pub posts_of : History → Event → List Post
  posts_of P (entry.Register a name joining (Ok r)) = configuring r joining
  posts_of P (entry.Handle a now reply) = (next_handling K (cache_after P) P now).posts
  posts_of P (entry.FlushOpen a request (Ok f)) = flush_posts f request (live P)
  posts_of P e = []

  -- all calls to a registration, in order
  abbrev pub calls_to : ℕ → History → List Call
  calls_to r [] = []
  calls_to r (P ▸ e) = calls_to r P ++ sent_to r (posts_of P e)

  -- those that wait, the oldest first
  abbrev pub waiting_for : ℕ → History → List Call
  waiting_for r P = drop (takes r P) (calls_to r P)

  -- how many calls of r wait
  abbrev pub pending : History → ℕ → ℕ
  pending P r = length (calls_to r P) - takes r P
