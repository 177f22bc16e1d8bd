-- When the core stands for a history.
use Rattle.cd_daemon.specs.Answers.{in_force, limits_of, queued}
use Rattle.cd_daemon.specs.Calls.{cache_after, waiting_for}
use Rattle.cd_daemon.specs.Flushes.{flush_errors, flush_successful, flush_unanswered, flushes_begun, under_way}
use Rattle.cd_daemon.specs.Legal.{IsLegal}
use Rattle.cd_core.specs.Objects.{place_after}
use Rattle.cd_core.specs.Seen.{CoreSeen}
use Rattle.cd_core.specs.declared.flush.Flush.{Flush}
use Rattle.cd_daemon.specs.declared.Opening.{Opening}
use Rattle.cd_history.specs.History.{Event, History, is_stopped, ◌▸◌}
use Rattle.cd_history.specs.Registrations.{Registration, is_closed, kinds_joined, listeners, live, registrations}
use Rattle.cd_registry.specs.Rows.{Row}
use Rattle.cd_registry.specs.declared.kinds.TheConstants.Kinds.{WRITE}
use Rattle.std.specs.Prelude.{List, map, not, ℕ, ◌≡◌}

-- the row of a registration
abbrev pub row_after : Opening → History → Registration → Row
row_after K P g = record {
  name = g.name;
  kinds = kinds_joined g.joining;
  live = not (is_closed g.number P);
  place = place_after P g;
  waiting = waiting_for K g.number P;
}

abbrev pub rows_after : Opening → History → List Row
rows_after K P = map (row_after K P) (registrations P)

-- the numbers of the live writers, in order
abbrev pub writers_after : History → List ℕ
writers_after P = listeners WRITE (live P)

-- a flush that is under way: how many of its calls have no answer, and what came of it so far
abbrev pub flush_after : History → ℕ → Flush
flush_after P f = record {
  number = f;
  unanswered = flush_unanswered f P;
  successful = flush_successful f P;
  errors = flush_errors f P;
}

-- those under way, in order of number
abbrev pub flushes_after : History → List Flush
flushes_after P = map (flush_after P) (under_way P)

-- The core stands for a legal history: what is seen of it is what the history says.
pub record Stands (K : Opening) (core : CoreSeen) (P : History) : Type 0 where
  pub legal : IsLegal K P
  pub opening : core.opening ≡ in_force K P
  pub cache : core.cache ≡ cache_after K P
  pub limits : core.limits ≡ limits_of (in_force K P).globals
  pub queue : core.queue ≡ queued P
  pub rows : core.rows ≡ rows_after K P
  pub writers : core.writers ≡ writers_after P
  pub flushes : core.flushes ≡ flushes_after P
  pub begun : core.begun ≡ flushes_begun P
  pub stopped : core.stopped ≡ is_stopped P

-- A step of the core is the event: from any history for which it stood, and after which the event may come with that
-- request, it stands for that history with the event. So the reply is that of the one-thread daemon.
abbrev pub Makes : CoreSeen → CoreSeen → (Opening → History → Type 0) → Event → Type 0
Makes old new May event = (K : Opening) (P : History) → Stands K old P → May K P → Stands K new (P ▸ event)

-- whatever is in force, and after any history
abbrev pub Anyhow : Opening → History → Type 0
Anyhow K P = Unit {0}
