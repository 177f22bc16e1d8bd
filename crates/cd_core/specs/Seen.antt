-- The core as contracts see it.
use Rattle.cd_cache.specs.Cache.{CacheMap}
use Rattle.cd_chain.specs.declared.data.Chain.{Chain}
use Rattle.cd_core.specs.declared.state.Core.{Core}
use Rattle.cd_core.specs.declared.flush.Flush.{Flush}
use Rattle.cd_daemon.specs.declared.Opening.{Opening}
use Rattle.cd_globals.specs.declared.Globals.{Globals}
use Rattle.cd_queue.specs.Drops.{Limits}
use Rattle.cd_registry.specs.Registry.{rows}
use Rattle.cd_registry.specs.Rows.{Row}
use Rattle.cd_registry.specs.declared.plug.PlugTells.{PlugTells}
use Rattle.cd_registry.specs.declared.probe.ProbeTells.{ProbeTells}
use Rattle.cd_value.specs.declared.data.DataSet.{DataSet}
use Rattle.cd_value.specs.declared.data.ValueList.{ValueList}
use Rattle.std.specs.Prelude.{Bool, List, Option, length, sum_by, ℕ}

-- What is in force; the cache; the limits of the write queue, and the lists that wait in it; a row for each
-- registration, with where its object is and what that tells at home; the numbers of the live writers; the flushes
-- under way, and how many were begun; whether a stop came.
pub record CoreSeen : Type 0 where
  pub opening : Opening
  pub cache : CacheMap
  pub limits : Limits
  pub queue : List ValueList
  pub rows : List Row
  pub writers : List ℕ
  pub flushes : List Flush
  pub begun : ℕ
  pub stopped : Bool

-- what is in force from the start, by the settings: the rules are the chains before and behind the cache
abbrev pub opened : Globals → List DataSet → List Chain → Option ℕ → Option ℕ → Opening
opened globals types chains pre post = record {
  types = types;
  globals = globals;
  rules = record { chains = chains; pre = pre; post = post };
}

-- what is seen of a core, by what its objects tell
abbrev pub seen : {P Q : Type 0} → (P → PlugTells) → (Q → ProbeTells) → Core P Q → CoreSeen
seen plug probe core = record {
  opening = record { types = core.types; globals = core.globals; rules = core.rules };
  cache = core.cache;
  limits = core.queue.limits;
  queue = core.queue.lists;
  rows = rows plug probe core.registry;
  writers = core.writers.items;
  flushes = core.flushes.items;
  begun = core.begun;
  stopped = core.stopped;
}

-- how many calls wait, of all registrations
abbrev pub calls_waiting : List Row → ℕ
calls_waiting rows = sum_by (λ row. length row.waiting) rows
