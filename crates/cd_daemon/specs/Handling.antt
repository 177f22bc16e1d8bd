-- What handling a value list does: what becomes of it, the cache then, and the calls that it makes; as collectd.conf(5)
-- has it in "Filter configuration".
use Rattle.cd_cache.specs.Cache.{CacheMap, cached_rates, outcome, updated}
use Rattle.cd_cache.specs.declared.entry.Updated.TheVariants as outcomes
use Rattle.cd_cache.specs.declared.entry.Updated.{Updated}
use Rattle.cd_chain.specs.Chains.{ended, run_numbered}
use Rattle.cd_chain.specs.declared.data.Action.TheVariants as actions
use Rattle.cd_chain.specs.declared.data.Chain.{Chain}
use Rattle.cd_chain.specs.declared.data.Run.{Run}
use Rattle.cd_chain.specs.declared.data.Verdict.TheVariants.{Continue, Stop}
use Rattle.cd_chain.specs.declared.data.Verdict.{Verdict}
use Rattle.cd_daemon.specs.Performing.{Effects, Post, nothing, perform_all}
use Rattle.cd_daemon.specs.declared.Opening.{Opening}
use Rattle.cd_daemon.specs.declared.Rules.{Rules}
use Rattle.cd_history.specs.History.{History, handles, kept}
use Rattle.cd_history.specs.Registrations.{Registration, live}
use Rattle.cd_history.specs.declared.entry.How.TheVariants as how
use Rattle.cd_history.specs.declared.entry.How.{How}
use Rattle.cd_match.specs.Matches.{Scene}
use Rattle.cd_types.specs.Types.{set_named}
use Rattle.cd_value.specs.declared.data.DataSet.{DataSet}
use Rattle.cd_value.specs.declared.data.ValueList.{ValueList}
use Rattle.std.specs.Prelude.{Bool, List, None, Option, Some, [], false, if◌then◌else◌, length, nat_lt, slice_get, true, ℕ, ◌∷◌}

-- how a list was stored, how many writers that were named were skipped, the cache then, and the calls, in order
pub record Handling : Type 0 where
  pub how : How
  pub skipped : ℕ
  pub cache : CacheMap
  pub posts : List Post

-- nothing more is done: the cache stays, and the calls are those that were made before
abbrev pub left_at : CacheMap → Effects → Handling
left_at cache done =
    record { how = how.StoppedBefore; skipped = done.skipped; cache = cache; posts = done.posts }

abbrev pub as_how : Updated → How
as_how outcomes.Stored = how.Stored
as_how outcomes.Old = how.Old

-- ---- the chains before and behind the cache

-- what a chain sees beside the list: its data set, the cached rates and the moment
abbrev pub scene_of : DataSet → CacheMap → ℕ → Scene
scene_of set cache now = record { set = set; rates = cached_rates cache; now = now }

-- the run of the chain of a number; where the table has none, this one
abbrev pub run_or : Run → Scene → List Chain → Option ℕ → ValueList → Run
run_or other scene chains None list = other
run_or other scene chains (Some number) list =
    if nat_lt number (length chains) then run_numbered scene chains number list else other

-- the chain before the cache; without one the list goes on as it is
abbrev pub run_before : Rules → Scene → ValueList → Run
run_before rules scene list = run_or (ended Continue list) scene rules.chains rules.pre list

-- a write to all
abbrev pub written_to_all : ValueList → Run
written_to_all list = record { verdict = Continue; list = list; actions = actions.Write [] list ∷ [] }

-- the chain behind the cache; without one the list is written to all
abbrev pub run_behind : Rules → Scene → ValueList → Run
run_behind rules scene list = run_or (written_to_all list) scene rules.chains rules.post list

-- ---- a list

abbrev pub is_stop : Verdict → Bool
is_stop Stop = true
is_stop _ = false

-- With the rules, the live registrations, the list's data set, the moment and the cache: what comes after the run of
-- the chain before the cache. Its actions are performed. Where it stopped, nothing more is done. Else the list as it
-- left it is stored, unless what is cached under its name is as new; and in either case the chain behind the cache
-- runs on it, with the rates that are cached then, and its actions are performed.
abbrev pub after_run : Rules → List Registration → DataSet → ℕ → CacheMap → Run → Handling
after_run rules regs set now cache run =
    let before = perform_all regs run.actions nothing in
    if is_stop run.verdict then left_at cache before
    else
    let after = updated set run.list now cache in
    let behind = run_behind rules (scene_of set after now) run.list in
    let done = perform_all regs behind.actions before in
    record {
      how = as_how (outcome run.list cache);
      skipped = done.skipped;
      cache = after;
      posts = done.posts;
    }

-- the data set of a list, where its type is known: it is wherever one is handled
abbrev pub set_of : List DataSet → ValueList → Option DataSet
set_of types list = set_named list.id.type_name types

-- first the chain before the cache runs on the list
abbrev pub handling_as : Option DataSet → Rules → CacheMap → List Registration → ValueList → ℕ → Handling
handling_as None rules cache regs list now = left_at cache nothing
handling_as (Some set) rules cache regs list now =
    after_run rules regs set now cache (run_before rules (scene_of set cache now) list)

-- What handling a list does, with what is in force, the cache, the live registrations and the moment.
abbrev pub handling : Opening → CacheMap → List Registration → ValueList → ℕ → Handling
handling K cache regs list now = handling_as (set_of K.types list) K.rules cache regs list now

-- what handling does; where no list is left, nothing
abbrev pub handling_if_any : Opening → CacheMap → List Registration → Option ValueList → ℕ → Handling
handling_if_any K cache regs None now = left_at cache nothing
handling_if_any K cache regs (Some list) now = handling K cache regs list now

-- the list that the next Handle takes
abbrev pub next_list : History → Option ValueList
next_list P = slice_get (kept P) (handles P)

-- what the next Handle does at a moment, with that cache
abbrev pub next_handling : Opening → CacheMap → History → ℕ → Handling
next_handling K cache P now = handling_if_any K cache (live P) (next_list P) now
