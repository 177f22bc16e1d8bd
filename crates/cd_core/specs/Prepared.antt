-- What handling a list comes to, before anything is changed: words of private contracts and of proofs. No public clause
-- cites them.
use Rattle.cd_cache.specs.Cache.{CacheMap, outcome, updated}
use Rattle.cd_chain.specs.declared.data.Chain.{Chain}
use Rattle.cd_core.specs.Posting.{write_if_any}
use Rattle.cd_core.specs.declared.prepared.Prepared.TheVariants.{Passed, Stopped}
use Rattle.cd_core.specs.declared.prepared.Prepared.{Prepared}
use Rattle.cd_daemon.specs.Handling.{Handling, as_how, run_behind, scene_of}
use Rattle.cd_daemon.specs.Performing.{Effects, Post, perform_all}
use Rattle.cd_daemon.specs.declared.Rules.{Rules}
use Rattle.cd_history.specs.Registrations.{Registration}
use Rattle.cd_history.specs.declared.entry.How.TheVariants as how
use Rattle.cd_history.specs.declared.entry.How.{How}
use Rattle.cd_value.specs.declared.data.DataSet.{DataSet}
use Rattle.cd_value.specs.declared.data.ValueList.{ValueList}
use Rattle.std.specs.Prelude.{List, None, Option, Some, if◌then◌else◌, length, nat_lt, unwrap_or, ℕ, ◌++◌}

-- the number of a chain, where the table has it
abbrev pub chain_there : List Chain → Option ℕ → Option ℕ
chain_there chains None = None
chain_there chains (Some number) = if nat_lt number (length chains) then Some number else None

-- what comes behind the chain before the cache, where that let the list pass: it is stored, and the chain behind the
-- cache runs on it
abbrev pub passed_on : Rules → List Registration → DataSet → ℕ → CacheMap → ValueList → Effects → Handling
passed_on rules regs set now cache list before =
    let after = updated set list now cache in
    let done = perform_all regs (run_behind rules (scene_of set after now) list).actions before in
    record {
      how = as_how (outcome list cache);
      skipped = done.skipped;
      cache = after;
      posts = done.posts;
    }

abbrev pub prepared_posts : ValueList → Prepared → List Post
prepared_posts list (Stopped done) = done.posts
prepared_posts list (Passed changed done last) = done.posts ++ write_if_any (unwrap_or changed list) last

abbrev pub prepared_skipped : Prepared → ℕ
prepared_skipped (Stopped done) = done.skipped
prepared_skipped (Passed changed done last) = done.skipped

abbrev pub prepared_how : CacheMap → ValueList → Prepared → How
prepared_how cache list (Stopped done) = how.StoppedBefore
prepared_how cache list (Passed changed done last) = as_how (outcome (unwrap_or changed list) cache)

abbrev pub prepared_cache : DataSet → ℕ → CacheMap → ValueList → Prepared → CacheMap
prepared_cache set now cache list (Stopped done) = cache
prepared_cache set now cache list (Passed changed done last) = updated set (unwrap_or changed list) now cache

-- what handling the list does
abbrev pub prepared_handling : DataSet → ℕ → CacheMap → ValueList → Prepared → Handling
prepared_handling set now cache list prepared = record {
  how = prepared_how cache list prepared;
  skipped = prepared_skipped prepared;
  cache = prepared_cache set now cache list prepared;
  posts = prepared_posts list prepared;
}
