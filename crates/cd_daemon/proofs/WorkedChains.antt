-- Value lists that filter chains handle, worked by hand: what the daemon answers, what is cached, and the calls that its
-- writer gets.
use Rattle.cd_chain.specs.Chains.{through}
use Rattle.cd_chain.specs.declared.data.Chain.{Chain}
use Rattle.cd_daemon.specs.Answers.{handle_answer, next_call, query_answer}
use Rattle.cd_daemon.specs.Calls.{cache_after, calls_to}
use Rattle.cd_daemon.specs.declared.Opening.{Opening}
use Rattle.cd_daemon.specs.declared.Rules.{Rules}
use Rattle.cd_globals.specs.Globals.{default_globals}
use Rattle.cd_history.specs.History.{History, ◌▸◌}
use Rattle.cd_history.specs.declared.entry.Entry.TheVariants as entry
use Rattle.cd_history.specs.declared.entry.Found.TheVariants as found
use Rattle.cd_history.specs.declared.entry.How.TheVariants as how
use Rattle.cd_history.specs.declared.entry.How.{How}
use Rattle.cd_history.specs.declared.entry.Joining.TheVariants.{Plug}
use Rattle.cd_match.specs.declared.data.Match.TheVariants as matches
use Rattle.cd_pattern.specs.declared.field.Field.TheVariants as fields
use Rattle.cd_registry.specs.declared.calls.Answer.TheVariants as answers
use Rattle.cd_registry.specs.declared.calls.Call.TheVariants as calls
use Rattle.cd_target.specs.Placeholders.{begins_with, field_at, substituted}
use Rattle.cd_target.specs.declared.target.Target.TheVariants as targets
use Rattle.cd_target.specs.declared.target.Target.{Target}
use Rattle.cd_types.specs.Types.{single}
use Rattle.cd_value.specs.declared.data.DsType.TheVariants as kinds
use Rattle.cd_value.specs.declared.data.Offered.TheVariants.{Kept}
use Rattle.cd_value.specs.declared.data.Value.TheVariants.{Gauge}
use Rattle.cd_value.specs.declared.data.ValueList.{ValueList}
use Rattle.std.proofs.Common.{List, None, Ok, Some, [], codes, false, pos, refl, ℕ, ◌∷◌, ◌≡◌}

-- a gauge of a host and a plugin at a time, of some millionths
abbrev gauge_of : List ℕ → List ℕ → ℕ → ℕ → ValueList
gauge_of host plugin time level = record {
  id = record { host = host; plugin = plugin; plugin_instance = []; type_name = codes "gauge"; type_instance = [] };
  time = time;
  interval = 10;
  values = Gauge (Some (pos level)) ∷ [];
}

abbrev gauge : List ℕ → List ℕ → ℕ → ValueList
gauge host plugin time = gauge_of host plugin time 250000

-- a daemon that knows gauges alone
abbrev daemon : Rules → Opening
daemon rules = record {
  types = single (codes "gauge") kinds.Gauge None ∷ [];
  globals = default_globals;
  rules = rules;
}

-- the first chain runs before the cache
abbrev before : List Chain → Opening
before chains = daemon (record { chains = chains; pre = Some 0; post = None })

-- the first chain runs behind the cache
abbrev behind : List Chain → Opening
behind chains = daemon (record { chains = chains; pre = None; post = Some 0 })

-- a chain without rules
abbrev plain : List ℕ → List Target → Chain
plain name defaults = record { name = name; rules = []; defaults = defaults }

-- ---- a writer w is registered, and lists come and are handled at the moment 9

abbrev begun : History
begun = [] ▸ entry.Register 0 (codes "w") (Plug (record { 0 = 1 }) [] (record { mark = 0; calls = None })) (Ok 0)

abbrev came : ValueList → History → History
came list P = P ▸ entry.Accept 0 (list ∷ []) (0 ∷ []) 9 (Ok (Kept ∷ []))

abbrev handled : Opening → History → History
handled K P = P ▸ entry.Handle 0 9 (handle_answer K P 9)

-- the list comes and is handled
abbrev given : Opening → ValueList → History → History
given K list P = handled K (came list P)

-- what is answered where a list comes and is handled
abbrev answered : Opening → ValueList → History → How × ℕ
answered K list P = let reply = handle_answer K (came list P) 9 in (reply.how, reply.skipped)

abbrev one : ValueList
one = gauge (codes "h") (codes "p") 5

-- ---- the chain before the cache stops a list: nothing is cached, and nobody is called

abbrev stopping : Opening
stopping = before (plain (codes "PreCache") (targets.Stop ∷ []) ∷ [])

stopped : answered stopping one begun ≡ (how.StoppedBefore, 0)
unfolding through
stopped = refl

not_cached : cache_after stopping (given stopping one begun) ≡ cache_after stopping begun
unfolding through
not_cached = refl

not_written : calls_to stopping 0 (given stopping one begun) ≡ []
unfolding through
not_written = refl

-- ---- a write carries the list as it is at its target

abbrev changing : Opening
changing = behind (plain (codes "PostCache") (targets.Write [] ∷ targets.Set ((fields.Host, codes "x") ∷ []) ∷ targets.Write [] ∷ []) ∷ [])

changed_between : calls_to changing 0 (given changing one begun) ≡ calls.Write one ∷ calls.Write (gauge (codes "x") (codes "p") 5) ∷ []
unfolding through substituted field_at begins_with
changed_between = refl

-- its writer takes them one after the other
first_of_two : next_call changing (given changing one begun) 0 ≡ Some (calls.Write one)
unfolding through substituted field_at begins_with
first_of_two = refl

then_the_other : next_call changing (given changing one begun ▸ entry.Take 0 0 (calls.Write one) ▸ entry.Done 0 0 answers.Done) 0
    ≡ Some (calls.Write (gauge (codes "x") (codes "p") 5))
unfolding through substituted field_at begins_with
then_the_other = refl

-- what it changes behind the cache is not cached
cached_unchanged : query_answer changing (given changing one begun) None ≡ found.Listed ((5, codes "h/p/gauge") ∷ [])
unfolding through substituted field_at begins_with
cached_unchanged = refl

-- ---- a jump goes on where the other chain returned, and not where it stopped

abbrev jumping : Target → Opening
jumping last = behind (
    plain (codes "PostCache") (targets.Jump (codes "other") ∷ targets.Write [] ∷ [])
    ∷ plain (codes "other") (last ∷ [])
    ∷ [])

goes_on : calls_to (jumping targets.Return) 0 (given (jumping targets.Return) one begun) ≡ calls.Write one ∷ []
unfolding through
goes_on = refl

ends : calls_to (jumping targets.Stop) 0 (given (jumping targets.Stop) one begun) ≡ []
unfolding through
ends = refl

-- a stop behind the cache comes too late to keep the list from being cached
stored : answered (jumping targets.Stop) one begun ≡ (how.Stored, 0)
unfolding through
stored = refl

-- ---- the chain before the cache gives two lists one name

abbrev renaming : Opening
renaming = before (record { name = codes "PreCache"; rules = record { matches = []; targets = targets.Set ((fields.Plugin, codes "a") ∷ []) ∷ [] } ∷ []; defaults = [] } ∷ [])

abbrev renamed : History
renamed = given renaming (gauge (codes "h") (codes "q") 6) (given renaming one begun)

one_name : query_answer renaming renamed None ≡ found.Listed ((6, codes "h/a/gauge") ∷ [])
unfolding through substituted field_at begins_with
one_name = refl

written_renamed : calls_to renaming 0 renamed ≡ calls.Write (gauge (codes "h") (codes "a") 5) ∷ calls.Write (gauge (codes "h") (codes "a") 6) ∷ []
unfolding through substituted field_at begins_with
written_renamed = refl

-- .. so that the second is old where it is no newer than the first
old_by_its_new_name : answered renaming (gauge (codes "h") (codes "q") 5) (given renaming one begun) ≡ (how.Old, 0)
unfolding through substituted field_at begins_with
old_by_its_new_name = refl

-- ---- a write to names: each that is no writer's is skipped and counted once

abbrev naming : List Target → Opening
naming more = before (plain (codes "PreCache") (targets.Write (codes "q" ∷ codes "w" ∷ codes "q" ∷ codes "w" ∷ []) ∷ more) ∷ [])

-- the list is then written to all behind the cache
one_skipped : answered (naming []) one begun ≡ (how.Stored, 1)
unfolding through
one_skipped = refl

written_twice : calls_to (naming []) 0 (given (naming []) one begun) ≡ calls.Write one ∷ calls.Write one ∷ []
unfolding through
written_twice = refl

-- it is counted too where the chain then stops the list
skipped_and_stopped : answered (naming (targets.Stop ∷ [])) one begun ≡ (how.StoppedBefore, 1)
unfolding through
skipped_and_stopped = refl

written_and_stopped : calls_to (naming (targets.Stop ∷ [])) 0 (given (naming (targets.Stop ∷ [])) one begun) ≡ calls.Write one ∷ []
unfolding through
written_and_stopped = refl

-- ---- a list that is old isn't cached, but the chain behind the cache runs on it

abbrev older : ValueList
older = gauge (codes "h") (codes "p") 4

abbrev again : History
again = given changing older (given changing one begun)

old_again : answered changing older (given changing one begun) ≡ (how.Old, 0)
unfolding through substituted field_at begins_with
old_again = refl

cached_as_before : cache_after changing again ≡ cache_after changing (given changing one begun)
unfolding through substituted field_at begins_with
cached_as_before = refl

written_again : calls_to changing 0 again
    ≡ calls.Write one ∷ calls.Write (gauge (codes "x") (codes "p") 5) ∷ calls.Write older ∷ calls.Write (gauge (codes "x") (codes "p") 4) ∷ []
unfolding through substituted field_at begins_with
written_again = refl

-- ---- a chain behind the cache that writes what has a rate of 200,000 millionths or more

abbrev high : Opening
high = behind (record {
  name = codes "PostCache";
  rules = record {
    matches = matches.Value (record { min = Some (pos 200000); max = None; invert = false; sources = []; any = false }) ∷ [];
    targets = targets.Write [] ∷ [];
  } ∷ [];
  defaults = [];
} ∷ [])

abbrev low : ℕ → ValueList
low time = gauge_of (codes "h") (codes "p") time 1

-- it sees the rate of the list that was just cached
low_unwritten : calls_to high 0 (given high (low 6) (given high one begun)) ≡ calls.Write one ∷ []
unfolding through
low_unwritten = refl

-- .. and where the list is old, the rate of the one that is cached
old_written : calls_to high 0 (given high (low 4) (given high one begun)) ≡ calls.Write one ∷ calls.Write (low 4) ∷ []
unfolding through
old_written = refl

-- ---- numbers of no chain mean that there is none

abbrev without : Opening
without = daemon (record { chains = plain (codes "PreCache") (targets.Stop ∷ []) ∷ []; pre = Some 1; post = Some 1 })

written_to_all : calls_to without 0 (given without one begun) ≡ calls.Write one ∷ []
unfolding through
written_to_all = refl
