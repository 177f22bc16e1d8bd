-- The core stands for the history in which a list was handled.
use Rattle.cd_cache.specs.Cache.{CacheMap}
use Rattle.cd_core.proofs.Answering.{writer_found}
use Rattle.cd_daemon.proofs.Legality.{number_of, numbered}
use Rattle.cd_daemon.proofs.Lists.{first_left, number_at}
use Rattle.cd_daemon.proofs.Posted.{hold-next}
use Rattle.cd_core.proofs.Rows.{posted, rows_posted}
use Rattle.cd_daemon.specs.Answers.{handle_answer}
use Rattle.cd_core.specs.Posting.{Finds, after_post_live, is_writer, posted_live}
use Rattle.cd_core.specs.Prepared.{prepared_cache, prepared_handling, prepared_how, prepared_posts, prepared_skipped}
use Rattle.cd_core.specs.Seen.{CoreSeen}
use Rattle.cd_core.specs.Stands.{Anyhow, Makes, Stands, row_after, rows_after}
use Rattle.cd_core.specs.declared.prepared.Prepared.{Prepared}
use Rattle.cd_daemon.specs.Calls.{cache_after}
use Rattle.cd_daemon.specs.Handling.{Handling, after_run, handling_as, handling_if_any, next_handling, next_list, run_before, scene_of}
use Rattle.cd_daemon.specs.Performing.{Post}
use Rattle.cd_daemon.specs.declared.Opening.{Opening}
use Rattle.cd_daemon.specs.declared.Rules.{Rules}
use Rattle.cd_history.specs.History.{History, handles, kept, ◌▸◌}
use Rattle.cd_history.specs.Registrations.{Registration, is_closed, live, registrations}
use Rattle.cd_history.specs.declared.entry.Entry.TheVariants as entry
use Rattle.cd_history.specs.declared.entry.How.TheVariants as hows
use Rattle.cd_history.specs.declared.entry.How.{How}
use Rattle.cd_queue.specs.Drops.{Limits}
use Rattle.cd_registry.specs.Rows.{Row, after_post, with_row}
use Rattle.cd_registry.specs.declared.calls.Call.{Call}
use Rattle.cd_types.specs.Types.{set_named}
use Rattle.cd_value.specs.declared.data.DataSet.{DataSet}
use Rattle.cd_value.specs.declared.data.ValueList.{ValueList}
use Rattle.std.proofs.Common.{Bool, List, None, Option, Some, [], ap, cond, drop, false, not, refl, slice_get, suc, sym, true, zero, ℕ, ◌+◌, ◌∙◌, ◌∷◌, ◌≡◌}
use Rattle.std.proofs.lemmas.Bool.{and_parts}
use Rattle.std.proofs.lemmas.List.{drop-drop}
use Rattle.std.proofs.lemmas.Option.{none-some, slice_get-map, slice_get_within}
use Rattle.std.specs.List.{filter, find, list_all}
use Rattle.std.specs.Option.{option_map}

-- ---- calls to live registrations are posted as they are

pub is_live_at : List Row → ℕ → Bool
is_live_at [] n = false
is_live_at (row ∷ rows) zero = row.live
is_live_at (row ∷ rows) (suc n) = is_live_at rows n

post_same : (rows : List Row) (n : ℕ) (call : Call) → is_live_at rows n ≡ true → with_row n (after_post_live call) rows ≡ with_row n (after_post call) rows
unfolding is_live_at
post_same [] n call live = refl
post_same (row ∷ rows) zero call live = ap (λ (b : Bool). cond b (after_post call row) row ∷ rows) live
post_same (row ∷ rows) (suc n) call live = ap (λ (more : List Row). row ∷ more) (post_same rows n call live)

live_kept : (rows : List Row) (n m : ℕ) (call : Call) → is_live_at (with_row n (after_post call) rows) m ≡ is_live_at rows m
unfolding is_live_at
live_kept [] n m call = refl
live_kept (row ∷ rows) zero zero call = refl
live_kept (row ∷ rows) zero (suc m) call = refl
live_kept (row ∷ rows) (suc n) zero call = refl
live_kept (row ∷ rows) (suc n) (suc m) call = live_kept rows n m call

all_live_kept : (rows : List Row) (n : ℕ) (call : Call) (posts : List Post) → list_all (λ (p : Post). is_live_at rows p.reg) posts ≡ true
    → list_all (λ (p : Post). is_live_at (with_row n (after_post call) rows) p.reg) posts ≡ true
all_live_kept rows n call [] all = refl
all_live_kept rows n call (p ∷ posts) all =
    let two = and_parts (is_live_at rows p.reg) (list_all (λ (p : Post). is_live_at rows p.reg) posts) all in
    rw (live_kept rows n p.reg call, two.0) (all_live_kept rows n call posts two.1)

pub posted_same : (posts : List Post) (rows : List Row) → list_all (λ (p : Post). is_live_at rows p.reg) posts ≡ true → posted_live posts rows ≡ posted posts rows
posted_same [] rows all = refl
posted_same (p ∷ posts) rows all =
    let two = and_parts (is_live_at rows p.reg) (list_all (λ (p : Post). is_live_at rows p.reg) posts) all in
    ap (posted_live posts) (post_same rows p.reg p.call two.0)
    ∙ posted_same posts (with_row p.reg (after_post p.call) rows) (all_live_kept rows p.reg p.call posts two.1)

-- ---- who is live after a history is so in the rows

row_there : (rows : List Row) (n : ℕ) (row : Row) → slice_get rows n ≡ Some row → is_live_at rows n ≡ row.live
unfolding is_live_at
row_there [] n row at = absurd (none-some row at)
row_there (first ∷ rows) zero row at = cc
row_there (first ∷ rows) (suc n) row at = row_there rows n row at

module _ (K : Opening) (P : History) where
  abbrev pub is_live : ℕ → Bool
  is_live n = is_live_at (rows_after K P) n

  some_live : (gs : List Registration) → ((i : ℕ) (g : Registration) → slice_get gs i ≡ Some g → is_live g.number ≡ not (is_closed g.number P))
      → list_all (λ (g : Registration). is_live g.number) (filter (λ (g : Registration). not (is_closed g.number P)) gs) ≡ true
  some_live [] each = refl
  some_live (g ∷ gs) each = by (not (is_closed g.number P)) refl (each zero g refl) (some_live gs (λ i h at. each (suc i) h at))
    where
      by : (b : Bool) → not (is_closed g.number P) ≡ b → is_live g.number ≡ not (is_closed g.number P)
          → list_all (λ (g : Registration). is_live g.number) (filter (λ (g : Registration). not (is_closed g.number P)) gs) ≡ true
          → list_all (λ (g : Registration). is_live g.number) (cond b (g ∷ filter (λ (g : Registration). not (is_closed g.number P)) gs) (filter (λ (g : Registration). not (is_closed g.number P)) gs)) ≡ true
      by true is same rest = let here : is_live g.number ≡ true = same ∙ is in rw here rest
      by false is same rest = rest

  pub all_live : list_all (λ (g : Registration). is_live g.number) (live P) ≡ true
  all_live = some_live (registrations P) (λ i g at.
      let number : g.number ≡ i = number_at number_of (registrations P) i g (numbered P) at in
      row_there (rows_after K P) g.number (row_after K P g)
      (ap (slice_get (rows_after K P)) number ∙ slice_get-map (row_after K P) (registrations P) i ∙ ap (option_map (row_after K P)) at))

  pub next_posted : (now : ℕ) → posted_live (next_handling K (cache_after K P) P now).posts (rows_after K P) ≡ posted (next_handling K (cache_after K P) P now).posts (rows_after K P)
  next_posted now = posted_same (next_handling K (cache_after K P) P now).posts (rows_after K P) (hold-next is_live K P now all_live)

-- ---- the first list is handled

-- the list is the next of the history
next_is : (v : CoreSeen) (list : ValueList) → slice_get v.queue 0 ≡ Some list → (K : Opening) (P : History) → Stands K v P → next_list P ≡ Some list
next_is v list first K P s = sym (first_left (handles P) (kept P)) ∙ ap (λ (waiting : List ValueList). slice_get waiting 0) (sym s.queue) ∙ first

rest_is : (v : CoreSeen) (K : Opening) (P : History) → Stands K v P → drop 1 v.queue ≡ drop (handles P + 1) (kept P)
rest_is v K P s = ap (drop 1) s.queue ∙ drop-drop 1 (handles P) (kept P)

finds : (v : CoreSeen) (K : Opening) (P : History) → Stands K v P → Finds (live P) v.writers v.rows
finds v K P s = record {
  all = s.writers;
  named = λ name.
      ap (λ (rows : List Row). find (is_writer rows name) v.writers) s.rows
      ∙ ap (find (is_writer (rows_after K P) name)) s.writers
      ∙ writer_found K P name;
}

-- the core once what handling does is done
abbrev core_after : CoreSeen → Rules → Limits → List ValueList → List Row → CacheMap → CoreSeen
core_after v rules limits queue rows cache = record v {
  opening = record v.opening { rules = rules };
  cache = cache;
  limits = limits;
  queue = queue;
  rows = rows;
}

done_so : (v : CoreSeen) (rules : Rules) (limits : Limits) (queue : List ValueList) (rows : List Row) (cache : CacheMap) (list : ValueList) (actor now : ℕ) (how : How) (skipped : ℕ) (done : Handling)
    → slice_get v.queue 0 ≡ Some list → rules ≡ v.opening.rules → limits ≡ v.limits → queue ≡ drop 1 v.queue → rows ≡ posted_live done.posts v.rows → cache ≡ done.cache → how ≡ done.how → skipped ≡ done.skipped
    → (K : Opening) (P : History) → Stands K v P → done ≡ next_handling K (cache_after K P) P now
    → Stands K (core_after v rules limits queue rows cache) (P ▸ entry.Handle actor now (record { how = how; skipped = skipped }))
done_so v rules limits queue rows cache list actor now how skipped done first ruled limited left posts cached told counted K P s is =
    let next = next_is v list first K P s in
    let H : Handling = next_handling K (cache_after K P) P now in
    let answer : record { how = how; skipped = skipped } ≡ handle_answer K P now =
    ap (λ (h : How). record { how = h; skipped = skipped }) (told ∙ ap (λ (x : Handling). x.how) is)
    ∙ ap (λ (n : ℕ). record { how = H.how; skipped = n }) (counted ∙ ap (λ (x : Handling). x.skipped) is) in
    record {
      legal = (s.legal, (answer, slice_get_within (kept P) (handles P) list next));
      opening = ap (λ (r : Rules). record v.opening { rules = r }) ruled ∙ s.opening;
      cache = cached ∙ ap (λ (x : Handling). x.cache) is;
      limits = limited ∙ s.limits;
      queue = left ∙ rest_is v K P s;
      rows = posts ∙ ap (λ (x : Handling). posted_live x.posts v.rows) is ∙ ap (posted_live H.posts) s.rows ∙ next_posted K P now ∙ sym (rows_posted K P H.posts s.legal);
      writers = s.writers;
      flushes = s.flushes;
      begun = s.begun;
      stopped = s.stopped;
    }

pub handled : (v : CoreSeen) (rules : Rules) (limits : Limits) (queue : List ValueList) (rows : List Row) (cache : CacheMap) (list : ValueList) (set : DataSet) (prepared : Prepared) (actor now : ℕ) (how : How) (skipped : ℕ)
    → slice_get v.queue 0 ≡ Some list → Some set ≡ set_named list.id.type_name v.opening.types
    → ((regs : List Registration) → Finds regs v.writers v.rows
    → prepared_handling set now v.cache list prepared ≡ after_run v.opening.rules regs set now v.cache (run_before v.opening.rules (scene_of set v.cache now) list))
    → rules ≡ v.opening.rules → limits ≡ v.limits → queue ≡ drop 1 v.queue → rows ≡ posted_live (prepared_posts list prepared) v.rows
    → cache ≡ prepared_cache set now v.cache list prepared → how ≡ prepared_how v.cache list prepared → skipped ≡ prepared_skipped prepared
    → Makes v (core_after v rules limits queue rows cache) Anyhow (entry.Handle actor now (record { how = how; skipped = skipped }))
handled v rules limits queue rows cache list set prepared actor now how skipped first typed comes ruled limited left posts cached told counted K P s any =
    let A : Opening → CacheMap → Option DataSet → Handling = λ o c d. handling_as d o.rules c (live P) list now in
    done_so v rules limits queue rows cache list actor now how skipped (prepared_handling set now v.cache list prepared) first ruled limited left posts cached told counted K P s
    (comes (live P) (finds v K P s)
    ∙ ap (A v.opening v.cache) (typed ∙ ap (λ (o : Opening). set_named list.id.type_name o.types) s.opening)
    ∙ ap (λ (o : Opening). A o v.cache (set_named list.id.type_name K.types)) s.opening
    ∙ ap (λ (c : CacheMap). A K c (set_named list.id.type_name K.types)) s.cache
    ∙ ap (λ (o : Option ValueList). handling_if_any K (cache_after K P) (live P) o now) (sym (next_is v list first K P s)))

-- the type of the list isn't known: it is let go
pub let_go : (v : CoreSeen) (limits : Limits) (queue : List ValueList) (list : ValueList) (actor now : ℕ) → slice_get v.queue 0 ≡ Some list → None ≡ set_named list.id.type_name v.opening.types
    → limits ≡ v.limits → queue ≡ drop 1 v.queue → Makes v (record v { limits = limits; queue = queue }) Anyhow (entry.Handle actor now (record { how = hows.StoppedBefore; skipped = 0 }))
let_go v limits queue list actor now first typed limited left K P s any =
    done_so v v.opening.rules limits queue v.rows v.cache list actor now hows.StoppedBefore 0 (record { how = hows.StoppedBefore; skipped = 0; cache = v.cache; posts = [] }) first refl limited left refl refl refl refl K P s
    (ap (λ (c : CacheMap). record { how = hows.StoppedBefore; skipped = 0; cache = c; posts = [] }) s.cache
    ∙ ap (λ (d : Option DataSet). handling_as d K.rules (cache_after K P) (live P) list now) (typed ∙ ap (λ (o : Opening). set_named list.id.type_name o.types) s.opening)
    ∙ ap (λ (o : Option ValueList). handling_if_any K (cache_after K P) (live P) o now) (sym (next_is v list first K P s)))

pub none_queued : {A : Type 0} (xs : List A) → slice_get xs 0 ≡ None → xs ≡ []
none_queued [] none = refl
none_queued (x ∷ xs) none = absurd (cc)
