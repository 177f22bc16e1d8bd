-- The core stands for the history in which a flush was begun.
use Rattle.cd_core.proofs.Answering.{flusher_is, flushers_are}
use Rattle.cd_core.proofs.FlushCounts.{flush_by}
use Rattle.cd_core.proofs.Handled.{all_live, is_live, posted_same}
use Rattle.cd_daemon.proofs.Legality.{next_number}
use Rattle.cd_daemon.proofs.Lists.{all_filter}
use Rattle.cd_daemon.proofs.Posted.{hold-flush}
use Rattle.cd_core.proofs.Rows.{rows_posted, rows_quiet}
use Rattle.cd_core.proofs.Standing.{quiet}
use Rattle.cd_daemon.specs.Answers.{flush_open_answer}
use Rattle.cd_core.specs.Asked.{flusher_in, plugins_in}
use Rattle.cd_daemon.specs.Flushes.{counted, flush_answers, flush_calls, flush_calls_to, flush_missed, flush_posts, flushes_begun, flusher_named, names_meant, pairs_missed, plugins_meant, under_way}
use Rattle.cd_daemon.specs.Legal.{IsLegal}
use Rattle.cd_core.specs.Posting.{posted_live}
use Rattle.cd_core.specs.Seen.{CoreSeen}
use Rattle.cd_core.specs.Stands.{Anyhow, Makes, Stands, flush_after, flushes_after, rows_after}
use Rattle.cd_core.specs.declared.flush.Flush.{Flush}
use Rattle.cd_daemon.specs.Performing.{Post}
use Rattle.cd_daemon.specs.declared.Opening.{Opening}
use Rattle.cd_history.specs.History.{History, ◌▸◌}
use Rattle.cd_history.specs.Registrations.{listeners, live}
use Rattle.cd_history.specs.declared.entry.Entry.TheVariants as entry
use Rattle.cd_history.specs.declared.entry.FlushEnd.TheVariants as ends
use Rattle.cd_history.specs.declared.entry.Stopping.{Stopping}
use Rattle.cd_registry.specs.Rows.{Row, listening}
use Rattle.cd_registry.specs.declared.kinds.TheConstants.Kinds.{FLUSH}
use Rattle.cd_value.specs.declared.data.FlushRequest.{FlushRequest}
use Rattle.std.proofs.Common.{Bool, Err, List, Ok, Option, Result, Some, [], ap, arith, cond, eq-eqb, false, is_some, length, map, nat_eq, nat_lt, not, refl, subst, sym, true, ℕ, ◌*◌, ◌++◌, ◌+◌, ◌-◌, ◌∙◌, ◌∷◌, ◌≡◌}
use Rattle.std.proofs.lemmas.Bool.{and_parts, lt-ltb, ltb-true, ne_eqb}
use Rattle.std.proofs.lemmas.List.{map-append}
use Rattle.std.specs.List.{filter, flat_map, list_all}

-- ---- the numbers of the flushes under way lie below the next

open_by : Bool → ℕ → Result ℕ Stopping
open_by stopped n = cond stopped (Err (record {})) (Ok n)

below_more : (b n : ℕ) (fs : List ℕ) → list_all (λ f. nat_lt f b) fs ≡ true → n ≡ b → list_all (λ f. nat_lt f (b + 1)) (fs ++ n ∷ []) ≡ true
below_more b n [] all is = let here : nat_lt n (b + 1) ≡ true = lt-ltb n (b + 1) (omega arith) in rw here refl
below_more b n (f ∷ fs) all is =
    let two = and_parts (nat_lt f b) (list_all (λ f. nat_lt f b) fs) all in
    let below = ltb-true f b two.0 in
    let here : nat_lt f (b + 1) ≡ true = lt-ltb f (b + 1) (omega arith) in
    rw here (below_more b n fs two.1 is)

all_below : (K : Opening) (P : History) → IsLegal K P → list_all (λ f. nat_lt f (flushes_begun P)) (under_way P) ≡ true
all_below K [] legal = refl
all_below K (P ▸ entry.FlushOpen a request (Ok n)) legal = below_more (flushes_begun P) n (under_way P) (all_below K P legal.0) (next_number P n legal.1)
all_below K (P ▸ entry.FlushClose a n (ends.Counts successful errors)) legal = all_filter (λ f. nat_lt f (flushes_begun P)) (λ f. not (nat_eq f n)) (under_way P) (all_below K P legal.0)
all_below K (P ▸ e) legal = all_below K P legal.0

-- ---- a flush more

module _ (K : Opening) (P : History) (actor : ℕ) (request : FlushRequest) where
  abbrev number : ℕ
  number = flushes_begun P

  abbrev made : List Post
  made = flush_posts number request (live P)

  -- a flush by whether it is the new one
  abbrev by_new : Bool → ℕ → Flush
  by_new new f = flush_by f (cond new (length made) (flush_calls f P)) (cond new (pairs_missed request (live P)) (flush_missed f P)) (cond new [] (flush_answers f P))

  others : (fs : List ℕ) → list_all (λ f. nat_lt f (flushes_begun P)) fs ≡ true → map (flush_after (P ▸ entry.FlushOpen actor request (Ok number))) fs ≡ map (flush_after P) fs
  others [] all = refl
  others (f ∷ fs) all =
      let two = and_parts (nat_lt f (flushes_begun P)) (list_all (λ f. nat_lt f (flushes_begun P)) fs) all in
      let below = ltb-true f (flushes_begun P) two.0 in
      let other : nat_eq number f ≡ false = ne_eqb number f (λ e. omega arith) in
      ap (λ (b : Bool). by_new b f ∷ map (flush_after (P ▸ entry.FlushOpen actor request (Ok number))) fs) other
      ∙ ap (λ (more : List Flush). flush_after P f ∷ more) (others fs two.1)

  abbrev begins : Flush
  begins = record { number = number; unanswered = length made; successful = 0; errors = counted (pairs_missed request (live P)) }

  newest : flush_after (P ▸ entry.FlushOpen actor request (Ok number)) number ≡ begins
  newest =
      ap (λ (b : Bool). by_new b number) (eq-eqb number number refl)
      ∙ ap (λ (n : ℕ). record { number = number; unanswered = n; successful = 0; errors = counted (pairs_missed request (live P) + 0) }) (none_less (length made))
      ∙ ap (λ (n : ℕ). record { number = number; unanswered = length made; successful = 0; errors = counted n }) (none_more (pairs_missed request (live P)))
    where
      none_less : (n : ℕ) → n - 0 ≡ n
      none_less n = omega arith

      none_more : (n : ℕ) → n + 0 ≡ n
      none_more n = omega arith

  pub flushes_begin : IsLegal K P → flushes_after (P ▸ entry.FlushOpen actor request (Ok number)) ≡ flushes_after P ++ begins ∷ []
  flushes_begin legal =
      map-append (flush_after (P ▸ entry.FlushOpen actor request (Ok number))) (under_way P) (number ∷ [])
      ∙ ap (λ (xs : List Flush). xs ++ flush_after (P ▸ entry.FlushOpen actor request (Ok number)) number ∷ []) (others (under_way P) (all_below K P legal))
      ∙ ap (λ (x : Flush). flushes_after P ++ x ∷ []) newest

-- ---- whom it means

meant_is : (K : Opening) (P : History) (request : FlushRequest) → plugins_in (rows_after K P) request ≡ plugins_meant request (live P)
meant_is K P request = by request.plugins
  where
    each : (names : List (List ℕ)) → map (flusher_in (rows_after K P)) names ≡ map (flusher_named (live P)) names
    each [] = refl
    each (name ∷ names) = ap (λ (o : Option ℕ). o ∷ map (flusher_in (rows_after K P)) names) (flusher_is K P name) ∙ ap (λ (os : List (Option ℕ)). flusher_named (live P) name ∷ os) (each names)

    by : (plugins : List (List ℕ))
        → elim plugins as (λ p. List (Option ℕ)) [ [] ↦ map Some (listening FLUSH.0 (rows_after K P)) | name ∷ more ↦ map (flusher_in (rows_after K P)) (name ∷ more) ]
        ≡ elim plugins as (λ p. List (Option ℕ)) [ [] ↦ map Some (listeners FLUSH (live P)) | name ∷ more ↦ map (flusher_named (live P)) (name ∷ more) ]
    by [] = ap (map Some) (flushers_are K P)
    by (name ∷ names) = each (name ∷ names)

pub began : (v : CoreSeen) (rows : List Row) (flushes : List Flush) (actor n next : ℕ) (request : FlushRequest) (plugins : List (Option ℕ)) (posts : List Post) (missed : ℕ)
    → v.stopped ≡ false → n ≡ v.begun → next ≡ n + 1 → plugins ≡ plugins_in v.rows request → posts ≡ flat_map (flush_calls_to n request) plugins
    → missed ≡ counted (length (filter (λ plugin. not (is_some plugin)) plugins) * length (names_meant request))
    → rows ≡ posted_live posts v.rows → flushes ≡ v.flushes ++ record { number = n; unanswered = length posts; successful = 0; errors = missed } ∷ []
    → Makes v (record v { rows = rows; flushes = flushes; begun = next }) Anyhow (entry.FlushOpen actor request (Ok n))
unfolding open_by
began v rows flushes actor n next request plugins posts missed going numbered follows meant makes lacks changed added K P s any =
    let is : n ≡ flushes_begun P = numbered ∙ s.begun in
    let whom : plugins ≡ plugins_meant request (live P) = meant ∙ ap (λ (rows : List Row). plugins_in rows request) s.rows ∙ meant_is K P request in
    let makes_all : posts ≡ flush_posts (flushes_begun P) request (live P) = makes ∙ ap (λ (m : ℕ). flat_map (flush_calls_to m request) plugins) is ∙ ap (flat_map (flush_calls_to (flushes_begun P) request)) whom in
    let misses : missed ≡ counted (pairs_missed request (live P)) = lacks ∙ ap (λ (os : List (Option ℕ)). counted (length (filter (λ plugin. not (is_some plugin)) os) * length (names_meant request))) whom in
    let answer : Ok (flushes_begun P) ≡ flush_open_answer P = ap (λ (b : Bool). open_by b (flushes_begun P)) (sym going ∙ s.stopped) in
    let made : List Post = flush_posts (flushes_begun P) request (live P) in
    let E : ℕ → Type 0 = λ m. Stands K (record v { rows = rows; flushes = flushes; begun = next }) (P ▸ entry.FlushOpen actor request (Ok m)) in
    subst E (sym is) (record {
      legal = (s.legal, answer);
      opening = s.opening;
      cache = s.cache;
      limits = s.limits;
      queue = s.queue;
      rows = changed ∙ ap (λ (ps : List Post). posted_live ps v.rows) makes_all ∙ ap (posted_live made) s.rows
          ∙ posted_same made (rows_after K P) (hold-flush (is_live K P) (flushes_begun P) request (live P) (all_live K P))
          ∙ sym (rows_posted K P made s.legal);
      writers = s.writers;
      flushes = added
          ∙ ap (λ (fs : List Flush). fs ++ record { number = n; unanswered = length posts; successful = 0; errors = missed } ∷ []) s.flushes
          ∙ ap (λ (m : ℕ). flushes_after P ++ record { number = m; unanswered = length posts; successful = 0; errors = missed } ∷ []) is
          ∙ ap (λ (ps : List Post). flushes_after P ++ record { number = flushes_begun P; unanswered = length ps; successful = 0; errors = missed } ∷ []) makes_all
          ∙ ap (λ (m : ℕ). flushes_after P ++ record { number = flushes_begun P; unanswered = length made; successful = 0; errors = m } ∷ []) misses
          ∙ sym (flushes_begin K P actor request s.legal);
      begun = follows ∙ ap (λ (m : ℕ). m + 1) is;
      stopped = s.stopped;
    })

pub not_begun : (v : CoreSeen) (actor : ℕ) (request : FlushRequest) → v.stopped ≡ true → Makes v v Anyhow (entry.FlushOpen actor request (Err (record {})))
unfolding open_by
not_begun v actor request stopped K P s any =
    let answer : Err (record {}) ≡ flush_open_answer P = ap (λ (b : Bool). open_by b (flushes_begun P)) (sym stopped ∙ s.stopped) in
    quiet K v v.rows P (entry.FlushOpen actor request (Err (record {}))) refl s answer refl refl (rows_quiet K P) refl refl refl refl
