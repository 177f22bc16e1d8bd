-- The core stands for the history in which lists were offered to the write queue.
use Rattle.cd_daemon.proofs.Legality.{handled_of_kept}
use Rattle.cd_core.proofs.Rows.{rows_quiet}
use Rattle.cd_core.proofs.Standing.{quiet}
use Rattle.cd_daemon.specs.Answers.{accept_answer, limits_of, queued}
use Rattle.cd_core.specs.Seen.{CoreSeen}
use Rattle.cd_core.specs.Stands.{Anyhow, Makes}
use Rattle.cd_daemon.specs.declared.Opening.{Opening}
use Rattle.cd_history.specs.History.{handles, kept, kept_of}
use Rattle.cd_history.specs.declared.entry.Entry.TheVariants as entry
use Rattle.cd_history.specs.declared.entry.Stopping.{Stopping}
use Rattle.cd_queue.specs.Drops.{Limits, after_offers, fates_of}
use Rattle.cd_types.specs.Types.{fits}
use Rattle.cd_value.specs.declared.data.Offered.TheVariants.{Dropped, Kept}
use Rattle.cd_value.specs.declared.data.Offered.{Offered}
use Rattle.cd_value.specs.declared.data.DataSet.{DataSet}
use Rattle.cd_value.specs.declared.data.ValueList.{ValueList}
use Rattle.std.proofs.Common.{Bool, Err, IsTrue, List, Ok, Result, [], ap, append-nil, append_assoc, cond, false, length, refl, subst, sym, true, ℕ, ◌++◌, ◌∙◌, ◌∷◌, ◌≡◌}
use Rattle.std.proofs.lemmas.List.{drop-append-le}
use Rattle.std.specs.List.{list_all}

-- the lists that were kept wait behind the others
offers_are : (waiting lists : List ValueList) (fates : List Offered) → after_offers waiting lists fates ≡ waiting ++ kept_of lists fates
offers_are waiting [] fates = sym (append-nil waiting)
offers_are waiting (list ∷ lists) [] = sym (append-nil waiting)
offers_are waiting (list ∷ lists) (Kept ∷ fates) = offers_are (waiting ++ list ∷ []) lists fates ∙ append_assoc waiting (list ∷ []) (kept_of lists fates)
offers_are waiting (list ∷ lists) (Dropped ∷ fates) = offers_are waiting lists fates

answer_by : Bool → List Offered → Result (List Offered) Stopping
answer_by stopped fates = cond stopped (Err (record {})) (Ok fates)

pub accepted : (v : CoreSeen) (queue : List ValueList) (limits : Limits) (actor : ℕ) (lists : List ValueList) (words : List ℕ) (now : ℕ) (fates : List Offered)
    → v.stopped ≡ false → fates ≡ fates_of v.limits (length v.queue) words → queue ≡ after_offers v.queue lists fates → limits ≡ v.limits
    → IsTrue (list_all (fits v.opening.types) lists) → length words ≡ length lists
    → Makes v (record v { limits = limits; queue = queue }) Anyhow (entry.Accept actor lists words now (Ok fates))
unfolding answer_by
accepted v queue limits actor lists words now fates going told offered same fit long K P s any =
    let F : List DataSet → Type 0 = λ types. IsTrue (list_all (fits types) lists) in
    let answer : Ok fates ≡ accept_answer K P words =
    ap Ok (told ∙ ap (λ (l : Limits). fates_of l (length v.queue) words) s.limits ∙ ap (λ (waiting : List ValueList). fates_of (limits_of K.globals) (length waiting) words) s.queue)
    ∙ ap (λ (stopped : Bool). answer_by stopped (fates_of (limits_of K.globals) (length (queued P)) words)) (sym going ∙ s.stopped) in
    record {
      legal = (s.legal, (answer, subst F (ap (λ (o : Opening). o.types) s.opening) fit, long));
      opening = s.opening;
      cache = s.cache;
      limits = same ∙ s.limits;
      queue = offered ∙ offers_are v.queue lists fates ∙ ap (λ (waiting : List ValueList). waiting ++ kept_of lists fates) s.queue
          ∙ sym (drop-append-le (handles P) (kept P) (kept_of lists fates) (handled_of_kept K P s.legal));
      rows = s.rows ∙ sym (rows_quiet K P);
      writers = s.writers;
      flushes = s.flushes;
      begun = s.begun;
      stopped = s.stopped;
    }

pub not_accepted : (v : CoreSeen) (actor : ℕ) (lists : List ValueList) (words : List ℕ) (now : ℕ) → v.stopped ≡ true
    → IsTrue (list_all (fits v.opening.types) lists) → length words ≡ length lists
    → Makes v v Anyhow (entry.Accept actor lists words now (Err (record {})))
unfolding answer_by
not_accepted v actor lists words now stopped fit long K P s any =
    let F : List DataSet → Type 0 = λ types. IsTrue (list_all (fits types) lists) in
    let answer : Err (record {}) ≡ accept_answer K P words =
    ap (λ (stopped : Bool). answer_by stopped (fates_of (limits_of K.globals) (length (queued P)) words)) (sym stopped ∙ s.stopped) in
    quiet K v v.rows P (entry.Accept actor lists words now (Err (record {}))) refl s (answer, subst F (ap (λ (o : Opening). o.types) s.opening) fit, long) refl refl (rows_quiet K P) refl refl refl refl
