-- The core stands for the history in which the counts of a flush were asked for.
use Rattle.cd_core.proofs.Rows.{eq_sym, rows_quiet}
use Rattle.cd_core.proofs.Standing.{quiet}
use Rattle.cd_daemon.specs.Answers.{flush_close_answer}
use Rattle.cd_daemon.specs.Flushes.{flush_begun_by, flush_errors, flush_successful, flush_unanswered, under_way}
use Rattle.cd_core.specs.Seen.{CoreSeen}
use Rattle.cd_core.specs.Stands.{Makes, Stands, flush_after}
use Rattle.cd_core.specs.declared.flush.Flush.{Flush}
use Rattle.cd_daemon.specs.declared.Opening.{Opening}
use Rattle.cd_history.specs.History.{History}
use Rattle.cd_history.specs.declared.entry.Entry.TheVariants as entry
use Rattle.cd_history.specs.declared.entry.FlushEnd.TheVariants as ends
use Rattle.cd_history.specs.declared.entry.FlushEnd.{FlushEnd}
use Rattle.std.proofs.Common.{Bool, IfSome, List, None, Some, [], ap, cond, eq-eqb, false, map, nat_eq, not, refl, sym, true, ℕ, ◌∙◌, ◌∷◌, ◌≡◌, ◌≢◌, ◌||◌}
use Rattle.std.proofs.lemmas.Bool.{eqb-true, ne_eqb}
use Rattle.std.proofs.lemmas.Option.{none-some, same_Some}
use Rattle.std.specs.List.{filter, find, list_any}

-- ---- which is found

find_under_way : (P : History) (n : ℕ) (fs : List ℕ) → find (λ (flush : Flush). nat_eq flush.number n) (map (flush_after P) fs) ≡ cond (list_any (nat_eq n) fs) (Some (flush_after P n)) None
find_under_way P n [] = refl
find_under_way P n (f ∷ fs) = by (nat_eq f n) refl (find_under_way P n fs)
  where
    by : (b : Bool) → nat_eq f n ≡ b → find (λ (flush : Flush). nat_eq flush.number n) (map (flush_after P) fs) ≡ cond (list_any (nat_eq n) fs) (Some (flush_after P n)) None
        → cond (nat_eq f n) (Some (flush_after P f)) (find (λ (flush : Flush). nat_eq flush.number n) (map (flush_after P) fs)) ≡ cond (nat_eq n f || list_any (nat_eq n) fs) (Some (flush_after P n)) None
    by true is rest = rw (is, eq_sym f n true is) (ap (λ (m : ℕ). Some (flush_after P m)) (eqb-true f n is))
    by false is rest = rw (is, eq_sym f n false is) rest

found_is : (v : CoreSeen) (n : ℕ) (K : Opening) (P : History) → Stands K v P → find (λ (flush : Flush). nat_eq flush.number n) v.flushes ≡ cond (list_any (nat_eq n) (under_way P)) (Some (flush_after P n)) None
found_is v n K P s = ap (find (λ (flush : Flush). nat_eq flush.number n)) s.flushes ∙ find_under_way P n (under_way P)

-- ---- the answers

close_by : Bool → Bool → ℕ → ℕ → ℕ → FlushEnd
close_by there none unanswered successful errors =
    cond (not there) ends.NoSuchFlush (cond none (ends.Counts successful errors) (ends.NotYet unanswered))

none_there : (b : Bool) (flush : Flush) → None ≡ cond b (Some flush) None → b ≡ false
none_there true flush is = absurd (none-some flush is)
none_there false flush is = refl

one_there : (b : Bool) (found flush : Flush) → Some found ≡ cond b (Some flush) None → (b ≡ true) × (found ≡ flush)
one_there true found flush is = (refl, same_Some found flush is)
one_there false found flush is = absurd (none-some found (sym is))

pub no_flush : (v : CoreSeen) (actor n : ℕ) → None ≡ find (λ (flush : Flush). nat_eq flush.number n) v.flushes
    → Makes v v (λ K P. IfSome (flush_begun_by n P) (λ beginner. beginner ≡ actor)) (entry.FlushClose actor n ends.NoSuchFlush)
unfolding close_by
no_flush v actor n none K P s own =
    let nowhere : list_any (nat_eq n) (under_way P) ≡ false = none_there _ (flush_after P n) (none ∙ found_is v n K P s) in
    let answer : ends.NoSuchFlush ≡ flush_close_answer P n =
    ap (λ (b : Bool). close_by b (nat_eq (flush_unanswered n P) 0) (flush_unanswered n P) (flush_successful n P) (flush_errors n P)) (sym nowhere) in
    quiet K v v.rows P (entry.FlushClose actor n ends.NoSuchFlush) refl s (answer, own) refl refl (rows_quiet K P) refl refl refl refl

pub not_yet : (v : CoreSeen) (actor n : ℕ) (flush : Flush) → Some flush ≡ find (λ (flush : Flush). nat_eq flush.number n) v.flushes → flush.unanswered ≢ 0
    → Makes v v (λ K P. IfSome (flush_begun_by n P) (λ beginner. beginner ≡ actor)) (entry.FlushClose actor n (ends.NotYet flush.unanswered))
unfolding close_by
not_yet v actor n flush found some K P s own =
    let there = one_there (list_any (nat_eq n) (under_way P)) flush (flush_after P n) (found ∙ found_is v n K P s) in
    let same : flush.unanswered ≡ flush_unanswered n P = ap (λ (f : Flush). f.unanswered) there.1 in
    let wait : nat_eq (flush_unanswered n P) 0 ≡ false = ne_eqb (flush_unanswered n P) 0 (λ none. some (same ∙ none)) in
    let answer : ends.NotYet flush.unanswered ≡ flush_close_answer P n =
    ap ends.NotYet same
    ∙ ap (λ (b : Bool). close_by true b (flush_unanswered n P) (flush_successful n P) (flush_errors n P)) (sym wait)
    ∙ ap (λ (b : Bool). close_by b (nat_eq (flush_unanswered n P) 0) (flush_unanswered n P) (flush_successful n P) (flush_errors n P)) (sym there.0) in
    quiet K v v.rows P (entry.FlushClose actor n (ends.NotYet flush.unanswered)) refl s (answer, own) refl refl (rows_quiet K P) refl refl refl refl

others_left : (P : History) (n : ℕ) (fs : List ℕ) → filter (λ (flush : Flush). not (nat_eq flush.number n)) (map (flush_after P) fs) ≡ map (flush_after P) (filter (λ f. not (nat_eq f n)) fs)
others_left P n [] = refl
others_left P n (f ∷ fs) = by (not (nat_eq f n)) (others_left P n fs)
  where
    by : (b : Bool) → filter (λ (flush : Flush). not (nat_eq flush.number n)) (map (flush_after P) fs) ≡ map (flush_after P) (filter (λ f. not (nat_eq f n)) fs)
        → cond b (flush_after P f ∷ filter (λ (flush : Flush). not (nat_eq flush.number n)) (map (flush_after P) fs)) (filter (λ (flush : Flush). not (nat_eq flush.number n)) (map (flush_after P) fs))
        ≡ map (flush_after P) (cond b (f ∷ filter (λ f. not (nat_eq f n)) fs) (filter (λ f. not (nat_eq f n)) fs))
    by true rest = ap (λ (xs : List Flush). flush_after P f ∷ xs) rest
    by false rest = rest

pub told_counts : (v : CoreSeen) (left : List Flush) (actor n : ℕ) (flush : Flush) → Some flush ≡ find (λ (flush : Flush). nat_eq flush.number n) v.flushes → flush.unanswered ≡ 0
    → left ≡ filter (λ (flush : Flush). not (nat_eq flush.number n)) v.flushes
    → Makes v (record v { flushes = left }) (λ K P. IfSome (flush_begun_by n P) (λ beginner. beginner ≡ actor)) (entry.FlushClose actor n (ends.Counts flush.successful flush.errors))
unfolding close_by
told_counts v left actor n flush found none others K P s own =
    let there = one_there (list_any (nat_eq n) (under_way P)) flush (flush_after P n) (found ∙ found_is v n K P s) in
    let done : nat_eq (flush_unanswered n P) 0 ≡ true = eq-eqb (flush_unanswered n P) 0 (sym (ap (λ (f : Flush). f.unanswered) there.1) ∙ none) in
    let answer : ends.Counts flush.successful flush.errors ≡ flush_close_answer P n =
    ap (λ (f : Flush). ends.Counts f.successful f.errors) there.1
    ∙ ap (λ (b : Bool). close_by true b (flush_unanswered n P) (flush_successful n P) (flush_errors n P)) (sym done)
    ∙ ap (λ (b : Bool). close_by b (nat_eq (flush_unanswered n P) 0) (flush_unanswered n P) (flush_successful n P) (flush_errors n P)) (sym there.0) in
    record {
      legal = (s.legal, (answer, own));
      opening = s.opening;
      cache = s.cache;
      limits = s.limits;
      queue = s.queue;
      rows = s.rows ∙ sym (rows_quiet K P);
      writers = s.writers;
      flushes = others ∙ ap (filter (λ (flush : Flush). not (nat_eq flush.number n))) s.flushes ∙ others_left P n (under_way P);
      begun = s.begun;
      stopped = s.stopped;
    }
