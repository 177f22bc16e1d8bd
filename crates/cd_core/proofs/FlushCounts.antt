-- The flushes under way after an entry, by those before it.
use Rattle.cd_daemon.specs.Flushes.{counted, flush_answers, flush_calls, flush_missed, flush_of, is_call_of, is_done, is_number, under_way}
use Rattle.cd_core.specs.Stands.{flush_after, flushes_after}
use Rattle.cd_core.specs.UnderWay.{after_answer, after_answer_to, counted_as}
use Rattle.cd_core.specs.declared.flush.Flush.{Flush}
use Rattle.cd_history.specs.History.{History, ◌▸◌}
use Rattle.cd_history.specs.Leases.{call_out}
use Rattle.cd_history.specs.declared.entry.Entry.TheVariants as entry
use Rattle.cd_registry.specs.declared.calls.Answer.{Answer}
use Rattle.cd_registry.specs.declared.calls.Call.{Call}
use Rattle.std.proofs.Common.{Bool, List, None, Option, Some, [], ap, arith, cond, false, length, length-append, map, not, refl, sym, true, ℕ, ◌++◌, ◌+◌, ◌-◌, ◌∙◌, ◌∷◌, ◌≡◌}
use Rattle.std.specs.List.{filter}
use Rattle.cd_daemon.proofs.Lists.{filter_append}

-- how many there are with one more
one_more : (test : Answer → Bool) (answers : List Answer) (answer : Answer) (b : Bool) → test answer ≡ b
    → length (filter test (answers ++ answer ∷ [])) ≡ cond b (length (filter test answers) + 1) (length (filter test answers))
one_more test answers answer b is =
    ap length (filter_append test answers (answer ∷ [])) ∙ length-append (filter test answers) (filter test (answer ∷ [])) ∙ by b is
  where
    by : (b : Bool) → test answer ≡ b → length (filter test answers) + length (filter test (answer ∷ [])) ≡ cond b (length (filter test answers) + 1) (length (filter test answers))
    by true is = rw is refl
    by false is = rw is (omega arith)

counted_more : (n : ℕ) → counted (n + 1) ≡ counted (counted n + 1)
counted_more n = omega arith

counted_past : (m n : ℕ) → counted (m + (n + 1)) ≡ counted (counted (m + n) + 1)
counted_past m n = omega arith

less_one : (made n : ℕ) → made - (n + 1) ≡ made - n - 1
less_one made n = omega arith

-- the flush, by its answers
abbrev pub flush_by : ℕ → ℕ → ℕ → List Answer → Flush
flush_by f made missed answers = record {
  number = f;
  unanswered = made - length answers;
  successful = counted (length (filter is_done answers));
  errors = counted (missed + length (filter (λ answer. not (is_done answer)) answers));
}

module _ (f made missed : ℕ) (answers : List Answer) (answer : Answer) where
  successful_more : (b : Bool) → is_done answer ≡ b
      → counted (length (filter is_done (answers ++ answer ∷ []))) ≡ cond b (counted (counted (length (filter is_done answers)) + 1)) (counted (length (filter is_done answers)))
  successful_more true is = ap counted (one_more is_done answers answer true is) ∙ counted_more (length (filter is_done answers))
  successful_more false is = ap counted (one_more is_done answers answer false is)

  abbrev fails : Answer → Bool
  fails given = not (is_done given)

  errors_more : (b : Bool) → is_done answer ≡ b
      → counted (missed + length (filter fails (answers ++ answer ∷ []))) ≡ cond b (counted (missed + length (filter fails answers))) (counted (counted (missed + length (filter fails answers)) + 1))
  errors_more true is = ap (λ (n : ℕ). counted (missed + n)) (one_more fails answers answer false (ap not is))
  errors_more false is = ap (λ (n : ℕ). counted (missed + n)) (one_more fails answers answer true (ap not is)) ∙ counted_past missed (length (filter fails answers))

  flush_more : flush_by f made missed (answers ++ answer ∷ []) ≡ after_answer answer (flush_by f made missed answers)
  flush_more =
      ap (λ (n : ℕ). record {
        number = f;
        unanswered = n;
        successful = counted (length (filter is_done (answers ++ answer ∷ [])));
        errors = counted (missed + length (filter fails (answers ++ answer ∷ [])));
      }) (ap (λ (n : ℕ). made - n) (length-append answers (answer ∷ [])) ∙ less_one made (length answers))
      ∙ ap (λ (n : ℕ). record {
        number = f;
        unanswered = made - length answers - 1;
        successful = n;
        errors = counted (missed + length (filter fails (answers ++ answer ∷ [])));
      }) (successful_more (is_done answer) refl)
      ∙ ap (λ (n : ℕ). record {
        number = f;
        unanswered = made - length answers - 1;
        successful = cond (is_done answer) (counted (counted (length (filter is_done answers)) + 1)) (counted (length (filter is_done answers)));
        errors = n;
      }) (errors_more (is_done answer) refl)

module _ (P : History) (actor reg : ℕ) (call : Call) (answer : Answer) (out : call_out reg P ≡ Some call) where
  one_answered : (f : ℕ) → flush_after (P ▸ entry.Done actor reg answer) f ≡ after_answer_to call answer (flush_after P f)
  one_answered f =
      ap (λ (o : Option Call). flush_by f (flush_calls f P) (flush_missed f P) (cond (is_call_of f o) (flush_answers f P ++ answer ∷ []) (flush_answers f P))) out
      ∙ by (is_call_of f (Some call))
    where
      by : (b : Bool) → flush_by f (flush_calls f P) (flush_missed f P) (cond b (flush_answers f P ++ answer ∷ []) (flush_answers f P)) ≡ cond b (after_answer answer (flush_after P f)) (flush_after P f)
      by true = flush_more f (flush_calls f P) (flush_missed f P) (flush_answers f P) answer
      by false = refl

  pub flushes_answered : flushes_after (P ▸ entry.Done actor reg answer) ≡ map (after_answer_to call answer) (flushes_after P)
  flushes_answered = each (under_way P)
    where
      each : (fs : List ℕ) → map (flush_after (P ▸ entry.Done actor reg answer)) fs ≡ map (after_answer_to call answer) (map (flush_after P) fs)
      each [] = refl
      each (f ∷ fs) = ap (λ (x : Flush). x ∷ map (flush_after (P ▸ entry.Done actor reg answer)) fs) (one_answered f) ∙ ap (λ (xs : List Flush). after_answer_to call answer (flush_after P f) ∷ xs) (each fs)

-- a call that is none of a flush leaves all as they are
pub unaffected : (call : Call) (answer : Answer) (flushes : List Flush) → flush_of call ≡ None → flushes ≡ map (after_answer_to call answer) flushes
unaffected call answer [] none = refl
unaffected call answer (flush ∷ flushes) none =
    let other : is_call_of flush.number (Some call) ≡ false = ap (is_number flush.number) none in
    rw other (ap (λ (xs : List Flush). flush ∷ xs) (unaffected call answer flushes none))

-- one of a flush counts at the flush of its number
pub affected : (call : Call) (answer : Answer) (number : ℕ) (flushes now : List Flush) → flush_of call ≡ Some number → now ≡ map (counted_as number answer) flushes → now ≡ map (after_answer_to call answer) flushes
affected call answer number flushes now is counted = counted ∙ each flushes
  where
    each : (flushes : List Flush) → map (counted_as number answer) flushes ≡ map (after_answer_to call answer) flushes
    each [] = refl
    each (flush ∷ flushes) =
        ap (λ (x : Flush). x ∷ map (counted_as number answer) flushes) (ap (λ (b : Bool). cond b (after_answer answer flush) flush) (sym (ap (is_number flush.number) is)))
        ∙ ap (λ (xs : List Flush). after_answer_to call answer flush ∷ xs) (each flushes)
