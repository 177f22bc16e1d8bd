-- A flush is under way until its counts are told, and an idle daemon tells them.
use Rattle.cd_daemon.proofs.Owed.{none_owed}
use Rattle.cd_daemon.specs.Answers.{flush_close_answer, ready}
use Rattle.cd_daemon.specs.Flushes.{flush_errors, flush_successful, flush_unanswered, tells_counts, under_way}
use Rattle.cd_daemon.specs.Legal.{IsLegal}
use Rattle.cd_daemon.specs.declared.Opening.{Opening}
use Rattle.cd_history.specs.History.{Event, History, ◌▸◌}
use Rattle.cd_history.specs.Leases.{taken_by}
use Rattle.cd_history.specs.Order.{IsFrontOf}
use Rattle.cd_history.specs.declared.entry.Entry.TheVariants as entry
use Rattle.cd_history.specs.declared.entry.FlushEnd.TheVariants as ends
use Rattle.cd_history.specs.declared.entry.FlushEnd.{FlushEnd}
use Rattle.std.proofs.Common.{Bool, List, None, Ok, [], ap, cond, eq-eqb, false, filter, nat_eq, not, refl, subst, sym, true, ℕ, ◌++◌, ◌∙◌, ◌∷◌, ◌≡◌, ◌||◌}
use Rattle.std.proofs.lemmas.Bool.{and_parts, eqb-false, eqb-true, ne_eqb, not-true, or_right}
use Rattle.std.specs.List.{list_all, list_any}

-- ---- it stays

any_last : (f : ℕ) (fs : List ℕ) → list_any (nat_eq f) (fs ++ f ∷ []) ≡ true
any_last f [] = rw (eq-eqb f f refl) refl
any_last f (g ∷ fs) = or_right (nat_eq f g) (list_any (nat_eq f) (fs ++ f ∷ [])) (any_last f fs)

any_before : (f n : ℕ) (fs : List ℕ) → list_any (nat_eq f) fs ≡ true → list_any (nat_eq f) (fs ++ n ∷ []) ≡ true
any_before f n [] there = absurd (cc)
any_before f n (g ∷ fs) there = by (nat_eq f g) there (any_before f n fs)
  where
    by : (b : Bool) → (b || list_any (nat_eq f) fs) ≡ true → (list_any (nat_eq f) fs ≡ true → list_any (nat_eq f) (fs ++ n ∷ []) ≡ true) → (b || list_any (nat_eq f) (fs ++ n ∷ [])) ≡ true
    by true there rest = refl
    by false there rest = rest there

-- another is told
any_left : (f n : ℕ) (fs : List ℕ) → nat_eq n f ≡ false → list_any (nat_eq f) fs ≡ true → list_any (nat_eq f) (filter (λ g. not (nat_eq g n)) fs) ≡ true
any_left f n [] other there = absurd (cc)
any_left f n (g ∷ fs) other there = by (nat_eq f g) refl there (any_left f n fs other)
  where
    still : (c : Bool) → list_any (nat_eq f) (filter (λ g. not (nat_eq g n)) fs) ≡ true → list_any (nat_eq f) (cond c (g ∷ filter (λ g. not (nat_eq g n)) fs) (filter (λ g. not (nat_eq g n)) fs)) ≡ true
    still true rest = or_right (nat_eq f g) (list_any (nat_eq f) (filter (λ g. not (nat_eq g n)) fs)) rest
    still false rest = rest

    by : (b : Bool) → nat_eq f g ≡ b → (b || list_any (nat_eq f) fs) ≡ true → (list_any (nat_eq f) fs ≡ true → list_any (nat_eq f) (filter (λ g. not (nat_eq g n)) fs) ≡ true)
        → list_any (nat_eq f) (filter (λ g. not (nat_eq g n)) (g ∷ fs)) ≡ true
    by true is there rest =
        let kept : nat_eq g n ≡ false = ne_eqb g n (λ e. eqb-false n f other (sym (eqb-true f g is ∙ e))) in
        rw kept (rw is refl)
    by false is there rest = still (not (nat_eq g n)) (rest there)

stays_one : (f : ℕ) (P : History) (e : Event) → tells_counts f e ≡ false → list_any (nat_eq f) (under_way P) ≡ true → list_any (nat_eq f) (under_way (P ▸ e)) ≡ true
stays_one f P (entry.FlushOpen a request (Ok n)) other there = any_before f n (under_way P) there
stays_one f P (entry.FlushClose a n (ends.Counts successful errors)) other there = any_left f n (under_way P) other there
stays_one f P e other there = there

pub stays_under_way : (P H : History) (f : ℕ) (front : IsFrontOf P H) → list_all (λ e. not (tells_counts f e)) front.later ≡ true
    → list_any (nat_eq f) (under_way P) ≡ true → list_any (nat_eq f) (under_way H) ≡ true
stays_under_way P H f front none there = let U : History → Type 0 = λ H. list_any (nat_eq f) (under_way H) ≡ true in subst U (sym front.is) (along front.later none)
  where
    along : (later : History) → list_all (λ e. not (tells_counts f e)) later ≡ true → list_any (nat_eq f) (under_way (later ++ P)) ≡ true
    along [] all = there
    along (e ∷ later) all =
        let two = and_parts (not (tells_counts f e)) (list_all (λ e. not (tells_counts f e)) later) all in
        stays_one f (later ++ P) e (not-true (tells_counts f e) two.0) (along later two.1)

pub begun_is_under_way : (P : History) (f : ℕ) → list_any (nat_eq f) (under_way P ++ f ∷ []) ≡ true
begun_is_under_way P f = any_last f (under_way P)

-- ---- the counts of one under way

pub counts_told : (K : Opening) (P : History) (f : ℕ) → IsLegal K P → ready K P ≡ None → ((r : ℕ) → taken_by r P ≡ None) → list_any (nat_eq f) (under_way P) ≡ true
    → flush_close_answer P f ≡ ends.Counts (flush_successful f P) (flush_errors f P)
counts_told K P f l idle home there =
    let C : Bool → Bool → FlushEnd = λ known none. cond (not known) ends.NoSuchFlush (cond none (ends.Counts (flush_successful f P) (flush_errors f P)) (ends.NotYet (flush_unanswered f P))) in
    ap (λ (b : Bool). C b (nat_eq (flush_unanswered f P) 0)) there
    ∙ ap (C true) (eq-eqb (flush_unanswered f P) 0 (none_owed f K P l idle home))
