-- A flush is begun by a line and ends after the work.
use Rattle.cd_daemon.specs.Answers.{flush_open_answer}
use Rattle.cd_daemon.specs.Flushes.{flush_begun_by, flushes_begun}
use Rattle.cd_daemon.specs.declared.Opening.{Opening}
use Rattle.cd_history.specs.History.{History, is_stopped, ◌▸◌}
use Rattle.cd_history.specs.declared.entry.Entry.TheVariants as entry
use Rattle.cd_history.specs.declared.entry.Stopping.{Stopping}
use Rattle.cd_history.specs.declared.given.Given.{Given}
use Rattle.cd_transcript.specs.LineRuns.{Works, called, handled, nothing}
use Rattle.cd_value.specs.declared.data.FlushRequest.{FlushRequest}
use Rattle.std.proofs.Common.{IfSome, List, Ok, Option, Result, Some, ap, arith, false, nat_eq, refl, subst, sym, true, ℕ, ◌∙◌, ◌≡◌}

-- a flush is begun unless the daemon stopped
pub begun_ok : (P : History) → is_stopped P ≡ false → flush_open_answer P ≡ Ok (flushes_begun P)
begun_ok P is = rw is refl

same_number : (n : ℕ) → nat_eq n n ≡ true
same_number n = grind arith

-- work begins no flush
works_begun : {K : Opening} {Moment : ℕ → List Given → Type 0} {P Q : History} {given : List Given} (f : ℕ) → Works K Moment P given Q → flush_begun_by f Q ≡ flush_begun_by f P
works_begun f nothing = refl
works_begun f (called w is next) = works_begun f w
works_begun f (handled w is within at) = works_begun f w

just_begun : (P : History) (request : FlushRequest) (n : ℕ) → flush_begun_by n (P ▸ entry.FlushOpen 0 request (Ok n)) ≡ Some 0
just_begun P request n = rw (same_number n) refl

by_first : (o : Option ℕ) → o ≡ Some 0 → IfSome o (λ beginner. beginner ≡ 0)
by_first o is = let B : Option ℕ → Type 0 = λ b. IfSome b (λ beginner. beginner ≡ 0) in subst B (sym is) refl

-- who began it may end it after the work
pub may_end : {K : Opening} {Moment : ℕ → List Given → Type 0} {P Q : History} {given : List Given} (request : FlushRequest) (n : ℕ) (answer : Result ℕ Stopping) → answer ≡ Ok n
    → Works K Moment (P ▸ entry.FlushOpen 0 request answer) given Q → IfSome (flush_begun_by n Q) (λ beginner. beginner ≡ 0)
may_end {P = P} {Q = Q} request n answer is w =
    by_first (flush_begun_by n Q)
    (works_begun n w ∙ ap (λ (a : Result ℕ Stopping). flush_begun_by n (P ▸ entry.FlushOpen 0 request a)) is ∙ just_begun P request n)
