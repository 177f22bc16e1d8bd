-- A daemon that stopped and has no list left stays so, and makes no call any more.
use Rattle.cd_daemon.specs.Answers.{accept_answer, flush_open_answer, register_answer}
use Rattle.cd_daemon.specs.Calls.{calls_to}
use Rattle.cd_daemon.specs.Legal.{Allowed, IsLegal}
use Rattle.cd_daemon.specs.Settled.{IsSettled}
use Rattle.cd_daemon.specs.declared.Opening.{Opening}
use Rattle.cd_history.specs.History.{Event, History, handles, is_stopped, kept, ◌▸◌}
use Rattle.cd_history.specs.Order.{IsFrontOf}
use Rattle.cd_history.specs.declared.entry.Entry.TheVariants as entry
use Rattle.cd_history.specs.declared.entry.RegisterFault.TheVariants.{Stopping}
use Rattle.std.proofs.Common.{Err, List, Ok, Result, [], ap, arith, length, refl, subst, sym, true, ℕ, ◌++◌, ◌<◌, ◌∙◌, ◌∷◌, ◌≡◌}
use Rattle.std.proofs.lemmas.List.{append-nil}

-- after a stop no list is accepted
none_accepted : (K : Opening) (P : History) (words : List ℕ) → is_stopped P ≡ true → accept_answer K P words ≡ Err (record {})
none_accepted K P words is = rw is refl

-- .. no flush is begun
none_flushed : (P : History) → is_stopped P ≡ true → flush_open_answer P ≡ Err (record {})
none_flushed P is = rw is refl

-- .. and nobody is registered
none_registered : (P : History) (name : List ℕ) → is_stopped P ≡ true → register_answer P name ≡ Err Stopping
none_registered P name is = rw is refl

never : {A B : Type 0} (told : A) (why : B) (reply : Result A B) → reply ≡ Ok told → reply ≡ Err why → ⊥
never told why reply is not = let both : Ok told ≡ Err why = sym is ∙ not in cc

-- an entry that may follow
one_more : (K : Opening) (P : History) (e : Event) → Allowed K P e → IsSettled P → IsSettled (P ▸ e)
one_more K P (entry.Register a name joining reply) may s = record { stopped = s.stopped; handled = s.handled }
one_more K P (entry.Close a name reply) may s = record { stopped = s.stopped; handled = s.handled }
one_more K P (entry.Retire a r reply) may s = record { stopped = s.stopped; handled = s.handled }
one_more K P (entry.Accept a lists words now (Ok fates)) may s =
    absurd (never fates (record {}) (Ok fates) refl (may.0 ∙ none_accepted K P words s.stopped))
one_more K P (entry.Accept a lists words now (Err stopping)) may s = record { stopped = s.stopped; handled = s.handled }
one_more K P (entry.Handle a now reply) may s =
    let left : handles P < length (kept P) = may.1 in let all = s.handled in absurd (omega (arith, left, all))
one_more K P (entry.Notify a note reply) may s = absurd may
one_more K P (entry.Tick a now reply) may s = absurd may
one_more K P (entry.Query a name reply) may s = record { stopped = s.stopped; handled = s.handled }
one_more K P (entry.FlushOpen a request reply) may s = record { stopped = s.stopped; handled = s.handled }
one_more K P (entry.FlushClose a number reply) may s = record { stopped = s.stopped; handled = s.handled }
one_more K P (entry.Take a r call) may s = record { stopped = s.stopped; handled = s.handled }
one_more K P (entry.Done a r answer) may s = record { stopped = s.stopped; handled = s.handled }
one_more K P (entry.ReadDue a now reply) may s = absurd may
one_more K P (entry.ReadBack a r now reading ok) may s = absurd may
one_more K P (entry.Stop a why) may s = record { stopped = refl; handled = s.handled }
one_more K P (entry.Look a idle) may s = record { stopped = s.stopped; handled = s.handled }

more : (K : Opening) (P later : History) → IsLegal K (later ++ P) → IsSettled P → IsSettled (later ++ P)
more K P [] legal s = s
more K P (e ∷ later) legal s = one_more K (later ++ P) e legal.1 (more K P later legal.0 s)

pub stays_settled : (K : Opening) (P H : History) → IsLegal K H → IsFrontOf P H → IsSettled P → IsSettled H
stays_settled K P H legal c s =
    subst IsSettled (sym c.is) (more K P c.later (subst (IsLegal K) c.is legal) s)

-- ---- the calls that it makes

-- an entry that may follow makes none
no_call : (K : Opening) (P : History) (e : Event) (r : ℕ) → Allowed K P e → IsSettled P → calls_to K r (P ▸ e) ≡ calls_to K r P
no_call K P (entry.Register a name joining (Ok number)) r may s =
    absurd (never number Stopping (Ok number) refl (may ∙ none_registered P name s.stopped))
no_call K P (entry.FlushOpen a request (Ok number)) r may s =
    absurd (never number (record {}) (Ok number) refl (may ∙ none_flushed P s.stopped))
no_call K P (entry.Handle a now reply) r may s =
    let left : handles P < length (kept P) = may.1 in let all = s.handled in absurd (omega (arith, left, all))
no_call K P e r may s = append-nil (calls_to K r P)

no_calls : (K : Opening) (P later : History) (r : ℕ) → IsLegal K (later ++ P) → IsSettled P → calls_to K r (later ++ P) ≡ calls_to K r P
no_calls K P [] r legal s = refl
no_calls K P (e ∷ later) r legal s = no_call K (later ++ P) e r legal.1 (more K P later legal.0 s) ∙ no_calls K P later r legal.0 s

pub makes_no_call : (K : Opening) (P H : History) (r : ℕ) → IsLegal K H → IsFrontOf P H → IsSettled P → calls_to K r H ≡ calls_to K r P
makes_no_call K P H r legal c s = ap (calls_to K r) c.is ∙ no_calls K P c.later r (subst (IsLegal K) c.is legal) s
