-- What was closed is called no more, who closed it and who began a flush stays known, and an idle daemon hands out the
-- objects of closed registrations.
use Rattle.cd_daemon.proofs.Answered.{all_answered}
use Rattle.cd_daemon.proofs.Fresh.{fresh}
use Rattle.cd_daemon.proofs.Legality.{free, next_number, number_of}
use Rattle.cd_daemon.proofs.Lists.{numbered_is}
use Rattle.cd_daemon.proofs.Uncalled.{closed_not_called, filter_at, known_by, none_waits, uncalled}
use Rattle.cd_daemon.specs.Answers.{close_answer, home_or_pending, is_idle, queued, ready, retire_answer}
use Rattle.cd_daemon.specs.Calls.{calls_to, pending, posts_of, sent_to}
use Rattle.cd_daemon.specs.Flushes.{flush_begun_by, flushes_begun}
use Rattle.cd_daemon.specs.Legal.{Allowed, IsLegal}
use Rattle.cd_daemon.specs.declared.Opening.{Opening}
use Rattle.cd_history.specs.History.{Event, History, handles, kept, ◌▸◌}
use Rattle.cd_history.specs.Leases.{answered, taken_by}
use Rattle.cd_history.specs.Order.{IsFrontOf}
use Rattle.cd_history.specs.Registrations.{Registration, closed_by, is_closed, is_retired, is_text, live, registrations}
use Rattle.cd_history.specs.declared.entry.Entry.TheVariants as entry
use Rattle.cd_registry.specs.declared.calls.AnsweredCall.{AnsweredCall}
use Rattle.cd_registry.specs.declared.calls.Call.{Call}
use Rattle.cd_registry.specs.declared.faults.RetireFault.TheVariants as held_back
use Rattle.cd_registry.specs.declared.faults.RetireFault.{RetireFault}
use Rattle.std.proofs.Common.{Bool, Err, List, None, Ok, Option, Result, Some, [], ap, append-nil, arith, cond, false, is_some, length, length-drop, map, nat_eq, not, refl, subst, sym, true, ℕ, ◌&&◌, ◌++◌, ◌+◌, ◌<◌, ◌∙◌, ◌∷◌, ◌≡◌, ◌≤◌, ◌||◌}
use Rattle.std.proofs.lemmas.Bool.{eqb-true, le-leb, ne_eqb, not-true, or_right}
use Rattle.std.proofs.lemmas.Option.{none-some}

-- ---- no call after a close

stays_closed_one : (r : ℕ) (P : History) (e : Event) → is_closed r P ≡ true → is_closed r (P ▸ e) ≡ true
stays_closed_one r P (entry.Close a name (Some n)) closed = or_right (nat_eq n r) (is_closed r P) closed
stays_closed_one r P e closed = closed

closed_known : (K : Opening) (P : History) (r : ℕ) → IsLegal K P → is_closed r P ≡ true → r < length (registrations P)
closed_known K P r l closed = known_by P r (λ past. let both : true ≡ false = sym closed ∙ (fresh K r P l past).closed in absurd (cc))

same_calls : (made more : List Call) → more ≡ [] → made ++ more ≡ made
same_calls made more none = ap (λ (xs : List Call). made ++ xs) none ∙ append-nil made

pub closed_uncalled : (K : Opening) (P H : History) (r : ℕ) → IsLegal K H → IsFrontOf P H → is_closed r P ≡ true → calls_to K r H ≡ calls_to K r P
closed_uncalled K P H r l front closed =
    let C : History → Type 0 = λ H. calls_to K r H ≡ calls_to K r P in
    subst C (sym front.is) (along front.later (subst (IsLegal K) front.is l)).1
  where
    along : (later : History) → IsLegal K (later ++ P) → (is_closed r (later ++ P) ≡ true) × (calls_to K r (later ++ P) ≡ calls_to K r P)
    along [] l = (closed, refl)
    along (e ∷ later) l =
        let before = along later l.0 in
        let none : sent_to r (posts_of K (later ++ P) e) ≡ [] =
        uncalled K (later ++ P) e r l.1 (closed_not_called (later ++ P) r before.0) (closed_known K (later ++ P) r l.0 before.0) in
        (stays_closed_one r (later ++ P) e before.0, same_calls (calls_to K r (later ++ P)) (sent_to r (posts_of K (later ++ P) e)) none ∙ before.1)

-- ---- one that is handed out

pub retired_answered : (K : Opening) (P : History) (r : ℕ) → IsLegal K P → retire_answer K P r ≡ Ok tt
    → map (λ (one : AnsweredCall). one.call) (answered r P) ≡ calls_to K r P
retired_answered K P r l is =
    let f = free K P r tt (sym is) in
    let none : pending K P r ≡ 0 = f.idle in
    all_answered K P r l f.home (omega (arith, none))

pub idle_hands_out : (K : Opening) (P : History) (r : ℕ) → IsLegal K P → ready K P ≡ None → ((r : ℕ) → taken_by r P ≡ None) → is_closed r P ≡ true → is_retired r P ≡ false
    → retire_answer K P r ≡ Ok tt
idle_hands_out K P r l idle home closed kept =
    let few = none_waits K P l idle home r in
    let none : pending K P r ≡ 0 = omega (arith, few) in
    let A : Bool → Bool → Option ℕ → Result (Unit {0}) RetireFault = λ closed retired taken. cond (not closed || retired) (Err held_back.NotRegistered)
    (elim taken as (λ o. Result (Unit {0}) RetireFault) [ Some a ↦ Err (held_back.Out a) | None ↦ home_or_pending (pending K P r) ]) in
    ap (λ (b : Bool). A b (is_retired r P) (taken_by r P)) closed
    ∙ ap (λ (b : Bool). A true b (taken_by r P)) kept
    ∙ ap (A true false) (home r)
    ∙ ap home_or_pending none

-- ---- nothing is queued, and nobody is ready

pub idle_by : (K : Opening) (P : History) → queued P ≡ [] → ready K P ≡ None → is_idle K P ≡ true
idle_by K P none nobody =
    let few : length (kept P) ≤ handles P = omega (arith, length-drop (handles P) (kept P), ap length none) in
    ap (λ (b : Bool). b && not (is_some (ready K P))) (le-leb (length (kept P)) (handles P) few)
    ∙ ap (λ (o : Option ℕ). not (is_some o)) nobody

-- ---- who closed a registration

pub closer_closed : (P : History) (r a : ℕ) → closed_by r P ≡ Some a → is_closed r P ≡ true
closer_closed [] r a is = absurd (none-some a is)
closer_closed (P ▸ entry.Close b name (Some n)) r a is = by (nat_eq n r) is (closer_closed P r a)
  where
    by : (same : Bool) → cond same (Some b) (closed_by r P) ≡ Some a → (closed_by r P ≡ Some a → is_closed r P ≡ true) → (same || is_closed r P) ≡ true
    by true is rest = refl
    by false is rest = rest is
closer_closed (P ▸ e) r a is = closer_closed P r a is

-- a live one alone is closed
closed_live : (P : History) (name : List ℕ) (n : ℕ) → close_answer P name ≡ Some n → is_closed n P ≡ false
closed_live P name n is =
    let f = numbered_is number_of (λ (g : Registration). is_text g.name name) (live P) n is in
    let kept = filter_at (λ (g : Registration). not (is_closed g.number P)) (registrations P) f.found.place f.one f.found.at in
    let C : ℕ → Type 0 = λ m. is_closed m P ≡ false in
    subst C f.number_is (not-true (is_closed f.one.number P) kept.passes)

closer_one : (K : Opening) (P : History) (e : Event) (r a : ℕ) → Allowed K P e → closed_by r P ≡ Some a → closed_by r (P ▸ e) ≡ Some a
closer_one K P (entry.Close b name (Some n)) r a may is =
    let other : nat_eq n r ≡ false = ne_eqb n r (λ same.
    let C : ℕ → Type 0 = λ m. is_closed m P ≡ false in
    let both : true ≡ false = sym (closer_closed P r a is) ∙ subst C same (closed_live P name n (sym may)) in
    absurd (cc)) in
    rw other is
closer_one K P e r a may is = is

pub closer_stays : (K : Opening) (P H : History) (r a : ℕ) → IsLegal K H → IsFrontOf P H → closed_by r P ≡ Some a → closed_by r H ≡ Some a
closer_stays K P H r a l front is =
    let C : History → Type 0 = λ H. closed_by r H ≡ Some a in
    subst C (sym front.is) (along front.later (subst (IsLegal K) front.is l))
  where
    along : (later : History) → IsLegal K (later ++ P) → closed_by r (later ++ P) ≡ Some a
    along [] l = is
    along (e ∷ later) l = closer_one K (later ++ P) e r a l.1 (along later l.0)

-- ---- who began a flush

begun_below : (K : Opening) (P : History) (f a : ℕ) → IsLegal K P → flush_begun_by f P ≡ Some a → f < flushes_begun P
begun_below K [] f a l is = absurd (none-some a is)
begun_below K (P ▸ entry.FlushOpen b request (Ok n)) f a l is = by (nat_eq n f) refl is (λ before. begun_below K P f a l.0 before)
  where
    by : (same : Bool) → nat_eq n f ≡ same → cond same (Some b) (flush_begun_by f P) ≡ Some a → (flush_begun_by f P ≡ Some a → f < flushes_begun P) → f < flushes_begun P + 1
    by true e is rest = let number : n ≡ f = eqb-true n f e in let next : n ≡ flushes_begun P = next_number P n l.1 in omega (arith, number, next)
    by false e is rest = let below = rest is in omega (arith, below)
begun_below K (P ▸ e) f a l is = begun_below K P f a l.0 is

beginner_one : (K : Opening) (P : History) (e : Event) (f a : ℕ) → IsLegal K P → Allowed K P e → flush_begun_by f P ≡ Some a → flush_begun_by f (P ▸ e) ≡ Some a
beginner_one K P (entry.FlushOpen b request (Ok n)) f a l may is =
    let other : nat_eq n f ≡ false = ne_eqb n f (λ same. let next : n ≡ flushes_begun P = next_number P n may in let below = begun_below K P f a l is in omega (arith, same, next, below)) in
    rw other is
beginner_one K P e f a l may is = is

pub beginner_stays : (K : Opening) (P H : History) (f a : ℕ) → IsLegal K H → IsFrontOf P H → flush_begun_by f P ≡ Some a → flush_begun_by f H ≡ Some a
beginner_stays K P H f a l front is =
    let C : History → Type 0 = λ H. flush_begun_by f H ≡ Some a in
    subst C (sym front.is) (along front.later (subst (IsLegal K) front.is l))
  where
    along : (later : History) → IsLegal K (later ++ P) → flush_begun_by f (later ++ P) ≡ Some a
    along [] l = is
    along (e ∷ later) l = beginner_one K (later ++ P) e f a l.0 l.1 (along later l.0)
