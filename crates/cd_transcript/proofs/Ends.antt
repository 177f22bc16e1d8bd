-- How a run ends: after a stop and the work all lists are handled, and then each registration is closed and handed out.
use Rattle.cd_daemon.specs.Answers.{close_answer, home_or_pending, is_idle, may_be_taken, ready, retire_answer}
use Rattle.cd_daemon.specs.Calls.{calls_to, pending}
use Rattle.cd_daemon.specs.Legal.{IsLegal}
use Rattle.cd_daemon.specs.Settled.{IsSettled}
use Rattle.cd_daemon.specs.declared.Opening.{Opening}
use Rattle.cd_history.specs.History.{History, handles, kept, kept_of, ◌▸◌}
use Rattle.cd_history.specs.Leases.{answered_as, taken_by, takes}
use Rattle.cd_history.specs.Registrations.{Registration, closed_by, is_closed, is_plug, is_retired, is_text, live, registrations}
use Rattle.cd_history.specs.declared.entry.Entry.TheVariants as entry
use Rattle.cd_history.specs.declared.entry.Why.{Why}
use Rattle.cd_history.specs.declared.given.Given.{Given}
use Rattle.cd_registry.proofs.Numbered.{AreNumbered, numbered_push}
use Rattle.cd_registry.specs.declared.calls.Call.{Call}
use Rattle.cd_registry.specs.declared.faults.RetireFault.TheVariants as held_back
use Rattle.cd_registry.specs.declared.faults.RetireFault.{RetireFault}
use Rattle.cd_transcript.proofs.Kept.{works_leave}
use Rattle.cd_transcript.specs.LineRuns.{WorksUntilIdle, all_handed_out}
use Rattle.cd_transcript.specs.Transcripts.{of_lines}
use Rattle.std.proofs.Common.{Bool, Err, IfSome, IsTrue, List, None, Ok, Option, Result, Some, [], ap, append-nil, arith, cond, drop, false, is_some, length, length-append, nat_eq, nat_le, not, refl, slice_get, subst, suc, sym, take, true, zero, ℕ, ◌&&◌, ◌++◌, ◌+◌, ◌-◌, ◌<◌, ◌∙◌, ◌∷◌, ◌≡◌, ◌≤◌, ◌||◌}
use Rattle.std.proofs.lemmas.Bool.{and_parts, eqb-true, leb-true, ne_eqb, not-true, or_parts}
use Rattle.std.proofs.lemmas.Option.{none-some, same_Some}
use Rattle.std.specs.List.{filter, find, list_all}
use Rattle.std.specs.Option.{option_map}
use Rattle.std.specs.Str.{bytes_eq}

same_number : (n : ℕ) → nat_eq n n ≡ true
same_number n = grind arith

same_text : (text : List ℕ) → bytes_eq text text ≡ true
same_text [] = refl
same_text (x ∷ xs) = rw (same_number x, same_text xs) refl

abbrev number_of : Registration → ℕ
number_of g = g.number

-- ---- what idle says

both_true : (a b : Bool) → IsTrue (a && b) → (a ≡ true) × (b ≡ true)
both_true a b h = and_parts a b h

pub idle_none : (K : Opening) (P : History) → IsTrue (is_idle K P) → ready K P ≡ None
idle_none K P idle = nobody (ready K P) (both_true (nat_le (length (kept P)) (handles P)) (not (is_some (ready K P))) idle).1
  where
    nobody : (o : Option ℕ) → not (is_some o) ≡ true → o ≡ None
    nobody None is = refl
    nobody (Some r) is = absurd (cc)

-- no more is handled than was kept
pub legal_within : (K : Opening) (P : History) → IsLegal K P → handles P ≤ length (kept P)
legal_within K [] legal = omega arith
legal_within K (P ▸ entry.Handle a now reply) legal = let few : handles P < length (kept P) = legal.1.1 in omega (arith, few)
legal_within K (P ▸ entry.Accept a lists words now (Ok fates)) legal =
    omega (arith, legal_within K P legal.0, length-append (kept P) (kept_of lists fates))
legal_within K (P ▸ e) legal = legal_within K P legal.0

-- where it is idle, it has handled all that was kept
pub idle_handled : (K : Opening) (P : History) → IsLegal K P → IsTrue (is_idle K P) → handles P ≡ length (kept P)
idle_handled K P legal idle =
    let least = leb-true (length (kept P)) (handles P) (both_true (nat_le (length (kept P)) (handles P)) (not (is_some (ready K P))) idle).0 in
    let most = legal_within K P legal in
    omega (arith, least, most)

-- ---- after a stop and the work

pub stopped_run_handled : {K : Opening} {Moment : ℕ → List Given → Type 0} {given : List Given} (P Q : History) (a : ℕ) (w : Why) → IsLegal K Q
    → WorksUntilIdle K Moment (P ▸ entry.Stop a w) given Q → IsSettled Q
stopped_run_handled {K = K} P Q a w legal work = record { stopped = (works_leave work.works).stopped; handled = idle_handled K Q legal work.idle }

-- ---- what handing out leaves as it was

pub handed_out_settled : (K : Opening) (gs : List Registration) (P : History) → IsSettled P → IsSettled (all_handed_out K gs P)
handed_out_settled K [] P s = s
handed_out_settled K (g ∷ gs) P s = handed_out_settled K gs _ (record { stopped = s.stopped; handled = s.handled })

pub handed_out-of_lines : (K : Opening) (gs : List Registration) (P : History) → of_lines (all_handed_out K gs P) ≡ of_lines P
handed_out-of_lines K [] P = refl
handed_out-of_lines K (g ∷ gs) P = handed_out-of_lines K gs _

pub stopped-of_lines : (P : History) (a : ℕ) (w : Why) → of_lines (P ▸ entry.Stop a w) ≡ of_lines P
stopped-of_lines P a w = refl

-- what the registrations of a name were called with
pub answered_stays : (K : Opening) (gs : List Registration) (P : History) (name : List ℕ) → answered_as name (all_handed_out K gs P) ≡ answered_as name P
answered_stays K [] P name = refl
answered_stays K (g ∷ gs) P name = answered_stays K gs _ name

pub answered_stopped : (P : History) (a : ℕ) (w : Why) (name : List ℕ) → answered_as name (P ▸ entry.Stop a w) ≡ answered_as name P
answered_stopped P a w name = refl

-- ---- who is live

numbered : (P : History) → AreNumbered number_of 0 (registrations P)
numbered [] = tt
numbered (P ▸ entry.Register a name joining (Ok n)) = numbered_push number_of 0 (registrations P) _ (numbered P) (omega arith)
numbered (P ▸ e) = numbered P

-- nobody is handed out who wasn't closed
retired_closed : (K : Opening) (P : History) (r : ℕ) (u : Unit {0}) → Ok u ≡ retire_answer K P r → is_closed r P ≡ true
retired_closed K P r u is = by (is_closed r P) refl (is_retired r P) (taken_by r P) is
  where
    by : (closed : Bool) → is_closed r P ≡ closed → (retired : Bool) (who : Option ℕ)
        → Ok u ≡ cond (not closed || retired) (Err held_back.NotRegistered) (elim who as (λ o. Result (Unit {0}) RetireFault) [ Some a ↦ Err (held_back.Out a) | None ↦ home_or_pending (pending K P r) ])
        → is_closed r P ≡ true
    by true closed retired who is = closed
    by false closed retired who is = absurd (cc)

unretired : (K : Opening) (P : History) (r : ℕ) → IsLegal K P → is_closed r P ≡ false → is_retired r P ≡ false
unretired K [] r legal live = refl
unretired K (P ▸ entry.Close a name (Some n)) r legal live = unretired K P r legal.0 (or_parts (nat_eq n r) (is_closed r P) live).1
unretired K (P ▸ entry.Retire a n (Ok u)) r legal live = by (nat_eq n r) refl (unretired K P r legal.0 live)
  where
    by : (same : Bool) → nat_eq n r ≡ same → is_retired r P ≡ false → (same || is_retired r P) ≡ false
    by true same before =
        let one : n ≡ r = eqb-true n r same in
        let C : ℕ → Type 0 = λ m. is_closed m P ≡ true in
        let closed : is_closed r P ≡ true = subst C one (retired_closed K P n u legal.1.0) in
        let never : true ≡ false = sym closed ∙ live in
        absurd (cc)
    by false same before = before
unretired K (P ▸ e) r legal live = unretired K P r legal.0 live

-- ---- what is left of the live ones

-- one with a smaller number isn't among them
smaller : (k n : ℕ) (p : Registration → Bool) (xs : List Registration) → k < n → AreNumbered number_of n xs
    → filter (λ h. not (nat_eq k h.number || p h)) xs ≡ filter (λ h. not (p h)) xs
smaller k n p [] below are = refl
smaller k n p (x ∷ xs) below are =
    let other : nat_eq k x.number ≡ false = ne_eqb k x.number (λ e. let here = are.0 in omega (arith, e, here, below)) in
    let more : k < n + 1 = omega (arith, below) in
    rw (other, smaller k (n + 1) p xs more are.1) refl

-- without the first
without_first : (p : Registration → Bool) (n : ℕ) (xs : List Registration) (g : Registration) (gs : List Registration) → AreNumbered number_of n xs
    → filter (λ h. not (p h)) xs ≡ g ∷ gs → filter (λ h. not (nat_eq g.number h.number || p h)) xs ≡ gs
without_first p n [] g gs are is = absurd (cc)
without_first p n (x ∷ xs) g gs are is = by (p x) refl (without_first p (n + 1) xs g gs are.1) is
  where
    by : (closed : Bool) → p x ≡ closed
        → (filter (λ h. not (p h)) xs ≡ g ∷ gs → filter (λ h. not (nat_eq g.number h.number || p h)) xs ≡ gs)
        → cond (not closed) (x ∷ filter (λ h. not (p h)) xs) (filter (λ h. not (p h)) xs) ≡ g ∷ gs
        → cond (not (nat_eq g.number x.number || closed)) (x ∷ filter (λ h. not (nat_eq g.number h.number || p h)) xs) (filter (λ h. not (nat_eq g.number h.number || p h)) xs) ≡ gs
    by true closed later is = or_true _ _ (nat_eq g.number x.number) ∙ later is
      where
        or_true : (xs ys : List Registration) (b : Bool) → cond (not (b || true)) xs ys ≡ ys
        or_true xs ys true = refl
        or_true xs ys false = refl
    by false closed later is =
        let first : x ≡ g = cc in
        let rest : filter (λ h. not (p h)) xs ≡ gs = cc in
        let same : nat_eq g.number x.number ≡ true = ap (λ (h : Registration). nat_eq h.number x.number) (sym first) ∙ same_number x.number in
        let smallest : g.number < n + 1 = (let here = ap number_of first in let number = are.0 in omega (arith, here, number)) in
        rw same (smaller g.number (n + 1) p xs smallest are.1 ∙ rest)

-- ---- the registrations that are left, one after the other

-- These registrations are live, nobody is out, and all their calls were taken.
pub record MayEnd (K : Opening) (gs : List Registration) (P : History) : Type 0 where
  pub legal : IsLegal K P
  pub left : live P ≡ gs
  pub home : (r : ℕ) → taken_by r P ≡ None
  pub taken : list_all (λ (g : Registration). nat_eq (pending K P g.number) 0) gs ≡ true

-- where nobody passes the one test, all those that pass the other, and what they must, pass a third
none_passes : (m l must t : Registration → Bool) (xs : List Registration) → option_map number_of (find m xs) ≡ None → list_all must (filter l xs) ≡ true
    → ((x : Registration) → l x ≡ true → must x ≡ true → m x ≡ false → t x ≡ true) → list_all t (filter l xs) ≡ true
none_passes m l must t [] none all each = refl
none_passes m l must t (x ∷ xs) none all each = by (m x) refl (l x) refl (λ none all. none_passes m l must t xs none all each) none all
  where
    by : (passes : Bool) → m x ≡ passes → (is : Bool) → l x ≡ is
        → (option_map number_of (find m xs) ≡ None → list_all must (filter l xs) ≡ true → list_all t (filter l xs) ≡ true)
        → option_map number_of (cond passes (Some x) (find m xs)) ≡ None
        → list_all must (cond is (x ∷ filter l xs) (filter l xs)) ≡ true → list_all t (cond is (x ∷ filter l xs) (filter l xs)) ≡ true
    by true passes is so later none all = absurd (cc)
    by false passes true so later none all =
        let two = and_parts (must x) (list_all must (filter l xs)) all in
        rw (each x so two.0 passes) (later none two.1)
    by false passes false so later none all = later none all

-- The daemon may end where no plug-in is ready and none is out, and all live ones are plug-ins.
pub may_end : (K : Opening) (P : History) → IsLegal K P → ready K P ≡ None → ((r : ℕ) → taken_by r P ≡ None)
    → list_all (λ (g : Registration). is_plug g.joining) (live P) ≡ true → MayEnd K (live P) P
may_end K P legal none home plugs = record { legal = legal; left = refl; home = home; taken = all_taken }
  where
    each : (g : Registration) → not (is_closed g.number P) ≡ true → is_plug g.joining ≡ true → may_be_taken K P g ≡ false → nat_eq (pending K P g.number) 0 ≡ true
    each g open_still plug not_ready =
        let kept_back : is_retired g.number P ≡ false = unretired K P g.number legal (not-true (is_closed g.number P) open_still) in
        let is : may_be_taken K P g ≡ not (nat_eq (pending K P g.number) 0) = rw (plug, kept_back, home g.number) refl in
        not_false (nat_eq (pending K P g.number) 0) (sym is ∙ not_ready)
      where
        not_false : (b : Bool) → not b ≡ false → b ≡ true
        not_false true is = refl
        not_false false is = absurd (cc)

    all_taken : list_all (λ (g : Registration). nat_eq (pending K P g.number) 0) (live P) ≡ true
    all_taken =
        none_passes (may_be_taken K P) (λ g. not (is_closed g.number P)) (λ g. is_plug g.joining) (λ g. nat_eq (pending K P g.number) 0)
        (registrations P) none plugs each

-- the first of them is closed and handed out, by the one who closed it, and the others are left
pub record HandsOut (K : Opening) (g : Registration) (gs : List Registration) (P : History) : Type 0 where
  pub closes : close_answer P g.name ≡ Some g.number
  pub own : IfSome (closed_by g.number (P ▸ entry.Close 0 g.name (close_answer P g.name))) (λ b. b ≡ 0)
  pub retires : retire_answer K (P ▸ entry.Close 0 g.name (close_answer P g.name)) g.number ≡ Ok tt
  pub next : MayEnd K gs (all_handed_out K (g ∷ []) P)

module _ {K : Opening} {g : Registration} {gs : List Registration} {P : History} (e : MayEnd K (g ∷ gs) P) where
  abbrev after_close : History
  after_close = P ▸ entry.Close 0 g.name (close_answer P g.name)

  closes-it : close_answer P g.name ≡ Some g.number
  closes-it =
      ap (λ (gs : List Registration). option_map number_of (find (λ x. is_text x.name g.name) gs)) e.left
      ∙ rw (same_text g.name) refl

  was_open : is_closed g.number P ≡ false
  was_open = first (registrations P) e.left
    where
      first : (xs : List Registration) → filter (λ h. not (is_closed h.number P)) xs ≡ g ∷ gs → is_closed g.number P ≡ false
      first [] is = absurd (cc)
      first (x ∷ xs) is = by (is_closed x.number P) refl (first xs) is
        where
          by : (closed : Bool) → is_closed x.number P ≡ closed → (filter (λ h. not (is_closed h.number P)) xs ≡ g ∷ gs → is_closed g.number P ≡ false)
              → cond (not closed) (x ∷ filter (λ h. not (is_closed h.number P)) xs) (filter (λ h. not (is_closed h.number P)) xs) ≡ g ∷ gs
              → is_closed g.number P ≡ false
          by true closed later is = later is
          by false closed later is = let same : x ≡ g = cc in ap (λ (h : Registration). is_closed h.number P) (sym same) ∙ closed

  none_waits : length (calls_to K g.number P ++ []) - takes g.number P ≡ 0
  none_waits =
      ap (λ (calls : List Call). length calls - takes g.number P) (append-nil (calls_to K g.number P))
      ∙ eqb-true (pending K P g.number) 0 (and_parts (nat_eq (pending K P g.number) 0) _ e.taken).0

  retires-it : retire_answer K after_close g.number ≡ Ok tt
  retires-it = rw (closes-it, same_number g.number, unretired K P g.number e.legal was_open, e.home g.number, none_waits) refl

  own-it : IfSome (closed_by g.number after_close) (λ b. b ≡ 0)
  own-it = rw (closes-it, same_number g.number) refl

  others_left : live (all_handed_out K (g ∷ []) P) ≡ gs
  others_left = rw closes-it (without_first (λ h. is_closed h.number P) 0 (registrations P) g gs (numbered P) e.left)

  -- no call is made meanwhile
  others_taken : list_all (λ (h : Registration). nat_eq (pending K (all_handed_out K (g ∷ []) P) h.number) 0) gs ≡ true
  others_taken = same gs (and_parts (nat_eq (pending K P g.number) 0) (list_all (λ (h : Registration). nat_eq (pending K P h.number) 0) gs) e.taken).1
    where
      same : (hs : List Registration) → list_all (λ (h : Registration). nat_eq (pending K P h.number) 0) hs ≡ true
          → list_all (λ (h : Registration). nat_eq (pending K (all_handed_out K (g ∷ []) P) h.number) 0) hs ≡ true
      same [] all = refl
      same (h ∷ hs) all =
          let two = and_parts (nat_eq (pending K P h.number) 0) (list_all (λ (h : Registration). nat_eq (pending K P h.number) 0) hs) all in
          rw (append-nil (calls_to K h.number P ++ []), append-nil (calls_to K h.number P), two.0) (same hs two.1)

  pub hands_out : HandsOut K g gs P
  hands_out = record {
    closes = closes-it;
    own = own-it;
    retires = retires-it;
    next = record { legal = ((e.legal, refl), (refl, own-it)); left = others_left; home = e.home; taken = others_taken };
  }

-- .. and so each in its turn
pub all_hand_out : {K : Opening} (gs : List Registration) {P : History} → MayEnd K gs P → MayEnd K [] (all_handed_out K gs P)
all_hand_out [] e = e
all_hand_out (g ∷ gs) e = all_hand_out gs (hands_out e).next

-- there a one-thread daemon may close and hand out all of them
pub handed_out_legal : (K : Opening) (P : History) → IsLegal K P → ready K P ≡ None → ((r : ℕ) → taken_by r P ≡ None)
    → list_all (λ (g : Registration). is_plug g.joining) (live P) ≡ true → IsLegal K (all_handed_out K (live P) P)
handed_out_legal K P legal none home plugs = (all_hand_out (live P) (may_end K P legal none home plugs)).legal

-- after the first i of them
pub hand_out_first : {K : Opening} (gs : List Registration) {P : History} (i : ℕ) → MayEnd K gs P → MayEnd K (drop i gs) (all_handed_out K (take i gs) P)
hand_out_first gs zero e = e
hand_out_first [] (suc i) e = e
hand_out_first (g ∷ gs) (suc i) e = hand_out_first gs i (hands_out e).next

-- .. comes the next
pub record HandsOutNext (K : Opening) (gs : List Registration) (P : History) (i : ℕ) (g : Registration) : Type 0 where
  pub hands : HandsOut K g (drop (i + 1) gs) (all_handed_out K (take i gs) P)
  pub follows : all_handed_out K (take (i + 1) gs) P ≡ all_handed_out K (g ∷ []) (all_handed_out K (take i gs) P)

pub hand_out_next : {K : Opening} (gs : List Registration) {P : History} (i : ℕ) (g : Registration) → MayEnd K gs P → slice_get gs i ≡ Some g → HandsOutNext K gs P i g
hand_out_next [] i g e at = absurd (none-some g at)
hand_out_next {K = K} (h ∷ gs) {P = P} zero g e at =
    let H : Registration → Type 0 = λ x. HandsOutNext K (h ∷ gs) P 0 x in
    subst H (same_Some h g at) (record { hands = hands_out e; follows = refl })
hand_out_next {K = K} (h ∷ gs) {P = P} (suc i) g e at =
    let rest = hand_out_next gs i g (hands_out e).next at in
    let later : suc (i + 1) ≡ suc i + 1 = omega arith in
    let D : ℕ → Type 0 = λ n. HandsOut K g (drop n (h ∷ gs)) (all_handed_out K (take (suc i) (h ∷ gs)) P) in
    record {
      hands = subst D later rest.hands;
      follows = ap (λ (n : ℕ). all_handed_out K (take n (h ∷ gs)) P) (sym later) ∙ rest.follows;
    }
