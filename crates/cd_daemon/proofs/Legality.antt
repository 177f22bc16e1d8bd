-- What a legal history says of the numbers in it.
use Rattle.cd_daemon.proofs.Lists.{all_at, all_filter, numbered_is, numbers_below}
use Rattle.cd_daemon.specs.Answers.{flush_open_answer, home_or_pending, may_be_taken, ready, register_answer, retire_answer}
use Rattle.cd_daemon.specs.Calls.{calls_to, pending, posts_of, sent_to}
use Rattle.cd_daemon.specs.Flushes.{flushes_begun}
use Rattle.cd_daemon.specs.Legal.{IsLegal}
use Rattle.cd_daemon.specs.declared.Opening.{Opening}
use Rattle.cd_history.specs.History.{History, handles, is_stopped, kept, kept_of, ◌▸◌}
use Rattle.cd_history.specs.Leases.{taken_by, takes}
use Rattle.cd_history.specs.Registrations.{Registration, is_closed, is_plug, is_retired, is_text, live, number_of_live, registrations}
use Rattle.cd_history.specs.declared.entry.Entry.TheVariants as entry
use Rattle.cd_history.specs.declared.entry.RegisterFault.TheVariants as refused
use Rattle.cd_history.specs.declared.entry.RegisterFault.{RegisterFault}
use Rattle.cd_history.specs.declared.entry.Stopping.{Stopping}
use Rattle.cd_registry.proofs.Numbered.{AreNumbered, numbered_push}
use Rattle.cd_registry.specs.Faults.{is_reserved}
use Rattle.cd_registry.specs.declared.calls.Call.{Call}
use Rattle.cd_registry.specs.declared.faults.RetireFault.TheVariants as held_back
use Rattle.cd_registry.specs.declared.faults.RetireFault.{RetireFault}
use Rattle.cd_registry.specs.declared.faults.TheConstants.{LIVE_LIMIT}
use Rattle.std.proofs.Common.{Bool, Err, List, None, Ok, Option, Result, Some, [], ap, append-nil, arith, cond, false, is_some, length, length-append, nat_eq, nat_le, nat_lt, not, refl, slice_get, subst, sym, true, ℕ, ◌&&◌, ◌+◌, ◌<◌, ◌∙◌, ◌≡◌, ◌≤◌, ◌||◌}
use Rattle.std.proofs.lemmas.Bool.{and_parts, eqb-true, ltb-true, not-true}
use Rattle.std.proofs.lemmas.Option.{slice_get_within}
use Rattle.std.specs.List.{list_all}

-- ---- registrations have their numbers

abbrev pub number_of : Registration → ℕ
number_of g = g.number

pub numbered : (P : History) → AreNumbered number_of 0 (registrations P)
numbered [] = tt
numbered (P ▸ entry.Register a name joining (Ok n)) = numbered_push number_of 0 (registrations P) _ (numbered P) (omega arith)
numbered (P ▸ e) = numbered P

abbrev pub is_known : History → ℕ → Bool
is_known P n = nat_lt n (length (registrations P))

pub all_known : (P : History) → list_all (λ (g : Registration). is_known P g.number) (registrations P) ≡ true
all_known P = numbers_below number_of (registrations P) (numbered P)

pub live_known : (P : History) → list_all (λ (g : Registration). is_known P g.number) (live P) ≡ true
live_known P = all_filter (λ (g : Registration). is_known P g.number) (λ (g : Registration). not (is_closed g.number P)) (registrations P) (all_known P)

-- ---- what the answers say

-- a registration that isn't refused gets the next number
pub record IsWelcome (P : History) (name : List ℕ) (n : ℕ) : Type 0 where
  pub going : is_stopped P ≡ false
  pub next : n ≡ length (registrations P)

pub welcome : (P : History) (name : List ℕ) (n : ℕ) → Ok n ≡ register_answer P name → IsWelcome P name n
welcome P name n is = by (is_stopped P) refl (is_reserved name) (number_of_live name P) (nat_le LIVE_LIMIT (length (live P))) is
  where
    by : (stopped : Bool) → is_stopped P ≡ stopped → (reserved : Bool) (taken : Option ℕ) (full : Bool)
        → Ok n ≡ cond stopped (Err refused.Stopping) (cond reserved (Err refused.Reserved)
        (elim taken as (λ o. Result ℕ RegisterFault) [ Some r ↦ Err (refused.NameTaken r) | None ↦ cond full (Err refused.TableFull) (Ok (length (registrations P))) ]))
        → IsWelcome P name n
    by true e reserved taken full is = absurd (cc)
    by false e true taken full is = absurd (cc)
    by false e false (Some r) full is = absurd (cc)
    by false e false None true is = absurd (cc)
    by false e false None false is = record { going = e; next = cc }

-- the number of a live registration is one of those before
pub live_below : (P : History) (name : List ℕ) (n : ℕ) → number_of_live name P ≡ Some n → n < length (registrations P)
live_below P name n is =
    let f = numbered_is number_of (λ (g : Registration). is_text g.name name) (live P) n is in
    let known = all_at (λ (g : Registration). is_known P g.number) (live P) f.found.place f.one (live_known P) f.found.at in
    ltb-true n (length (registrations P)) (ap (is_known P) (sym f.number_is) ∙ known)

-- .. so is that of one that is ready
pub record IsTakeable (K : Opening) (P : History) (r : ℕ) : Type 0 where
  pub one : Registration
  pub place : ℕ
  pub at : slice_get (registrations P) place ≡ Some one
  pub number_is : one.number ≡ r
  pub plug : is_plug one.joining ≡ true
  pub kept : is_retired r P ≡ false
  pub home : is_some (taken_by r P) ≡ false

pub takeable : (K : Opening) (P : History) (r : ℕ) → ready K P ≡ Some r → IsTakeable K P r
takeable K P r is =
    let f = numbered_is number_of (may_be_taken K P) (registrations P) r is in
    let g = f.one in
    let three = and_parts (is_plug g.joining && not (is_retired g.number P) && not (is_some (taken_by g.number P))) (not (nat_eq (pending K P g.number) 0)) f.found.passes in
    let two = and_parts (is_plug g.joining && not (is_retired g.number P)) (not (is_some (taken_by g.number P))) three.0 in
    let one = and_parts (is_plug g.joining) (not (is_retired g.number P)) two.0 in
    let R : ℕ → Type 0 = λ n. is_retired n P ≡ false in
    let T : ℕ → Type 0 = λ n. is_some (taken_by n P) ≡ false in
    record {
      one = g;
      place = f.found.place;
      at = f.found.at;
      number_is = f.number_is;
      plug = one.0;
      kept = subst R f.number_is (not-true (is_retired g.number P) one.1);
      home = subst T f.number_is (not-true (is_some (taken_by g.number P)) two.1);
    }

pub ready_below : (K : Opening) (P : History) (r : ℕ) → ready K P ≡ Some r → r < length (registrations P)
ready_below K P r is =
    let t = takeable K P r is in
    let known = all_at (λ (g : Registration). is_known P g.number) (registrations P) t.place t.one (all_known P) t.at in
    ltb-true r (length (registrations P)) (ap (is_known P) (sym t.number_is) ∙ known)

-- one that is handed out was closed, is at home, and no call waits for it
pub record IsFree (K : Opening) (P : History) (r : ℕ) : Type 0 where
  pub closed : is_closed r P ≡ true
  pub kept : is_retired r P ≡ false
  pub home : taken_by r P ≡ None
  pub idle : pending K P r ≡ 0

none_pending : (n : ℕ) (u : Unit {0}) → Ok u ≡ home_or_pending n → n ≡ 0
none_pending n u is = by (nat_eq n 0) refl is
  where
    by : (b : Bool) → nat_eq n 0 ≡ b → Ok u ≡ cond b (Ok tt) (Err (held_back.Pending n)) → n ≡ 0
    by true e is = eqb-true n 0 e
    by false e is = absurd (cc)

pub free : (K : Opening) (P : History) (r : ℕ) (u : Unit {0}) → Ok u ≡ retire_answer K P r → IsFree K P r
free K P r u is = by (is_closed r P) refl (is_retired r P) refl (taken_by r P) refl is
  where
    by : (closed : Bool) → is_closed r P ≡ closed → (retired : Bool) → is_retired r P ≡ retired → (taken : Option ℕ) → taken_by r P ≡ taken
        → Ok u ≡ cond (not closed || retired) (Err held_back.NotRegistered) (elim taken as (λ o. Result (Unit {0}) RetireFault) [ Some a ↦ Err (held_back.Out a) | None ↦ home_or_pending (pending K P r) ])
        → IsFree K P r
    by false c retired d taken t is = absurd (cc)
    by true c true d taken t is = absurd (cc)
    by true c false d (Some a) t is = absurd (cc)
    by true c false d None t is = record { closed = c; kept = d; home = t; idle = none_pending (pending K P r) u is }

-- ---- no more was handled than was kept, and no more taken than was made

pub handled_of_kept : (K : Opening) (P : History) → IsLegal K P → handles P ≤ length (kept P)
handled_of_kept K [] l = omega arith
handled_of_kept K (P ▸ entry.Handle a now reply) l = let few = l.1.1 in omega arith
handled_of_kept K (P ▸ entry.Accept a lists words now (Ok fates)) l =
    omega (arith, handled_of_kept K P l.0, length-append (kept P) (kept_of lists fates))
handled_of_kept K (P ▸ e) l = handled_of_kept K P l.0

taken_more : (K : Opening) (P : History) (r q : ℕ) (call : Call) (b : Bool) → nat_eq q r ≡ b →
    takes r P ≤ length (calls_to K r P) → slice_get (calls_to K q P) (takes q P) ≡ Some call →
    cond b (takes r P + 1) (takes r P) ≤ length (calls_to K r P)
taken_more K P r q call true e h s =
    let is : q ≡ r = eqb-true q r e in
    let lt : takes r P < length (calls_to K r P) = subst (λ n. takes n P < length (calls_to K n P)) is (slice_get_within _ _ call s) in
    omega (arith, lt)
taken_more K P r q call false e h s = h

pub taken_of_made : (K : Opening) (P : History) (r : ℕ) → IsLegal K P → takes r P ≤ length (calls_to K r P)
taken_of_made K [] r l = omega arith
taken_of_made K (P ▸ entry.Take a q call) r l =
    subst (λ cs. cond (nat_eq q r) (takes r P + 1) (takes r P) ≤ length cs) (sym (append-nil (calls_to K r P)))
    (taken_more K P r q call (nat_eq q r) refl (taken_of_made K P r l.0) l.1.1)
taken_of_made K (P ▸ e) r l = omega (arith, taken_of_made K P r l.0, length-append (calls_to K r P) (sent_to r (posts_of K P e)))

-- ---- a flush has the count of those before it as its number

open_by : Bool → ℕ → Result ℕ Stopping
open_by stopped n = cond stopped (Err (record {})) (Ok n)

pub next_number : (P : History) (n : ℕ) → Ok n ≡ flush_open_answer P → n ≡ flushes_begun P
unfolding open_by
next_number P n is = by (is_stopped P) is
  where
    by : (stopped : Bool) → Ok n ≡ open_by stopped (flushes_begun P) → n ≡ flushes_begun P
    by true is = absurd (cc)
    by false is = cc
