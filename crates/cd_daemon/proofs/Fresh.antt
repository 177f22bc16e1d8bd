-- What a history says of a number that no registration has yet.
use Rattle.cd_daemon.proofs.Legality.{free, is_known, live_below, live_known, ready_below, welcome}
use Rattle.cd_daemon.proofs.Posted.{hold-flush, hold-next, sent_nowhere}
use Rattle.cd_daemon.specs.Calls.{calls_to, configuring, posts_of, sent_to}
use Rattle.cd_daemon.specs.Legal.{IsLegal}
use Rattle.cd_daemon.specs.declared.Opening.{Opening}
use Rattle.cd_history.specs.History.{Event, History, ◌▸◌}
use Rattle.cd_history.specs.Leases.{answered, call_out, taken_by, takes}
use Rattle.cd_history.specs.Registrations.{is_closed, is_retired, live, registrations}
use Rattle.cd_history.specs.declared.entry.Entry.TheVariants as entry
use Rattle.cd_history.specs.declared.entry.Joining.TheVariants.{Plug, Probe}
use Rattle.cd_history.specs.declared.entry.Joining.{Joining}
use Rattle.cd_daemon.specs.Answers.{retire_answer}
use Rattle.cd_registry.specs.declared.calls.Call.TheVariants as calls
use Rattle.cd_registry.specs.declared.calls.Call.{Call}
use Rattle.cd_registry.specs.declared.kinds.TheConstants.Kinds.{CONFIGURE}
use Rattle.std.proofs.Common.{Bool, List, None, Ok, Some, [], arith, bit_and, cond, false, length, length-append, nat_eq, refl, subst, sym, true, ℕ, ◌++◌, ◌==◌, ◌∙◌, ◌∷◌, ◌≡◌, ◌≤◌}
use Rattle.std.proofs.lemmas.Bool.{ne_eqb}
use Rattle.std.proofs.lemmas.Option.{none-some}

pub record IsFresh (K : Opening) (P : History) (r : ℕ) : Type 0 where
  pub closed : is_closed r P ≡ false
  pub retired : is_retired r P ≡ false
  pub taken : takes r P ≡ 0
  pub nobody : taken_by r P ≡ None
  pub none_out : call_out r P ≡ None
  pub none_answered : answered r P ≡ []
  pub none_made : calls_to K r P ≡ []

-- a plug-in is configured alone
pub configured_alone : (r n : ℕ) (joining : Joining) → nat_eq n r ≡ false → sent_to r (configuring n joining) ≡ []
configured_alone r n (Plug kinds config told) other = by (bit_and kinds.0 CONFIGURE.0 == CONFIGURE.0)
  where
    by : (b : Bool) → sent_to r (cond b (record { reg = n; call = calls.Configure config } ∷ []) []) ≡ []
    by true = rw other refl
    by false = refl
configured_alone r n (Probe interval now told) other = refl

-- no call was made, and none is made
pub still_none : (made : List Call) (more : List Call) → made ≡ [] → more ≡ [] → made ++ more ≡ []
still_none made more none here = rw (none, here) refl

-- an entry that says nothing of the number but for calls
module _ (K : Opening) (r : ℕ) where
  fresh_but : (P : History) (e : Event) → IsFresh K P r → is_closed r (P ▸ e) ≡ false → is_retired r (P ▸ e) ≡ false → takes r (P ▸ e) ≡ 0 → taken_by r (P ▸ e) ≡ None
      → call_out r (P ▸ e) ≡ None → answered r (P ▸ e) ≡ [] → sent_to r (posts_of K P e) ≡ [] → IsFresh K (P ▸ e) r
  fresh_but P e f closed retired taken nobody none_out none_answered none = record {
    closed = closed;
    retired = retired;
    taken = taken;
    nobody = nobody;
    none_out = none_out;
    none_answered = none_answered;
    none_made = still_none (calls_to K r P) (sent_to r (posts_of K P e)) f.none_made none;
  }

  pub fresh : (P : History) → IsLegal K P → length (registrations P) ≤ r → IsFresh K P r
  fresh [] l past = record { closed = refl; retired = refl; taken = refl; nobody = refl; none_out = refl; none_answered = refl; none_made = refl }
  fresh (P ▸ entry.Register a name joining (Ok n)) l past =
      let before : length (registrations P) ≤ r = omega (arith, length-append (registrations P) (record { number = length (registrations P); name = name; joining = joining } ∷ [])) in
      let f = fresh P l.0 before in
      let w = welcome P name n l.1 in
      let other : nat_eq n r ≡ false = ne_eqb n r (λ e. let next = w.next in omega (arith, length-append (registrations P) (record { number = length (registrations P); name = name; joining = joining } ∷ []))) in
      fresh_but P (entry.Register a name joining (Ok n)) f f.closed f.retired f.taken f.nobody f.none_out f.none_answered (configured_alone r n joining other)
  fresh (P ▸ entry.Close a name (Some n)) l past =
      let f = fresh P l.0 past in
      let other : nat_eq n r ≡ false = ne_eqb n r (λ e. let below = live_below P name n (sym l.1) in omega arith) in
      fresh_but P (entry.Close a name (Some n)) f (rw (other, f.closed) refl) f.retired f.taken f.nobody f.none_out f.none_answered refl
  fresh (P ▸ entry.Retire a n (Ok u)) l past =
      let f = fresh P l.0 past in
      let other : nat_eq n r ≡ false = ne_eqb n r (λ e. open_one P n u f e l.1.0) in
      fresh_but P (entry.Retire a n (Ok u)) f f.closed (rw (other, f.retired) refl) f.taken f.nobody f.none_out f.none_answered refl
    where
      open_one : (P : History) (n : ℕ) (u : Unit {0}) → IsFresh K P r → n ≡ r → Ok u ≡ retire_answer K P n → ⊥
      open_one P n u f e is =
          let C : ℕ → Type 0 = λ m. is_closed m P ≡ true in
          let c : is_closed r P ≡ true = subst C e (free K P n u is).closed in
          let no : true ≡ false = sym c ∙ f.closed in absurd (cc)
  fresh (P ▸ entry.Take a n call) l past =
      let f = fresh P l.0 past in
      let other : nat_eq n r ≡ false = ne_eqb n r (λ e. let below = ready_below K P n l.1.0 in omega arith) in
      fresh_but P (entry.Take a n call) f f.closed f.retired (rw (other, f.taken) refl) (rw (other, f.nobody) refl) (rw (other, f.none_out) refl) f.none_answered refl
  fresh (P ▸ entry.Done a n answer) l past =
      let f = fresh P l.0 past in
      let other : nat_eq n r ≡ false = ne_eqb n r (λ e. home_one P n a f e l.1) in
      fresh_but P (entry.Done a n answer) f f.closed f.retired f.taken (rw (other, f.nobody) refl) (rw (other, f.none_out) refl) (rw (other, f.none_answered) refl) refl
    where
      home_one : (P : History) (n a : ℕ) → IsFresh K P r → n ≡ r → taken_by n P ≡ Some a → ⊥
      home_one P n a f e is =
          let T : ℕ → Type 0 = λ m. taken_by m P ≡ Some a in
          none-some a (sym f.nobody ∙ subst T e is)
  fresh (P ▸ entry.Handle a now reply) l past =
      let f = fresh P l.0 past in
      fresh_but P (entry.Handle a now reply) f f.closed f.retired f.taken f.nobody f.none_out f.none_answered
      (sent_nowhere r (length (registrations P)) _ (hold-next (is_known P) K P now (live_known P)) past)
  fresh (P ▸ entry.FlushOpen a request (Ok n)) l past =
      let f = fresh P l.0 past in
      fresh_but P (entry.FlushOpen a request (Ok n)) f f.closed f.retired f.taken f.nobody f.none_out f.none_answered
      (sent_nowhere r (length (registrations P)) _ (hold-flush (is_known P) n request (live P) (live_known P)) past)
  fresh (P ▸ e) l past =
      let f = fresh P l.0 past in
      fresh_but P e f f.closed f.retired f.taken f.nobody f.none_out f.none_answered refl
