-- The calls of a registration that were answered are the first of all its calls, in order.
use Rattle.cd_daemon.specs.Answers.{may_be_taken, next_call, ready}
use Rattle.cd_daemon.specs.Calls.{answered_calls, calls_to, pending, posts_of, sent_to}
use Rattle.cd_daemon.specs.Legal.{Allowed, IsLegal}
use Rattle.cd_daemon.specs.declared.Opening.{Opening}
use Rattle.cd_history.specs.History.{Event, History, ◌▸◌}
use Rattle.cd_history.specs.Leases.{answered, answered_one, answers_to, call_out, taken_by, takes}
use Rattle.cd_history.specs.Registrations.{Registration, is_plug, is_retired, registrations}
use Rattle.cd_history.specs.declared.entry.Entry.TheVariants as entry
use Rattle.cd_registry.specs.declared.calls.Answer.{Answer}
use Rattle.cd_registry.specs.declared.calls.AnsweredCall.{AnsweredCall}
use Rattle.cd_registry.specs.declared.calls.Call.{Call}
use Rattle.std.proofs.Common.{Bool, List, None, Option, Some, [], ap, arith, cond, false, is_some, length, length-append, map, nat_eq, not, refl, subst, suc, sym, true, zero, ℕ, ◌&&◌, ◌++◌, ◌+◌, ◌∙◌, ◌∷◌, ◌≡◌, ◌≤◌}
use Rattle.std.proofs.lemmas.Option.{slice_get_within}
use Rattle.std.specs.List.{find, slice_get}
use Rattle.std.specs.Option.{option_map}

-- ---- calls with their answers

unanswered : (calls : List Call) → answered_calls calls [] ≡ []
unanswered [] = refl
unanswered (call ∷ calls) = refl

-- calls behind those that were answered
answered_before : (calls more : List Call) (answers : List Answer) → length answers ≤ length calls → answered_calls (calls ++ more) answers ≡ answered_calls calls answers
answered_before calls more [] few = unanswered (calls ++ more) ∙ sym (unanswered calls)
answered_before [] more (answer ∷ answers) few = absurd (omega (arith, few))
answered_before (call ∷ calls) more (answer ∷ answers) few =
    let fewer : length answers ≤ length calls = omega (arith, few) in
    ap (λ (xs : List AnsweredCall). record { call = call; answer = answer } ∷ xs) (answered_before calls more answers fewer)

-- the next call is answered
answered_next : (calls : List Call) (answers : List Answer) (call : Call) (answer : Answer) → slice_get calls (length answers) ≡ Some call
    → answered_calls calls (answers ++ answer ∷ []) ≡ answered_calls calls answers ++ record { call = call; answer = answer } ∷ []
answered_next [] answers call answer is = absurd (cc)
answered_next (first ∷ calls) [] call answer is =
    let same : first ≡ call = cc in
    ap (λ (c : Call). record { call = c; answer = answer } ∷ answered_calls calls []) same
    ∙ ap (λ (xs : List AnsweredCall). record { call = call; answer = answer } ∷ xs) (unanswered calls)
answered_next (first ∷ calls) (given ∷ answers) call answer is =
    ap (λ (xs : List AnsweredCall). record { call = first; answer = given } ∷ xs) (answered_next calls answers call answer is)

-- a call among the first ones
found_before : (calls more : List Call) (n : ℕ) (call : Call) → slice_get calls n ≡ Some call → slice_get (calls ++ more) n ≡ Some call
found_before [] more n call is = absurd (cc)
found_before (first ∷ calls) more zero call is = is
found_before (first ∷ calls) more (suc n) call is = found_before calls more n call is

-- ---- where the object of a registration stands

-- it is at home, and each call that was taken was answered
record AtHome (who : Option ℕ) (taken : ℕ) (calls : List Call) (answers : List Answer) : Type 0 where
  nobody : who ≡ None
  all : taken ≡ length answers
  few : length answers ≤ length calls

-- it is out for a call, the next to be answered
record Away (call : Call) (who : Option ℕ) (taken : ℕ) (calls : List Call) (answers : List Answer) : Type 0 where
  somebody : is_some who ≡ true
  but_one : taken ≡ length answers + 1
  next : slice_get calls (length answers) ≡ Some call

abbrev Stands : Option Call → Option ℕ → ℕ → List Call → List Answer → Type 0
Stands None who taken calls answers = AtHome who taken calls answers
Stands (Some call) who taken calls answers = Away call who taken calls answers

few_answers : (out : Option Call) (who : Option ℕ) (taken : ℕ) (calls : List Call) (answers : List Answer) → Stands out who taken calls answers → length answers ≤ length calls
few_answers None who taken calls answers s = s.few
few_answers (Some call) who taken calls answers s = let within = slice_get_within calls (length answers) call s.next in omega (arith, within)

-- more calls are made
more_made : (out : Option Call) (who : Option ℕ) (taken : ℕ) (calls more : List Call) (answers : List Answer) → Stands out who taken calls answers → Stands out who taken (calls ++ more) answers
more_made None who taken calls more answers s = record { nobody = s.nobody; all = s.all; few = let few = s.few in omega (arith, few, length-append calls more) }
more_made (Some call) who taken calls more answers s = record { somebody = s.somebody; but_one = s.but_one; next = found_before calls more (length answers) call s.next }

-- a call is taken where the object is at home
now_out : (out : Option Call) (who : Option ℕ) (taken : ℕ) (calls : List Call) (answers : List Answer) (actor : ℕ) (call : Call)
    → Stands out who taken calls answers → who ≡ None → slice_get calls taken ≡ Some call → Stands (Some call) (Some actor) (taken + 1) calls answers
now_out None who taken calls answers actor call s none next = record {
  somebody = refl;
  but_one = ap (λ (n : ℕ). n + 1) s.all;
  next = let N : ℕ → Type 0 = λ n. slice_get calls n ≡ Some call in subst N s.all next;
}
now_out (Some other) who taken calls answers actor call s none next =
    let S : Option ℕ → Type 0 = λ o. is_some o ≡ true in let e : false ≡ true = subst S none s.somebody in absurd (cc)

-- .. and answered where it is out
record Back (out : Option Call) (taken : ℕ) (calls : List Call) (answers : List Answer) (answer : Answer) : Type 0 where
  home : AtHome None taken calls (answers ++ answer ∷ [])
  told : answered_calls calls (answers ++ answer ∷ []) ≡ answered_calls calls answers ++ answered_one out answer

now_back : (out : Option Call) (who : Option ℕ) (taken : ℕ) (calls : List Call) (answers : List Answer) (actor : ℕ) (answer : Answer)
    → Stands out who taken calls answers → who ≡ Some actor → Back out taken calls answers answer
now_back None who taken calls answers actor answer s is = let e : None ≡ Some actor = sym s.nobody ∙ is in absurd (cc)
now_back (Some call) who taken calls answers actor answer s is =
    let within = slice_get_within calls (length answers) call s.next in
    record {
      home = record { nobody = refl; all = let one = s.but_one in omega (arith, one, length-append answers (answer ∷ [])); few = omega (arith, within, length-append answers (answer ∷ [])) };
      told = answered_next calls answers call answer s.next;
    }

-- ---- a call is taken of an object at home alone

both : (a b : Bool) → (a && b) ≡ true → (a ≡ true) × (b ≡ true)
both true b is = (refl, is)
both false b is = absurd (cc)

nobody_has : (who : Option ℕ) → not (is_some who) ≡ true → who ≡ None
nobody_has None is = refl
nobody_has (Some a) is = absurd (cc)

module _ (K : Opening) (P : History) where
  taken_at_home : (g : Registration) → may_be_taken K P g ≡ true → taken_by g.number P ≡ None
  taken_at_home g is =
      let three = both (is_plug g.joining && not (is_retired g.number P) && not (is_some (taken_by g.number P))) (not (nat_eq (pending K P g.number) 0)) is in
      let home = both (is_plug g.joining && not (is_retired g.number P)) (not (is_some (taken_by g.number P))) three.0 in
      nobody_has (taken_by g.number P) home.1

  found_at_home : (gs : List Registration) (r : ℕ) → option_map (λ g. g.number) (find (may_be_taken K P) gs) ≡ Some r → taken_by r P ≡ None
  found_at_home [] r is = absurd (cc)
  found_at_home (g ∷ gs) r is = by (may_be_taken K P g) (found_at_home gs r) refl is
    where
      by : (t : Bool) → (option_map (λ g. g.number) (find (may_be_taken K P) gs) ≡ Some r → taken_by r P ≡ None) → may_be_taken K P g ≡ t
          → option_map (λ (g : Registration). g.number) (cond t (Some g) (find (may_be_taken K P) gs)) ≡ Some r → taken_by r P ≡ None
      by true rest able e =
          let same : g.number ≡ r = cc in
          let T : ℕ → Type 0 = λ n. taken_by n P ≡ None in
          subst T same (taken_at_home g able)
      by false rest able e = rest e

  ready_at_home : (r : ℕ) → ready K P ≡ Some r → taken_by r P ≡ None
  ready_at_home r is = found_at_home (registrations P) r is

-- ---- along a history

module _ (K : Opening) (r : ℕ) where
  record Paired (P : History) : Type 0 where
    stands : Stands (call_out r P) (taken_by r P) (takes r P) (calls_to K r P) (answers_to r P)
    told : answered r P ≡ answered_calls (calls_to K r P) (answers_to r P)

  -- an entry makes calls alone
  record Posted (P : History) (posts : List Call) : Type 0 where
    stands : Stands (call_out r P) (taken_by r P) (takes r P) (calls_to K r P ++ posts) (answers_to r P)
    told : answered r P ≡ answered_calls (calls_to K r P ++ posts) (answers_to r P)

  posted : (P : History) (posts : List Call) → Paired P → Posted P posts
  posted P posts p = record {
    stands = more_made _ _ _ (calls_to K r P) posts _ p.stands;
    told = p.told ∙ sym (answered_before (calls_to K r P) posts (answers_to r P) (few_answers _ _ _ _ _ p.stands));
  }

  by_taking : (P : History) (a reg : ℕ) (call : Call) (t : Bool) → nat_eq reg r ≡ t → Allowed K P (entry.Take a reg call) → Paired P → Paired (P ▸ entry.Take a reg call)
  by_taking P a reg call true is may p =
      let same : reg ≡ r = grind (arith, is) in
      let home : taken_by r P ≡ None = (let T : ℕ → Type 0 = λ n. taken_by n P ≡ None in subst T same (ready_at_home K P reg may.0)) in
      let next : slice_get (calls_to K r P) (takes r P) ≡ Some call = (let N : ℕ → Type 0 = λ n. next_call K P n ≡ Some call in subst N same may.1) in
      let before = posted P [] p in
      record {
        stands = rw is (now_out _ _ _ (calls_to K r P ++ []) _ a call before.stands home (found_before (calls_to K r P) [] (takes r P) call next));
        told = before.told;
      }
  by_taking P a reg call false is may p = let before = posted P [] p in record { stands = rw is before.stands; told = before.told }

  by_answering : (P : History) (a reg : ℕ) (answer : Answer) (t : Bool) → nat_eq reg r ≡ t → Allowed K P (entry.Done a reg answer) → Paired P → Paired (P ▸ entry.Done a reg answer)
  by_answering P a reg answer true is may p =
      let same : reg ≡ r = grind (arith, is) in
      let out : taken_by r P ≡ Some a = (let T : ℕ → Type 0 = λ n. taken_by n P ≡ Some a in subst T same may) in
      let before = posted P [] p in
      let back = now_back _ _ _ (calls_to K r P ++ []) (answers_to r P) a answer before.stands out in
      record {
        stands = rw is back.home;
        told = rw is (ap (λ (xs : List AnsweredCall). xs ++ answered_one (call_out r P) answer) before.told ∙ sym back.told);
      }
  by_answering P a reg answer false is may p = let before = posted P [] p in record { stands = rw is before.stands; told = rw is before.told }

  one_more : (P : History) (e : Event) → Allowed K P e → Paired P → Paired (P ▸ e)
  one_more P (entry.Take a reg call) may p = by_taking P a reg call (nat_eq reg r) refl may p
  one_more P (entry.Done a reg answer) may p = by_answering P a reg answer (nat_eq reg r) refl may p
  one_more P (entry.Register a name joining reply) may p =
      let then = posted P (sent_to r (posts_of K P (entry.Register a name joining reply))) p in record { stands = then.stands; told = then.told }
  one_more P (entry.Handle a now reply) may p =
      let then = posted P (sent_to r (posts_of K P (entry.Handle a now reply))) p in record { stands = then.stands; told = then.told }
  one_more P (entry.FlushOpen a request reply) may p =
      let then = posted P (sent_to r (posts_of K P (entry.FlushOpen a request reply))) p in record { stands = then.stands; told = then.told }
  one_more P e may p = let then = posted P [] p in record { stands = then.stands; told = then.told }

  paired : (P : History) → IsLegal K P → Paired P
  paired [] legal = record { stands = record { nobody = refl; all = refl; few = omega arith }; told = refl }
  paired (P ▸ e) legal = one_more P e legal.1 (paired P legal.0)

pub answers_follow : (K : Opening) (P : History) (r : ℕ) → IsLegal K P → answered r P ≡ answered_calls (calls_to K r P) (answers_to r P)
answers_follow K P r legal = (paired K r P legal).told

-- ---- where nobody has the object, and none of its calls is left, all were answered

at_home : (out : Option Call) (who : Option ℕ) (taken : ℕ) (calls : List Call) (answers : List Answer) → Stands out who taken calls answers → who ≡ None → AtHome who taken calls answers
at_home None who taken calls answers s none = s
at_home (Some call) who taken calls answers s none =
    let S : Option ℕ → Type 0 = λ o. is_some o ≡ true in let e : false ≡ true = subst S none s.somebody in absurd (cc)

all_paired : (calls : List Call) (answers : List Answer) → length answers ≡ length calls → map (λ (one : AnsweredCall). one.call) (answered_calls calls answers) ≡ calls
all_paired [] answers same = refl
all_paired (call ∷ calls) [] same = absurd (omega (arith, same))
all_paired (call ∷ calls) (answer ∷ answers) same = ap (λ (xs : List Call). call ∷ xs) (all_paired calls answers (omega (arith, same)))

pub all_answered : (K : Opening) (P : History) (r : ℕ) → IsLegal K P → taken_by r P ≡ None → length (calls_to K r P) ≤ takes r P
    → map (λ (one : AnsweredCall). one.call) (answered r P) ≡ calls_to K r P
all_answered K P r legal home none =
    let p = paired K r P legal in
    let h = at_home _ _ _ _ _ p.stands home in
    let all : takes r P ≡ length (answers_to r P) = h.all in
    let few : length (answers_to r P) ≤ length (calls_to K r P) = h.few in
    ap (map (λ (one : AnsweredCall). one.call)) p.told ∙ all_paired (calls_to K r P) (answers_to r P) (omega (arith, all, few, none))
