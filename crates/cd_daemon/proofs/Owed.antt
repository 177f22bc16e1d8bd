-- Of the calls of a flush, each was answered, waits, or is out: where nobody is ready and nobody is out, all were answered.
use Rattle.cd_daemon.proofs.Fresh.{fresh}
use Rattle.cd_daemon.proofs.Legality.{is_known, live_known, next_number, number_of, numbered, taken_of_made, takeable}
use Rattle.cd_daemon.proofs.Lists.{first_left}
use Rattle.cd_daemon.proofs.Posted.{hold-flush, hold-next, next-writes}
use Rattle.cd_daemon.proofs.Uncalled.{known_by, newcomer, none_waits}
use Rattle.cd_daemon.proofs.Writers.{is_write}
use Rattle.cd_daemon.specs.Answers.{next_call, ready}
use Rattle.cd_daemon.specs.Calls.{cache_after, calls_to, configuring, sent_to, waiting_for}
use Rattle.cd_daemon.specs.Flushes.{flush_answers, flush_calls, flush_calls_to, flush_posts, flush_unanswered, flushes_begun, is_call_of, names_meant, plugins_meant}
use Rattle.cd_daemon.specs.Handling.{next_handling}
use Rattle.cd_daemon.specs.Legal.{Allowed, IsLegal}
use Rattle.cd_daemon.specs.Performing.{Post}
use Rattle.cd_daemon.specs.declared.Opening.{Opening}
use Rattle.cd_history.specs.History.{History, ◌▸◌}
use Rattle.cd_history.specs.Leases.{call_out, taken_by, takes}
use Rattle.cd_history.specs.Registrations.{Registration, live, registrations}
use Rattle.cd_history.specs.declared.entry.Entry.TheVariants as entry
use Rattle.cd_history.specs.declared.entry.Joining.TheVariants.{Plug, Probe}
use Rattle.cd_history.specs.declared.entry.Joining.{Joining}
use Rattle.cd_registry.proofs.Numbered.{AreNumbered}
use Rattle.cd_registry.specs.declared.calls.Answer.{Answer}
use Rattle.cd_registry.specs.declared.calls.Call.TheVariants as calls
use Rattle.cd_registry.specs.declared.calls.Call.{Call}
use Rattle.cd_registry.specs.declared.kinds.TheConstants.Kinds.{CONFIGURE}
use Rattle.cd_value.specs.declared.data.FlushRequest.{FlushRequest}
use Rattle.std.proofs.Common.{Bool, List, None, Ok, Option, Some, [], ap, append-nil, arith, bit_and, cond, count_by, drop, false, flat_map, is_some, length, length-append, map, nat_eq, nat_lt, refl, slice_get, subst, suc, sum_by, sym, true, zero, ℕ, ◌++◌, ◌+◌, ◌<◌, ◌==◌, ◌∙◌, ◌∷◌, ◌≡◌, ◌≢◌, ◌≤◌}
use Rattle.std.proofs.lemmas.Bool.{and_parts, eqb-false, eqb-true, ltb-true, ne_eqb}
use Rattle.std.proofs.lemmas.List.Sums.{sum_by-append, sum_by-cons, sum_by_push}
use Rattle.std.proofs.lemmas.List.{drop-append-le, drop-drop, drop_all, map-append}
use Rattle.std.proofs.lemmas.Option.{none-some, same_Some}
use Rattle.std.specs.List.{filter, list_all}

-- ---- sums

sum_each : {A : Type 0} (a b : A → ℕ) (xs : List A) → ((i : ℕ) (x : A) → slice_get xs i ≡ Some x → a x ≡ b x) → sum_by a xs ≡ sum_by b xs
sum_each a b [] each = refl
sum_each a b (x ∷ xs) each =
    sum_by-cons a x xs
    ∙ ap (λ n. n + sum_by a xs) (each zero x refl)
    ∙ ap (λ n. b x + n) (sum_each a b xs (λ i y at. each (suc i) y at))
    ∙ sym (sum_by-cons b x xs)

sum_none : {A : Type 0} (a : A → ℕ) (xs : List A) → ((i : ℕ) (x : A) → slice_get xs i ≡ Some x → a x ≡ 0) → sum_by a xs ≡ 0
sum_none a [] each = refl
sum_none a (x ∷ xs) each = omega (arith, sum_by-cons a x xs, each zero x refl, sum_none a xs (λ i y at. each (suc i) y at))

sum_add : {A : Type 0} (a b : A → ℕ) (xs : List A) → sum_by (λ x. a x + b x) xs ≡ sum_by a xs + sum_by b xs
sum_add a b [] = refl
sum_add a b (x ∷ xs) = omega (arith, sum_by-cons (λ y. a y + b y) x xs, sum_by-cons a x xs, sum_by-cons b x xs, sum_add a b xs)

-- so many where an element has the number r
abbrev at_number : {A : Type 0} → (A → ℕ) → ℕ → ℕ → A → ℕ
at_number number r k x = cond (nat_eq r (number x)) k 0

sum_past : {A : Type 0} (number : A → ℕ) (r k n : ℕ) (xs : List A) → AreNumbered number n xs → r < n → sum_by (at_number number r k) xs ≡ 0
sum_past number r k n [] are past = refl
sum_past number r k n (x ∷ xs) are past =
    let other : nat_eq r (number x) ≡ false = ne_eqb r (number x) (λ e. let here = are.0 in omega (arith, e, here, past)) in
    let none : at_number number r k x ≡ 0 = ap (λ b. cond b k 0) other in
    omega (arith, sum_by-cons (at_number number r k) x xs, none, sum_past number r k (n + 1) xs are.1 (omega (arith, past)))

-- one element has it
sum_one : {A : Type 0} (number : A → ℕ) (r k n : ℕ) (xs : List A) → AreNumbered number n xs → n ≤ r → r < n + length xs → sum_by (at_number number r k) xs ≡ k
sum_one number r k n [] are from within = absurd (omega (arith, from, within))
sum_one number r k n (x ∷ xs) are from within = by (nat_eq r (number x)) refl (λ past below. sum_one number r k (n + 1) xs are.1 past below)
  where
    by : (b : Bool) → nat_eq r (number x) ≡ b → (n + 1 ≤ r → r < n + 1 + length xs → sum_by (at_number number r k) xs ≡ k) → sum_by (at_number number r k) (x ∷ xs) ≡ k
    by true is rest =
        let same : r ≡ number x = eqb-true r (number x) is in
        let here : number x ≡ n = are.0 in
        let one : at_number number r k x ≡ k = ap (λ b. cond b k 0) is in
        omega (arith, sum_by-cons (at_number number r k) x xs, one, sum_past number r k (n + 1) xs are.1 (omega (arith, same, here)))
    by false is rest =
        let differ : r ≢ number x = eqb-false r (number x) is in
        let here : number x ≡ n = are.0 in
        let none : at_number number r k x ≡ 0 = ap (λ b. cond b k 0) is in
        let next : n + 1 ≤ r = omega (arith, from, differ, here) in
        let below : r < n + 1 + length xs = omega (arith, within) in
        omega (arith, sum_by-cons (at_number number r k) x xs, none, rest next below)

-- ---- calls

-- the first of those that are left
left_at : {A : Type 0} (n : ℕ) (xs : List A) (x : A) → slice_get xs n ≡ Some x → drop n xs ≡ x ∷ drop (n + 1) xs
left_at {A} n xs x at = by (drop n xs) (first_left n xs ∙ at) ∙ ap (λ (ys : List A). x ∷ ys) (drop-drop 1 n xs)
  where
    by : (ys : List A) → slice_get ys 0 ≡ Some x → ys ≡ x ∷ drop 1 ys
    by [] is = absurd (none-some x is)
    by (y ∷ ys) is = ap (λ (z : A). z ∷ ys) (same_Some y x is)

-- where nobody has the object of r, it is out for no call
pub not_out : (P : History) (r : ℕ) → is_some (taken_by r P) ≡ false → call_out r P ≡ None
not_out [] r home = refl
not_out (P ▸ entry.Take a n call) r home = by (nat_eq n r) (not_out P r) home
  where
    by : (b : Bool) → (is_some (taken_by r P) ≡ false → call_out r P ≡ None) → is_some (cond b (Some a) (taken_by r P)) ≡ false → cond b (Some call) (call_out r P) ≡ None
    by true rest home = absurd (cc)
    by false rest home = rest home
not_out (P ▸ entry.Done a n answer) r home = by (nat_eq n r) (not_out P r) home
  where
    by : (b : Bool) → (is_some (taken_by r P) ≡ false → call_out r P ≡ None) → is_some (cond b None (taken_by r P)) ≡ false → cond b None (call_out r P) ≡ None
    by true rest home = refl
    by false rest home = rest home
not_out (P ▸ e) r home = not_out P r home

-- who has an object has that of a registration
taken_known : (K : Opening) (P : History) (r a : ℕ) → IsLegal K P → taken_by r P ≡ Some a → r < length (registrations P)
taken_known K P r a l is = known_by P r (λ past. none-some a (sym (fresh K r P l past).nobody ∙ is))

module _ (f : ℕ) where
  -- ---- how many calls are of the flush

  abbrev is_of : Call → Bool
  is_of call = is_call_of f (Some call)

  abbrev count : List Call → ℕ
  count made = count_by is_of made

  abbrev one : Bool → ℕ
  one b = cond b 1 0

  count-append : (xs ys : List Call) → count (xs ++ ys) ≡ count xs + count ys
  count-append xs ys = sum_by-append (λ (call : Call). one (is_of call)) xs ys

  count-cons : (call : Call) (calls : List Call) → count (call ∷ calls) ≡ one (is_of call) + count calls
  count-cons call made = sum_by-cons (λ (call : Call). one (is_of call)) call made

  abbrev all_calls : List Post → List Call
  all_calls posts = map (λ (p : Post). p.call) posts

  -- each goes to one registration
  counted_once : (gs : List Registration) → AreNumbered number_of 0 gs → (posts : List Post) → list_all (λ (p : Post). nat_lt p.reg (length gs)) posts ≡ true
      → sum_by (λ (g : Registration). count (sent_to g.number posts)) gs ≡ count (all_calls posts)
  counted_once gs are [] all = sum_none (λ (g : Registration). count (sent_to g.number [])) gs (λ i g at. refl)
  counted_once gs are (p ∷ posts) all =
      let two = and_parts (nat_lt p.reg (length gs)) (list_all (λ (p : Post). nat_lt p.reg (length gs)) posts) all in
      let below : p.reg < length gs = ltb-true p.reg (length gs) two.0 in
      let here : sum_by (at_number number_of p.reg (one (is_of p.call))) gs ≡ one (is_of p.call) = sum_one number_of p.reg (one (is_of p.call)) 0 gs are (omega arith) (omega (arith, below)) in
      sum_each (λ (g : Registration). count (sent_to g.number (p ∷ posts))) (λ (g : Registration). at_number number_of p.reg (one (is_of p.call)) g + count (sent_to g.number posts)) gs
      (λ i g at. by g (nat_eq p.reg g.number))
      ∙ sum_add (at_number number_of p.reg (one (is_of p.call))) (λ (g : Registration). count (sent_to g.number posts)) gs
      ∙ ap (λ (n : ℕ). n + sum_by (λ (g : Registration). count (sent_to g.number posts)) gs) here
      ∙ ap (λ (n : ℕ). one (is_of p.call) + n) (counted_once gs are posts two.1)
      ∙ sym (count-cons p.call (all_calls posts))
    where
      zero_more : (n : ℕ) → n ≡ 0 + n
      zero_more n = omega arith

      by : (g : Registration) (b : Bool) → count (map (λ (p : Post). p.call) (cond b (p ∷ filter (λ (p : Post). nat_eq p.reg g.number) posts) (filter (λ (p : Post). nat_eq p.reg g.number) posts)))
          ≡ cond b (one (is_of p.call)) 0 + count (sent_to g.number posts)
      by g true = count-cons p.call (sent_to g.number posts)
      by g false = zero_more (count (sent_to g.number posts))

  -- a write is none of them, nor is a configuration
  no_write : (posts : List Post) → list_all (λ (p : Post). is_write p.call) posts ≡ true → count (all_calls posts) ≡ 0
  no_write [] all = refl
  no_write (p ∷ posts) all =
      let two = and_parts (is_write p.call) (list_all (λ (p : Post). is_write p.call) posts) all in
      let other : one (is_of p.call) ≡ 0 = by p.call two.0 in
      omega (arith, count-cons p.call (all_calls posts), other, no_write posts two.1)
    where
      by : (call : Call) → is_write call ≡ true → one (is_of call) ≡ 0
      by (calls.Write list) is = refl
      by (calls.Configure config) is = absurd (cc)
      by (calls.Flush number timeout name) is = absurd (cc)
      by (calls.Missing list) is = absurd (cc)
      by (calls.Notify note) is = absurd (cc)

  no_configuring : (r n : ℕ) (joining : Joining) → count (sent_to r (configuring n joining)) ≡ 0
  no_configuring r n (Plug kinds config told) = by (bit_and kinds.0 CONFIGURE.0 == CONFIGURE.0)
    where
      one_post : (same : Bool) → count (map (λ (p : Post). p.call) (cond same (record { reg = n; call = calls.Configure config } ∷ []) [])) ≡ 0
      one_post true = refl
      one_post false = refl

      by : (b : Bool) → count (sent_to r (cond b (record { reg = n; call = calls.Configure config } ∷ []) [])) ≡ 0
      by true = one_post (nat_eq n r)
      by false = refl
  no_configuring r n (Probe interval now told) = refl

  -- all that a flush of the number makes are, and of another number none
  abbrev Alike : Bool → List Post → Type 0
  Alike b posts = count (all_calls posts) ≡ cond b (length posts) 0

  alike-append : (b : Bool) (xs ys : List Post) → Alike b xs → Alike b ys → Alike b (xs ++ ys)
  alike-append b xs ys first then = ap count (map-append (λ (p : Post). p.call) xs ys) ∙ count-append (all_calls xs) (all_calls ys) ∙ by b first then
    where
      by : (b : Bool) → Alike b xs → Alike b ys → count (all_calls xs) + count (all_calls ys) ≡ cond b (length (xs ++ ys)) 0
      by true first then = omega (arith, first, then, length-append xs ys)
      by false first then = omega (arith, first, then)

  none_by : (b : Bool) → zero ≡ cond b zero zero
  none_by true = refl
  none_by false = refl

  alike-flush : (n : ℕ) (request : FlushRequest) (regs : List Registration) (b : Bool) → nat_eq n f ≡ b → Alike b (flush_posts n request regs)
  alike-flush n request regs b is = each (plugins_meant request regs)
    where
      named : (r : ℕ) (names : List (Option (List ℕ))) → Alike b (map (λ name. record { reg = r; call = calls.Flush n request.timeout name }) names)
      named r [] = none_by b
      named r (name ∷ names) = alike-append b (record { reg = r; call = calls.Flush n request.timeout name } ∷ []) (map (λ name. record { reg = r; call = calls.Flush n request.timeout name }) names) (by b is) (named r names)
        where
          by : (b : Bool) → nat_eq n f ≡ b → Alike b (record { reg = r; call = calls.Flush n request.timeout name } ∷ [])
          by true is = ap (λ (c : Bool). 0 + one c) is
          by false is = ap (λ (c : Bool). 0 + one c) is

      one_plugin : (plugin : Option ℕ) → Alike b (flush_calls_to n request plugin)
      one_plugin None = none_by b
      one_plugin (Some r) = named r (names_meant request)

      each : (plugins : List (Option ℕ)) → Alike b (flat_map (flush_calls_to n request) plugins)
      each [] = none_by b
      each (plugin ∷ plugins) = alike-append b (flush_calls_to n request plugin) (flat_map (flush_calls_to n request) plugins) (one_plugin plugin) (each plugins)

  -- ---- those that have no answer

  abbrev owed_by : List Call → Option Call → ℕ
  owed_by waiting out = count waiting + one (is_call_of f out)

  -- of a registration: those that wait, and the one for which its object is out
  abbrev owed : Opening → History → Registration → ℕ
  owed K P g = owed_by (waiting_for K g.number P) (call_out g.number P)

  abbrev total : Opening → History → ℕ
  total K P = sum_by (owed K P) (registrations P)

  module _ (K : Opening) where
    -- calls are made
    more_waiting : (P : History) (r : ℕ) (posts : List Post) → IsLegal K P → count (drop (takes r P) (calls_to K r P ++ sent_to r posts)) ≡ count (waiting_for K r P) + count (sent_to r posts)
    more_waiting P r posts l =
        ap count (drop-append-le (takes r P) (calls_to K r P) (sent_to r posts) (taken_of_made K P r l))
        ∙ count-append (waiting_for K r P) (sent_to r posts)

    -- the sum then
    abbrev total_with : History → List Post → ℕ
    total_with P posts = sum_by (λ (g : Registration). owed_by (drop (takes g.number P) (calls_to K g.number P ++ sent_to g.number posts)) (call_out g.number P)) (registrations P)

    more_owed : (P : History) (posts : List Post) → IsLegal K P → total_with P posts ≡ total K P + sum_by (λ (g : Registration). count (sent_to g.number posts)) (registrations P)
    more_owed P posts l =
        sum_each (λ (g : Registration). owed_by (drop (takes g.number P) (calls_to K g.number P ++ sent_to g.number posts)) (call_out g.number P)) (λ (g : Registration). owed K P g + count (sent_to g.number posts)) (registrations P)
        (λ i g at. omega (arith, more_waiting P g.number posts l))
        ∙ sum_add (owed K P) (λ (g : Registration). count (sent_to g.number posts)) (registrations P)

    posted_owed : (P : History) (posts : List Post) → IsLegal K P → list_all (λ (p : Post). is_known P p.reg) posts ≡ true → total_with P posts ≡ total K P + count (all_calls posts)
    posted_owed P posts l all = more_owed P posts l ∙ ap (λ (n : ℕ). total K P + n) (counted_once (registrations P) (numbered P) posts all)

    -- an entry that makes none
    quiet_owed : (P : History) → IsLegal K P → total_with P [] ≡ total K P
    quiet_owed P l = let same = posted_owed P [] l refl in omega (arith, same)

    -- somebody is registered
    registered_owed : (P : History) (a n : ℕ) (name : List ℕ) (joining : Joining) → IsLegal K P
        → total K (P ▸ entry.Register a name joining (Ok n)) ≡ total K P
    registered_owed P a n name joining l =
        let fresh_one = fresh K (length (registrations P)) P l (omega arith) in
        let O : Registration → ℕ = λ g. owed_by (drop (takes g.number P) (calls_to K g.number P ++ sent_to g.number (configuring n joining))) (call_out g.number P) in
        let none : one (is_call_of f (call_out (length (registrations P)) P)) ≡ 0 = ap (λ (o : Option Call). one (is_call_of f o)) fresh_one.none_out in
        let empty : count (waiting_for K (length (registrations P)) P) ≡ 0 = ap (λ (n : ℕ). count (drop n (calls_to K (length (registrations P)) P))) fresh_one.taken ∙ ap count fresh_one.none_made in
        let last : O (newcomer P name joining) ≡ 0 = omega (arith, more_waiting P (length (registrations P)) (configuring n joining) l, no_configuring (length (registrations P)) n joining, none, empty) in
        let rest : sum_by O (registrations P) ≡ total K P =
        more_owed P (configuring n joining) l
        ∙ ap (λ (n : ℕ). total K P + n) (sum_none (λ (g : Registration). count (sent_to g.number (configuring n joining))) (registrations P) (λ i g at. no_configuring g.number n joining))
        ∙ none_more (total K P) in
        omega (arith, sum_by_push O (registrations P) (newcomer P name joining), last, rest)
      where
        none_more : (n : ℕ) → n + 0 ≡ n
        none_more n = omega arith

    -- a call is taken
    taken_owed : (P : History) (a n : ℕ) (call : Call) → IsLegal K P → Allowed K P (entry.Take a n call) → total K (P ▸ entry.Take a n call) ≡ total K P
    taken_owed P a n call l may = sum_each (owed K (P ▸ entry.Take a n call)) (owed K P) (registrations P) (λ i g at. by g (nat_eq n g.number) refl)
      where
        one_taken : (xs : List Call) (t : ℕ) (out : Option Call) → slice_get xs t ≡ Some call → out ≡ None → owed_by (drop (t + 1) (xs ++ [])) (Some call) ≡ owed_by (drop t xs) out
        one_taken xs t out next home =
            let none : one (is_call_of f out) ≡ 0 = ap (λ (o : Option Call). one (is_call_of f o)) home in
            let same : count (drop (t + 1) (xs ++ [])) ≡ count (drop (t + 1) xs) = ap (λ (ys : List Call). count (drop (t + 1) ys)) (append-nil xs) in
            let split : count (drop t xs) ≡ one (is_of call) + count (drop (t + 1) xs) = ap count (left_at t xs call next) ∙ count-cons call (drop (t + 1) xs) in
            omega (arith, none, same, split)

        by : (g : Registration) (b : Bool) → nat_eq n g.number ≡ b
            → owed_by (drop (cond b (takes g.number P + 1) (takes g.number P)) (calls_to K g.number P ++ [])) (cond b (Some call) (call_out g.number P)) ≡ owed K P g
        by g true is =
            let N : ℕ → Type 0 = λ m. next_call K P m ≡ Some call in
            let H : ℕ → Type 0 = λ m. is_some (taken_by m P) ≡ false in
            let same : n ≡ g.number = eqb-true n g.number is in
            one_taken (calls_to K g.number P) (takes g.number P) (call_out g.number P) (subst N same may.1) (not_out P g.number (subst H same (takeable K P n may.0).home))
        by g false is = ap (λ (xs : List Call). owed_by (drop (takes g.number P) xs) (call_out g.number P)) (append-nil (calls_to K g.number P))

    -- .. and answered
    answered_owed : (P : History) (a n : ℕ) (answer : Answer) → IsLegal K P → taken_by n P ≡ Some a
        → total K (P ▸ entry.Done a n answer) + one (is_call_of f (call_out n P)) ≡ total K P
    answered_owed P a n answer l out =
        let here : sum_by (at_number number_of n (one (is_call_of f (call_out n P)))) (registrations P) ≡ one (is_call_of f (call_out n P)) =
        sum_one number_of n (one (is_call_of f (call_out n P))) 0 (registrations P) (numbered P) (omega arith) (let known = taken_known K P n a l out in omega (arith, known)) in
        ap (λ (m : ℕ). total K (P ▸ entry.Done a n answer) + m) (sym here)
        ∙ sym (sum_add (owed K (P ▸ entry.Done a n answer)) (at_number number_of n (one (is_call_of f (call_out n P)))) (registrations P))
        ∙ sum_each (λ (g : Registration). owed K (P ▸ entry.Done a n answer) g + at_number number_of n (one (is_call_of f (call_out n P))) g) (owed K P) (registrations P) (λ i g at. by g (nat_eq n g.number) refl)
      where
        by : (g : Registration) (b : Bool) → nat_eq n g.number ≡ b
            → owed_by (drop (takes g.number P) (calls_to K g.number P ++ [])) (cond b None (call_out g.number P)) + cond b (one (is_call_of f (call_out n P))) 0 ≡ owed K P g
        by g true is =
            let same : one (is_call_of f (call_out n P)) ≡ one (is_call_of f (call_out g.number P)) = ap (λ (m : ℕ). one (is_call_of f (call_out m P))) (eqb-true n g.number is) in
            let left : count (drop (takes g.number P) (calls_to K g.number P ++ [])) ≡ count (waiting_for K g.number P) = ap (λ (xs : List Call). count (drop (takes g.number P) xs)) (append-nil (calls_to K g.number P)) in
            omega (arith, same, left)
        by g false is =
            let left : count (drop (takes g.number P) (calls_to K g.number P ++ [])) ≡ count (waiting_for K g.number P) = ap (λ (xs : List Call). count (drop (takes g.number P) xs)) (append-nil (calls_to K g.number P)) in
            omega (arith, left)

    -- ---- along a history

    -- a flush that isn't begun yet makes no call
    not_begun : (P : History) → IsLegal K P → flushes_begun P ≤ f → flush_calls f P ≡ 0
    not_begun [] l past = refl
    not_begun (P ▸ entry.FlushOpen a request (Ok n)) l past =
        let next : n ≡ flushes_begun P = next_number P n l.1 in
        let other : nat_eq n f ≡ false = ne_eqb n f (λ e. omega (arith, e, next, past)) in
        rw other (not_begun P l.0 (omega (arith, past)))
    not_begun (P ▸ e) l past = not_begun P l.0 past

    begun : (b : Bool) (made before total then : ℕ) (answers : List Answer) → then ≡ total + cond b made 0 → before ≡ length answers + total → (b ≡ true → before ≡ 0)
        → cond b made before ≡ length (cond b [] answers) + then
    begun true made before total then answers more tally fresh_one = let none = fresh_one refl in omega (arith, more, tally, none)
    begun false made before total then answers more tally fresh_one = omega (arith, more, tally)

    one_answered : (b : Bool) (calls before then : ℕ) (answers : List Answer) (answer : Answer) → then + one b ≡ before → calls ≡ length answers + before
        → calls ≡ length (cond b (answers ++ answer ∷ []) answers) + then
    one_answered true calls before then answers answer less tally = omega (arith, less, tally, length-append answers (answer ∷ []))
    one_answered false calls before then answers answer less tally = omega (arith, less, tally)

    tally : (P : History) → IsLegal K P → flush_calls f P ≡ length (flush_answers f P) + total K P
    tally [] l = refl
    tally (P ▸ entry.Register a name joining (Ok n)) l = omega (arith, tally P l.0, registered_owed P a n name joining l.0)
    tally (P ▸ entry.Handle a now reply) l =
        omega (
          arith,
          tally P l.0,
          posted_owed P (next_handling K (cache_after K P) P now).posts l.0 (hold-next (is_known P) K P now (live_known P)),
          no_write (next_handling K (cache_after K P) P now).posts (next-writes K P now),
        )
    tally (P ▸ entry.FlushOpen a request (Ok n)) l =
        begun (nat_eq n f) (length (flush_posts n request (live P))) (flush_calls f P) (total K P) (total_with P (flush_posts n request (live P))) (flush_answers f P)
        (posted_owed P (flush_posts n request (live P)) l.0 (hold-flush (is_known P) n request (live P) (live_known P))
        ∙ ap (λ (m : ℕ). total K P + m) (alike-flush n request (live P) (nat_eq n f) refl))
        (tally P l.0)
        (λ same. not_begun P l.0 (let number : n ≡ f = eqb-true n f same in let next : n ≡ flushes_begun P = next_number P n l.1 in omega (arith, number, next)))
    tally (P ▸ entry.Take a n call) l = omega (arith, tally P l.0, taken_owed P a n call l.0 l.1)
    tally (P ▸ entry.Done a n answer) l =
        one_answered (is_call_of f (call_out n P)) (flush_calls f P) (total K P) (total K (P ▸ entry.Done a n answer)) (flush_answers f P) answer
        (answered_owed P a n answer l.0 l.1) (tally P l.0)
    tally (P ▸ e) l = omega (arith, tally P l.0, quiet_owed P l.0)

    -- ---- where nobody is ready and nobody is out

    pub none_owed : (P : History) → IsLegal K P → ready K P ≡ None → ((r : ℕ) → taken_by r P ≡ None) → flush_unanswered f P ≡ 0
    none_owed P l idle home =
        let none : total K P ≡ 0 = sum_none (owed K P) (registrations P) (λ i g at.
        let waits : count (waiting_for K g.number P) ≡ 0 = ap count (drop_all (takes g.number P) (calls_to K g.number P) (none_waits K P l idle home g.number)) in
        let out : one (is_call_of f (call_out g.number P)) ≡ 0 = ap (λ (o : Option Call). one (is_call_of f o)) (not_out P g.number (ap is_some (home g.number))) in
        omega (arith, waits, out)) in
        omega (arith, tally P l, none)
