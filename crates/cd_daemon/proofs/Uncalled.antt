-- Registrations for which no call waits: those that are read, those whose object was handed out, and all others where
-- nobody is ready and nobody is out.
use Rattle.cd_daemon.proofs.Fresh.{configured_alone, fresh, still_none}
use Rattle.cd_daemon.proofs.Legality.{free, number_of, numbered, welcome}
use Rattle.cd_daemon.proofs.Lists.{IsFound, all_map, number_at, only_one}
use Rattle.cd_daemon.proofs.Posted.{hold-flushed, hold-written, sent_none}
use Rattle.cd_daemon.specs.Answers.{may_be_taken, ready}
use Rattle.cd_daemon.specs.Calls.{calls_to, configuring, pending, posts_of, sent_to}
use Rattle.cd_daemon.specs.Legal.{Allowed, IsLegal}
use Rattle.cd_daemon.specs.declared.Opening.{Opening}
use Rattle.cd_history.specs.History.{Event, History, ◌▸◌}
use Rattle.cd_history.specs.Leases.{taken_by, takes}
use Rattle.cd_history.specs.Registrations.{Registration, has_kind, is_closed, is_plug, is_retired, kinds_joined, listeners, live, registrations}
use Rattle.cd_history.specs.declared.entry.Entry.TheVariants as entry
use Rattle.cd_history.specs.declared.entry.Joining.TheVariants.{Plug, Probe}
use Rattle.cd_history.specs.declared.entry.Joining.{Joining}
use Rattle.cd_registry.specs.declared.calls.Call.{Call}
use Rattle.cd_registry.specs.declared.kinds.Kinds.{Kinds}
use Rattle.cd_registry.specs.declared.kinds.TheConstants.Kinds.{FLUSH, WRITE}
use Rattle.std.proofs.Common.{Bool, List, None, Ok, Option, Some, [], ap, append-nil, arith, bit_and, cond, eq-eqb, false, inl, inr, is_some, length, nat_eq, nat_lt, not, refl, slice_get, subst, suc, sym, true, zero, ℕ, ◌&&◌, ◌++◌, ◌+◌, ◌<◌, ◌==◌, ◌∙◌, ◌∷◌, ◌≡◌, ◌≤◌, ◌⊎◌, ◌||◌}
use Rattle.std.proofs.lemmas.Bool.{and_from, and_left, and_right, eqb-true, ltb-false, ltb-true, ne_eqb, not-true, or_right}
use Rattle.std.proofs.lemmas.Option.{none-some, same_Some, slice_get_within}
use Rattle.std.specs.List.{filter, find, list_all, list_any}
use Rattle.std.specs.Option.{option_map}

-- ---- lists

-- what holds at each place holds of all
all_of : {A : Type 0} (h : A → Bool) (xs : List A) → ((i : ℕ) (x : A) → slice_get xs i ≡ Some x → h x ≡ true) → list_all h xs ≡ true
all_of h [] each = refl
all_of h (x ∷ xs) each = let here : h x ≡ true = each zero x refl in rw here (all_of h xs (λ i y at. each (suc i) y at))

any_at : {A : Type 0} (p : A → Bool) (xs : List A) (i : ℕ) (x : A) → slice_get xs i ≡ Some x → p x ≡ true → list_any p xs ≡ true
any_at p [] i x at is = absurd (none-some x at)
any_at p (y ∷ xs) zero x at is = let here : p y ≡ true = ap p (same_Some y x at) ∙ is in rw here refl
any_at p (y ∷ xs) (suc i) x at is = or_right (p y) (list_any p xs) (any_at p xs i x at is)

none_any : {A : Type 0} (p : A → Bool) (xs : List A) → ((i : ℕ) (x : A) → slice_get xs i ≡ Some x → p x ≡ false) → list_any p xs ≡ false
none_any p [] each = refl
none_any p (x ∷ xs) each = let here : p x ≡ false = each zero x refl in rw here (none_any p xs (λ i y at. each (suc i) y at))

-- what stands among those that pass
pub filter_at : {A : Type 0} (p : A → Bool) (xs : List A) (i : ℕ) (x : A) → slice_get (filter p xs) i ≡ Some x → IsFound p xs x
filter_at p [] i x at = absurd (none-some x at)
filter_at {A} p (y ∷ xs) i x at = by (p y) refl i at (λ j there. filter_at p xs j x there)
  where
    later : IsFound p xs x → IsFound p (y ∷ xs) x
    later f = record { place = suc f.place; at = f.at; passes = f.passes }

    by : (b : Bool) → p y ≡ b → (i : ℕ) → slice_get (cond b (y ∷ filter p xs) (filter p xs)) i ≡ Some x
        → ((j : ℕ) → slice_get (filter p xs) j ≡ Some x → IsFound p xs x) → IsFound p (y ∷ xs) x
    by true is zero at rest = let P : A → Type 0 = λ z. p z ≡ true in record { place = 0; at = at; passes = subst P (same_Some y x at) is }
    by true is (suc i) at rest = later (rest i at)
    by false is i at rest = later (rest i at)

-- what stands in a list with one more is one of those before, or that one
pushed_at : {A : Type 0} (xs : List A) (y : A) (i : ℕ) (x : A) → slice_get (xs ++ y ∷ []) i ≡ Some x → (slice_get xs i ≡ Some x) ⊎ ((i ≡ length xs) × (y ≡ x))
pushed_at [] y zero x at = inr (refl, same_Some y x at)
pushed_at [] y (suc i) x at = absurd (none-some x at)
pushed_at (z ∷ xs) y zero x at = inl at
pushed_at {A} (z ∷ xs) y (suc i) x at = later (pushed_at xs y i x at)
  where
    later : (slice_get xs i ≡ Some x) ⊎ ((i ≡ length xs) × (y ≡ x)) → (slice_get xs i ≡ Some x) ⊎ ((suc i ≡ length (z ∷ xs)) × (y ≡ x))
    later (inl before) = inl before
    later (inr last) = inr (ap suc last.0, last.1)

-- what passes nowhere at all isn't found
found_nowhere : {A : Type 0} (p : A → Bool) (xs : List A) (i : ℕ) (x : A) → find p xs ≡ None → slice_get xs i ≡ Some x → p x ≡ false
found_nowhere p [] i x none at = absurd (none-some x at)
found_nowhere {A} p (y ∷ xs) i x none at = by (p y) refl none i at (λ e j there. found_nowhere p xs j x e there)
  where
    by : (b : Bool) → p y ≡ b → cond b (Some y) (find p xs) ≡ None → (i : ℕ) → slice_get (y ∷ xs) i ≡ Some x
        → (find p xs ≡ None → (j : ℕ) → slice_get xs j ≡ Some x → p x ≡ false) → p x ≡ false
    by true is none i at rest = absurd (none-some y (sym none))
    by false is none zero at rest = ap p (sym (same_Some y x at)) ∙ is
    by false is none (suc i) at rest = rest none i at

none_mapped : {A B : Type 0} (f : A → B) (o : Option A) → option_map f o ≡ None → o ≡ None
none_mapped f None is = refl
none_mapped f (Some x) is = absurd (none-some (f x) (sym is))

-- ---- who may be called

-- it is the number of a live plug-in
abbrev may_be_called : History → ℕ → Bool
may_be_called P n = list_any (λ (g : Registration). nat_eq g.number n && is_plug g.joining) (live P)

-- one that is read has no kinds
kind_plug : (kind : Kinds) (joining : Joining) → (bit_and 0 kind.0 == kind.0) ≡ false → (bit_and (kinds_joined joining) kind.0 == kind.0) ≡ true → is_plug joining ≡ true
kind_plug kind (Plug kinds config told) none has = refl
kind_plug kind (Probe interval now told) none has = let both : true ≡ false = sym has ∙ none in absurd (cc)

listed_called : (kind : Kinds) (P : History) → (bit_and 0 kind.0 == kind.0) ≡ false → list_all (may_be_called P) (listeners kind (live P)) ≡ true
listed_called kind P none =
    all_map number_of (may_be_called P) (filter (has_kind kind) (live P))
    (all_of (λ (g : Registration). may_be_called P g.number) (filter (has_kind kind) (live P)) (λ i g at.
    let f = filter_at (has_kind kind) (live P) i g at in
    any_at (λ (h : Registration). nat_eq h.number g.number && is_plug h.joining) (live P) f.place g f.at
    (and_from (nat_eq g.number g.number) (is_plug g.joining) (eq-eqb g.number g.number refl) (kind_plug kind g.joining none f.passes))))

-- an entry makes no call to another number, but for the one that it registers
pub uncalled : (K : Opening) (P : History) (e : Event) (r : ℕ) → Allowed K P e → may_be_called P r ≡ false → r < length (registrations P) → sent_to r (posts_of K P e) ≡ []
uncalled K P (entry.Register a name joining (Ok n)) r may never known =
    configured_alone r n joining (ne_eqb n r (λ e. let next = (welcome P name n may).next in omega (arith, e, next, known)))
uncalled K P (entry.Handle a now reply) r may never known = sent_none (may_be_called P) r _ (hold-written (may_be_called P) K P now (listed_called WRITE P refl)) never
uncalled K P (entry.FlushOpen a request (Ok n)) r may never known = sent_none (may_be_called P) r _ (hold-flushed (may_be_called P) n request (live P) (listed_called FLUSH P refl)) never
uncalled K P e r may never known = refl

-- ---- one that is read

read_not_called : (P : History) (r : ℕ) (g : Registration) → slice_get (registrations P) r ≡ Some g → is_plug g.joining ≡ false → may_be_called P r ≡ false
read_not_called P r g at read =
    none_any (λ (h : Registration). nat_eq h.number r && is_plug h.joining) (live P) (λ i h there.
    let f = filter_at (λ (g : Registration). not (is_closed g.number P)) (registrations P) i h there in
    by h f (nat_eq h.number r) refl)
  where
    by : (h : Registration) → IsFound (λ (g : Registration). not (is_closed g.number P)) (registrations P) h → (b : Bool) → nat_eq h.number r ≡ b → (nat_eq h.number r && is_plug h.joining) ≡ false
    by h f true is =
        let same : h ≡ g = only_one number_of (registrations P) f.place r h g (numbered P) f.at (eqb-true h.number r is) at in
        and_right (nat_eq h.number r) (is_plug h.joining) (ap (λ (x : Registration). is_plug x.joining) same ∙ read)
    by h f false is = and_left (nat_eq h.number r) (is_plug h.joining) is

not_configured : (r n : ℕ) (joining : Joining) → is_plug joining ≡ false → sent_to r (configuring n joining) ≡ []
not_configured r n (Plug kinds config told) read = absurd (cc)
not_configured r n (Probe interval now told) read = refl

-- who is registered next
abbrev pub newcomer : History → List ℕ → Joining → Registration
newcomer P name joining = record { number = length (registrations P); name = name; joining = joining }

read_uncalled : (K : Opening) (P : History) (r : ℕ) (g : Registration) → IsLegal K P → slice_get (registrations P) r ≡ Some g → is_plug g.joining ≡ false → calls_to K r P ≡ []
read_uncalled K [] r g l at read = refl
read_uncalled K (P ▸ entry.Register a name joining (Ok n)) r g l at read =
    by (pushed_at (registrations P) (newcomer P name joining) r g at) (λ before. read_uncalled K P r g l.0 before read)
  where
    by : (slice_get (registrations P) r ≡ Some g) ⊎ ((r ≡ length (registrations P)) × (newcomer P name joining ≡ g)) → (slice_get (registrations P) r ≡ Some g → calls_to K r P ≡ [])
        → calls_to K r P ++ sent_to r (configuring n joining) ≡ []
    by (inl before) rest =
        let known : r < length (registrations P) = slice_get_within (registrations P) r g before in
        still_none (calls_to K r P) (sent_to r (configuring n joining)) (rest before)
        (uncalled K P (entry.Register a name joining (Ok n)) r l.1 (read_not_called P r g before read) known)
    by (inr last) rest =
        let past : length (registrations P) ≤ r = (let is = last.0 in omega (arith, is)) in
        still_none (calls_to K r P) (sent_to r (configuring n joining)) (fresh K r P l.0 past).none_made
        (not_configured r n joining (ap (λ (x : Registration). is_plug x.joining) last.1 ∙ read))
read_uncalled K (P ▸ e) r g l at read =
    still_none (calls_to K r P) (sent_to r (posts_of K P e)) (read_uncalled K P r g l.0 at read)
    (uncalled K P e r l.1 (read_not_called P r g at read) (slice_get_within (registrations P) r g at))

-- ---- one whose object was handed out

pub closed_not_called : (P : History) (r : ℕ) → is_closed r P ≡ true → may_be_called P r ≡ false
closed_not_called P r closed =
    none_any (λ (h : Registration). nat_eq h.number r && is_plug h.joining) (live P) (λ i h there.
    let f = filter_at (λ (g : Registration). not (is_closed g.number P)) (registrations P) i h there in
    by h (not-true (is_closed h.number P) f.passes) (nat_eq h.number r) refl)
  where
    by : (h : Registration) → is_closed h.number P ≡ false → (b : Bool) → nat_eq h.number r ≡ b → (nat_eq h.number r && is_plug h.joining) ≡ false
    by h live true is =
        let C : ℕ → Type 0 = λ n. is_closed n P ≡ false in
        let both : true ≡ false = sym closed ∙ subst C (eqb-true h.number r is) live in
        absurd (cc)
    by h live false is = and_left (nat_eq h.number r) (is_plug h.joining) is

-- what was handed out was closed before
pub retired_closed : (K : Opening) (P : History) (r : ℕ) → IsLegal K P → is_retired r P ≡ true → is_closed r P ≡ true
retired_closed K [] r l is = absurd (cc)
retired_closed K (P ▸ entry.Close a name (Some n)) r l is = or_right (nat_eq n r) (is_closed r P) (retired_closed K P r l.0 is)
retired_closed K (P ▸ entry.Retire a n (Ok u)) r l is = by (nat_eq n r) refl is (λ before. retired_closed K P r l.0 before)
  where
    by : (b : Bool) → nat_eq n r ≡ b → (b || is_retired r P) ≡ true → (is_retired r P ≡ true → is_closed r P ≡ true) → is_closed r P ≡ true
    by true e is rest = let C : ℕ → Type 0 = λ m. is_closed m P ≡ true in subst C (eqb-true n r e) (free K P n u l.1.0).closed
    by false e is rest = rest is
retired_closed K (P ▸ e) r l is = retired_closed K P r l.0 is

pub known_by : (P : History) (r : ℕ) → (length (registrations P) ≤ r → ⊥) → r < length (registrations P)
known_by P r none = by (nat_lt r (length (registrations P))) refl
  where
    by : (b : Bool) → nat_lt r (length (registrations P)) ≡ b → r < length (registrations P)
    by true is = ltb-true r (length (registrations P)) is
    by false is = absurd (none (ltb-false r (length (registrations P)) is))

retired_known : (K : Opening) (P : History) (r : ℕ) → IsLegal K P → is_retired r P ≡ true → r < length (registrations P)
retired_known K P r l is = known_by P r (λ past. let both : true ≡ false = sym is ∙ (fresh K r P l past).retired in absurd (cc))

still_few : (made more : List Call) (n : ℕ) → more ≡ [] → length made ≤ n → length (made ++ more) ≤ n
still_few made more n none few = rw (none, append-nil made) few

retired_idle : (K : Opening) (P : History) (r : ℕ) → IsLegal K P → is_retired r P ≡ true → length (calls_to K r P) ≤ takes r P
retired_idle K [] r l is = absurd (cc)
retired_idle K (P ▸ entry.Retire a n (Ok u)) r l is =
    still_few (calls_to K r P) [] (takes r P) refl (by (nat_eq n r) refl is (λ before. retired_idle K P r l.0 before))
  where
    by : (b : Bool) → nat_eq n r ≡ b → (b || is_retired r P) ≡ true → (is_retired r P ≡ true → length (calls_to K r P) ≤ takes r P) → length (calls_to K r P) ≤ takes r P
    by true e is rest =
        let I : ℕ → Type 0 = λ m. pending K P m ≡ 0 in
        let idle : pending K P r ≡ 0 = subst I (eqb-true n r e) (free K P n u l.1.0).idle in
        omega (arith, idle)
    by false e is rest = rest is
retired_idle K (P ▸ entry.Take a n call) r l is = still_few (calls_to K r P) [] _ refl (by (nat_eq n r) (retired_idle K P r l.0 is))
  where
    by : (b : Bool) → length (calls_to K r P) ≤ takes r P → length (calls_to K r P) ≤ cond b (takes r P + 1) (takes r P)
    by true few = omega (arith, few)
    by false few = few
retired_idle K (P ▸ e) r l is =
    still_few (calls_to K r P) (sent_to r (posts_of K P e)) (takes r P)
    (uncalled K P e r l.1 (closed_not_called P r (retired_closed K P r l.0 is)) (retired_known K P r l.0 is))
    (retired_idle K P r l.0 is)

-- ---- all of them, where nobody is ready and nobody is out

one_of : {A : Type 0} (plug retired out idle : Bool) → (plug && not retired && not out && not idle) ≡ false → out ≡ false
    → (plug ≡ false → A) → (retired ≡ true → A) → (idle ≡ true → A) → A
one_of false retired out idle is home read handed none = read refl
one_of true true out idle is home read handed none = handed refl
one_of true false true idle is home read handed none = absurd (cc)
one_of true false false true is home read handed none = none refl
one_of true false false false is home read handed none = absurd (cc)

pub none_waits : (K : Opening) (P : History) → IsLegal K P → ready K P ≡ None → ((r : ℕ) → taken_by r P ≡ None) → (r : ℕ) → length (calls_to K r P) ≤ takes r P
none_waits K P l idle home r = by (slice_get (registrations P) r) refl
  where
    few : (calls : List Call) (n : ℕ) → calls ≡ [] → length calls ≤ n
    few calls n none = rw none (omega arith)

    past_end : {A : Type 0} (xs : List A) (i : ℕ) → slice_get xs i ≡ None → length xs ≤ i
    past_end [] i is = omega arith
    past_end (x ∷ xs) zero is = absurd (none-some x (sym is))
    past_end (x ∷ xs) (suc i) is = let rest = past_end xs i is in omega (arith, rest)

    by : (o : Option Registration) → slice_get (registrations P) r ≡ o → length (calls_to K r P) ≤ takes r P
    by None at = few (calls_to K r P) (takes r P) (fresh K r P l (past_end (registrations P) r at)).none_made
    by (Some g) at =
        let number : g.number ≡ r = number_at number_of (registrations P) r g (numbered P) at in
        let W : ℕ → Type 0 = λ n. length (calls_to K n P) ≤ takes n P in
        let never : may_be_taken K P g ≡ false = found_nowhere (may_be_taken K P) (registrations P) r g (none_mapped number_of (find (may_be_taken K P) (registrations P)) idle) at in
        subst W number (one_of (is_plug g.joining) (is_retired g.number P) (is_some (taken_by g.number P)) (nat_eq (pending K P g.number) 0) never (ap is_some (home g.number))
        (λ read. subst W (sym number) (few (calls_to K r P) (takes r P) (read_uncalled K P r g l at read)))
        (λ handed. retired_idle K P g.number l handed)
        (λ none. let zero_left = eqb-true (pending K P g.number) 0 none in omega (arith, zero_left)))
