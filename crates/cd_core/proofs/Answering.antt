-- What the registry answers by its rows, where these are the rows after a history, is the one-thread daemon's answer.
use Rattle.cd_daemon.proofs.Fresh.{fresh}
use Rattle.cd_daemon.proofs.Legality.{number_of, numbered}
use Rattle.cd_daemon.proofs.Lists.{find_among, number_at}
use Rattle.cd_daemon.specs.Answers.{home_or_pending, may_be_taken, ready, register_answer, retire_answer}
use Rattle.cd_daemon.specs.Calls.{calls_to, pending}
use Rattle.cd_daemon.specs.Flushes.{flusher_named}
use Rattle.cd_daemon.specs.Legal.{IsLegal}
use Rattle.cd_core.specs.Objects.{home_with, place_after, place_by}
use Rattle.cd_core.specs.Posting.{is_writer}
use Rattle.cd_core.specs.Replies.{retire_reply}
use Rattle.cd_core.specs.Stands.{row_after, rows_after}
use Rattle.cd_daemon.specs.Performing.{writer_named}
use Rattle.cd_daemon.specs.declared.Opening.{Opening}
use Rattle.cd_history.specs.History.{History, is_stopped}
use Rattle.cd_history.specs.Leases.{answered, taken_by, takes}
use Rattle.cd_history.specs.Registrations.{Registration, has_kind, is_closed, is_plug, is_retired, is_text, listeners, live, number_of_live, registrations}
use Rattle.cd_history.specs.declared.entry.Joining.TheVariants.{Plug, Probe}
use Rattle.cd_history.specs.declared.entry.Joining.{Joining}
use Rattle.cd_history.specs.declared.entry.RegisterFault.TheVariants as refused
use Rattle.cd_history.specs.declared.entry.RegisterFault.{RegisterFault as Refusal}
use Rattle.cd_registry.proofs.Numbered.{numbers-numbered, position-numbered}
use Rattle.cd_registry.proofs.Places.{count-map, numbers-map, position-map}
use Rattle.cd_registry.specs.Faults.{add_fault, closed_fault, is_reserved, pending_fault, retire_fault, row_fault}
use Rattle.cd_registry.specs.Rows.{Row, has_kinds, is_live_as, is_plug_home, is_ready, listening, live_count, live_number, live_number_with}
use Rattle.cd_registry.specs.declared.faults.AddFault.TheVariants as add
use Rattle.cd_registry.specs.declared.faults.AddFault.{AddFault}
use Rattle.cd_registry.specs.declared.faults.RetireFault.TheVariants as held_back
use Rattle.cd_registry.specs.declared.faults.RetireFault.{RetireFault}
use Rattle.cd_registry.specs.declared.faults.TheConstants.{LIVE_LIMIT}
use Rattle.cd_registry.specs.declared.kinds.TheConstants.Kinds.{FLUSH, WRITE}
use Rattle.std.proofs.Common.{Bool, Err, List, None, Ok, Option, Result, Some, [], ap, arith, cond, false, is_some, length, map, nat_eq, nat_le, not, refl, slice_get, suc, sym, true, zero, ℕ, ◌&&◌, ◌∙◌, ◌∷◌, ◌≡◌, ◌≤◌, ◌||◌}
use Rattle.std.proofs.lemmas.List.{length-drop}
use Rattle.std.proofs.lemmas.Option.{none-some, same_Some, slice_get-map}
use Rattle.std.specs.List.{filter, find, position}
use Rattle.std.specs.Option.{option_map}
use Rattle.std.specs.Result.{result_err}

-- ---- who is looked for

-- the first row that passes a test, by the registrations
pub position_rows : (K : Opening) (P : History) (test : Row → Bool) (passes : Registration → Bool) → ((g : Registration) → test (row_after K P g) ≡ passes g)
    → position test (rows_after K P) ≡ option_map number_of (find passes (registrations P))
position_rows K P test passes same =
    position-map (row_after K P) test passes same (registrations P) ∙ position-numbered number_of passes (registrations P) (numbered P)

-- one that is ready
home_is_plug : (joining : Joining) (retired : Bool) (taken : Option ℕ) (P : History) (r : ℕ)
    → is_plug_home (place_by retired taken (home_with joining (answered r P))) ≡ is_plug joining && not retired && not (is_some taken)
home_is_plug (Plug kinds config told) true taken P r = refl
home_is_plug (Plug kinds config told) false (Some a) P r = refl
home_is_plug (Plug kinds config told) false None P r = refl
home_is_plug (Probe interval now told) true taken P r = refl
home_is_plug (Probe interval now told) false (Some a) P r = refl
home_is_plug (Probe interval now told) false None P r = refl

pub ready_row : (K : Opening) (P : History) (g : Registration) → is_ready (row_after K P g) ≡ may_be_taken K P g
ready_row K P g =
    ap (λ (n : ℕ). is_plug_home (place_after P g) && not (nat_eq n 0)) (length-drop (takes g.number P) (calls_to K g.number P))
    ∙ ap (λ (b : Bool). b && not (nat_eq (pending K P g.number) 0)) (home_is_plug g.joining (is_retired g.number P) (taken_by g.number P) P g.number)

pub ready_is : (K : Opening) (P : History) → position is_ready (rows_after K P) ≡ ready K P
ready_is K P = position_rows K P is_ready (may_be_taken K P) (ready_row K P)

-- the live registration of a name
pub number_is : (K : Opening) (P : History) (name : List ℕ) → live_number name (rows_after K P) ≡ number_of_live name P
number_is K P name =
    position_rows K P (is_live_as name) (λ (g : Registration). not (is_closed g.number P) && is_text g.name name) (λ g. refl)
    ∙ ap (option_map number_of) (sym (find_among (λ (g : Registration). is_text g.name name) (λ (g : Registration). not (is_closed g.number P)) (registrations P)))

and_assoc : (a b c : Bool) → ((a && b) && c) ≡ (a && (b && c))
and_assoc true b c = refl
and_assoc false b c = refl

-- ---- who is called with lists

find_map : {A B : Type 0} (f : A → B) (p : B → Bool) (xs : List A) → find p (map f xs) ≡ option_map f (find (λ x. p (f x)) xs)
find_map f p [] = refl
find_map f p (x ∷ xs) = by (p (f x)) (find_map f p xs)
  where
    by : (b : Bool) → find p (map f xs) ≡ option_map f (find (λ y. p (f y)) xs)
        → cond b (Some (f x)) (find p (map f xs)) ≡ option_map f (cond b (Some x) (find (λ y. p (f y)) xs))
    by true rest = refl
    by false rest = rest

-- two tests that agree on each element find the same
find_each : {A : Type 0} (p q : A → Bool) (xs : List A) → ((i : ℕ) (x : A) → slice_get xs i ≡ Some x → p x ≡ q x) → find p xs ≡ find q xs
find_each p q [] same = refl
find_each p q (x ∷ xs) same =
    ap (λ b. cond b (Some x) (find p xs)) (same zero x refl)
    ∙ ap (λ o. cond (q x) (Some x) o) (find_each p q xs (λ i y at. same (suc i) y at))

asked_once : (lives named called : Bool) → (lives && (called && ((lives && named) && called))) ≡ (lives && (named && called))
asked_once false named called = refl
asked_once true true true = refl
asked_once true true false = refl
asked_once true false true = refl
asked_once true false false = refl

module _ (K : Opening) (P : History) (name : List ℕ) where
  abbrev lives : Registration → Bool
  lives g = not (is_closed g.number P)

  abbrev has_name : Registration → Bool
  has_name g = is_writer (rows_after K P) name g.number

  -- the row of a registration is there
  row_of_its_own : (i : ℕ) (g : Registration) → slice_get (registrations P) i ≡ Some g → slice_get (rows_after K P) g.number ≡ Some (row_after K P g)
  row_of_its_own i g at =
      let number : g.number ≡ i = number_at number_of (registrations P) i g (numbered P) at in
      ap (slice_get (rows_after K P)) number ∙ slice_get-map (row_after K P) (registrations P) i ∙ ap (option_map (row_after K P)) at

  -- among the writers the one of a name is found by the rows
  pub writer_found : find (is_writer (rows_after K P) name) (listeners WRITE (live P)) ≡ writer_named (live P) name
  writer_found =
      find_map number_of (is_writer (rows_after K P) name) (filter (has_kind WRITE) (live P))
      ∙ ap (option_map number_of)
      (find_among has_name (has_kind WRITE) (live P)
      ∙ find_among (λ (g : Registration). has_kind WRITE g && has_name g) lives (registrations P)
      ∙ find_each (λ (g : Registration). lives g && (has_kind WRITE g && has_name g)) (λ (g : Registration). lives g && (is_text g.name name && has_kind WRITE g)) (registrations P)
      (λ i g at.
      ap (λ (o : Option Row). lives g && (has_kind WRITE g && elim o [ None ↦ false | Some row ↦ is_live_as name row && has_kinds WRITE.0 row ])) (row_of_its_own i g at)
      ∙ asked_once (lives g) (is_text g.name name) (has_kind WRITE g))
      ∙ sym (find_among (λ (g : Registration). is_text g.name name && has_kind WRITE g) lives (registrations P)))

-- ---- who is flushed

pub flusher_is : (K : Opening) (P : History) (name : List ℕ) → live_number_with FLUSH.0 name (rows_after K P) ≡ flusher_named (live P) name
flusher_is K P name =
    position_rows K P (λ row. is_live_as name row && has_kinds FLUSH.0 row) (λ (g : Registration). not (is_closed g.number P) && (is_text g.name name && has_kind FLUSH g))
    (λ g. and_assoc (not (is_closed g.number P)) (is_text g.name name) (has_kind FLUSH g))
    ∙ ap (option_map number_of) (sym (find_among (λ (g : Registration). is_text g.name name && has_kind FLUSH g) (λ (g : Registration). not (is_closed g.number P)) (registrations P)))

filter_among : {A : Type 0} (p q : A → Bool) (xs : List A) → filter p (filter q xs) ≡ filter (λ x. q x && p x) xs
filter_among p q [] = refl
filter_among p q (x ∷ xs) = by (q x) (filter_among p q xs)
  where
    by : (a : Bool) → filter p (filter q xs) ≡ filter (λ x. q x && p x) xs
        → filter p (cond a (x ∷ filter q xs) (filter q xs)) ≡ cond (a && p x) (x ∷ filter (λ x. q x && p x) xs) (filter (λ x. q x && p x) xs)
    by true rest = ap (λ ys. cond (p x) (x ∷ ys) ys) rest
    by false rest = rest

pub flushers_are : (K : Opening) (P : History) → listening FLUSH.0 (rows_after K P) ≡ listeners FLUSH (live P)
flushers_are K P =
    numbers-map (row_after K P) (λ row. row.live && has_kinds FLUSH.0 row) (registrations P)
    ∙ numbers-numbered number_of (λ (g : Registration). not (is_closed g.number P) && has_kind FLUSH g) (registrations P) (numbered P)
    ∙ ap (map number_of) (sym (filter_among (has_kind FLUSH) (λ (g : Registration). not (is_closed g.number P)) (registrations P)))

pub count_is : (K : Opening) (P : History) → live_count (rows_after K P) ≡ length (live P)
count_is K P = count-map (row_after K P) (λ row. row.live) (registrations P)

-- ---- why none is added

abbrev register_by : Bool → Bool → Option ℕ → Bool → ℕ → Result ℕ Refusal
register_by stopped reserved taken full n =
    cond stopped (Err refused.Stopping) (cond reserved (Err refused.Reserved)
    (elim taken as (λ o. Result ℕ Refusal) [ Some r ↦ Err (refused.NameTaken r) | None ↦ cond full (Err refused.TableFull) (Ok n) ]))

abbrev fault_by : Bool → Option ℕ → Bool → Option AddFault
fault_by reserved taken full =
    cond reserved (Some add.Reserved) (elim taken as (λ o. Option AddFault) [ Some r ↦ Some (add.NameTaken r) | None ↦ cond full (Some add.TableFull) None ])

abbrev pub answer_by : Option AddFault → ℕ → Result ℕ Refusal
answer_by None n = Ok n
answer_by (Some add.Reserved) n = Err refused.Reserved
answer_by (Some (add.NameTaken r)) n = Err (refused.NameTaken r)
answer_by (Some add.TableFull) n = Err refused.TableFull
answer_by (Some add.Memory) n = Ok n

register_same : (reserved : Bool) (taken : Option ℕ) (full : Bool) (n : ℕ) → register_by false reserved taken full n ≡ answer_by (fault_by reserved taken full) n
register_same true taken full n = refl
register_same false (Some r) full n = refl
register_same false None true n = refl
register_same false None false n = refl

pub answer_is : (K : Opening) (P : History) (name : List ℕ) → is_stopped P ≡ false → register_answer P name ≡ answer_by (add_fault name (rows_after K P)) (length (registrations P))
answer_is K P name going =
    let n = length (registrations P) in
    let full = nat_le LIVE_LIMIT (length (live P)) in
    ap (λ (stopped : Bool). register_by stopped (is_reserved name) (number_of_live name P) full n) going
    ∙ register_same (is_reserved name) (number_of_live name P) full n
    ∙ ap (λ (taken : Option ℕ). answer_by (fault_by (is_reserved name) taken full) n) (sym (number_is K P name))
    ∙ ap (λ (count : ℕ). answer_by (fault_by (is_reserved name) (live_number name (rows_after K P)) (nat_le LIVE_LIMIT count)) n) (sym (count_is K P))

-- ---- why an object isn't handed out

pending_is : (n : ℕ) → pending_fault n ≡ result_err (home_or_pending n)
pending_is n = by (nat_eq n 0)
  where
    by : (b : Bool) → cond b None (Some (held_back.Pending n)) ≡ result_err {T = Unit {0}} {E = RetireFault} (cond b (Ok tt) (Err (held_back.Pending n)))
    by true = refl
    by false = refl

abbrev retire_by : Bool → Bool → Option ℕ → ℕ → Result (Unit {0}) RetireFault
retire_by closed retired taken n =
    cond (not closed || retired) (Err held_back.NotRegistered) (elim taken as (λ o. Result (Unit {0}) RetireFault) [ Some a ↦ Err (held_back.Out a) | None ↦ home_or_pending n ])

fault_same : (closed retired : Bool) (taken : Option ℕ) (n : ℕ) (joining : Joining) (P : History) (r : ℕ)
    → cond (not closed) (Some held_back.NotRegistered) (closed_fault (place_by retired taken (home_with joining (answered r P))) n) ≡ result_err (retire_by closed retired taken n)
fault_same false retired taken n joining P r = refl
fault_same true true taken n joining P r = refl
fault_same true false (Some a) n joining P r = refl
fault_same true false None n (Plug kinds config told) P r = pending_is n
fault_same true false None n (Probe interval now told) P r = pending_is n

row_fault_is : (K : Opening) (P : History) (g : Registration) → row_fault (row_after K P g) ≡ result_err (retire_answer K P g.number)
row_fault_is K P g =
    ap (λ (n : ℕ). cond (not (is_closed g.number P)) (Some held_back.NotRegistered) (closed_fault (place_after P g) n)) (length-drop (takes g.number P) (calls_to K g.number P))
    ∙ fault_same (is_closed g.number P) (is_retired g.number P) (taken_by g.number P) (pending K P g.number) g.joining P g.number

pub retire_is : (K : Opening) (P : History) (r : ℕ) → IsLegal K P → retire_fault (slice_get (rows_after K P) r) ≡ result_err (retire_answer K P r)
retire_is K P r legal = ap retire_fault (slice_get-map (row_after K P) (registrations P) r) ∙ by (slice_get (registrations P) r) refl
  where
    past_end : {A : Type 0} (xs : List A) (i : ℕ) → slice_get xs i ≡ None → length xs ≤ i
    past_end [] i is = omega arith
    past_end (x ∷ xs) zero is = absurd (cc)
    past_end (x ∷ xs) (suc i) is = let rest = past_end xs i is in omega arith

    by : (o : Option Registration) → slice_get (registrations P) r ≡ o → retire_fault (option_map (row_after K P) o) ≡ result_err (retire_answer K P r)
    by None is =
        let f = fresh K r P legal (past_end (registrations P) r is) in
        sym (ap (λ (c : Bool). result_err (retire_by c (is_retired r P) (taken_by r P) (pending K P r))) f.closed)
    by (Some g) is = row_fault_is K P g ∙ ap (λ (n : ℕ). result_err (retire_answer K P n)) (number_at number_of (registrations P) r g (numbered P) is)

pub retire_reply_is : {A : Type 0} (result : Result A RetireFault) (answer : Result (Unit {0}) RetireFault) → result_err result ≡ result_err answer → retire_reply result ≡ answer
retire_reply_is (Ok member) (Ok u) is = refl
retire_reply_is (Ok member) (Err why) is = absurd (none-some why is)
retire_reply_is (Err why) (Ok u) is = absurd (none-some why (sym is))
retire_reply_is (Err why) (Err because) is = ap Err (same_Some why because is)
