-- The rows after an entry, by those before it.
use Rattle.cd_daemon.proofs.Legality.{number_of, numbered, taken_of_made}
use Rattle.cd_daemon.proofs.Lists.{at_shown, map_each, number_at, only_one}
use Rattle.cd_daemon.specs.Calls.{calls_to, sent_to, waiting_for}
use Rattle.cd_daemon.specs.Legal.{IsLegal}
use Rattle.cd_core.specs.Objects.{IsEntered, home_after, home_with, place_after, place_by}
use Rattle.cd_core.specs.Stands.{row_after, rows_after}
use Rattle.cd_daemon.specs.Performing.{Post}
use Rattle.cd_daemon.specs.declared.Opening.{Opening}
use Rattle.cd_history.specs.History.{History, ◌▸◌}
use Rattle.cd_history.specs.Leases.{answered, answered_one, call_out, taken_by, takes}
use Rattle.cd_history.specs.Registrations.{Registration, is_closed, is_retired, kinds_joined, registrations}
use Rattle.cd_history.specs.declared.entry.Entry.TheVariants as entry
use Rattle.cd_history.specs.declared.entry.Joining.TheVariants.{Plug, Probe}
use Rattle.cd_history.specs.declared.entry.Joining.{Joining}
use Rattle.cd_registry.proofs.Numbered.{with_row-numbered}
use Rattle.cd_registry.specs.Rows.{At, IsPlugOut, Row, after_close, after_give, after_post, after_retire, after_take, with_row}
use Rattle.cd_registry.specs.Told.{told_after, told_after_all}
use Rattle.cd_registry.specs.declared.calls.Answer.{Answer}
use Rattle.cd_registry.specs.declared.calls.AnsweredCall.{AnsweredCall}
use Rattle.cd_registry.specs.declared.calls.Call.{Call}
use Rattle.cd_registry.specs.declared.place.Place.TheVariants.{PlugHome, PlugOut}
use Rattle.cd_registry.specs.declared.place.Place.{Place}
use Rattle.cd_registry.specs.declared.plug.PlugTells.{PlugTells}
use Rattle.cd_registry.specs.declared.probe.ProbeTells.{ProbeTells}
use Rattle.std.proofs.Common.{Bool, List, None, Ok, Option, Some, [], ap, append-nil, append_assoc, cond, drop, eq-eqb, false, map, nat_eq, not, refl, slice_get, subst, sym, true, ℕ, ◌++◌, ◌+◌, ◌∙◌, ◌∷◌, ◌≡◌, ◌||◌}
use Rattle.std.proofs.lemmas.Bool.{eqb-false, eqb-true, ne_eqb}
use Rattle.std.proofs.lemmas.List.{drop-append-le, drop-drop}

-- the row of a registration with these calls instead of its own
abbrev pub row_with : Opening → History → Registration → List Call → Row
row_with K P g made = record {
  name = g.name;
  kinds = kinds_joined g.joining;
  live = not (is_closed g.number P);
  place = place_after P g;
  waiting = drop (takes g.number P) made;
}

pub eq_sym : (n m : ℕ) (b : Bool) → nat_eq n m ≡ b → nat_eq m n ≡ b
eq_sym n m true is = eq-eqb m n (sym (eqb-true n m is))
eq_sym n m false is = ne_eqb m n (λ e. eqb-false n m is (sym e))

-- ---- an entry that makes no call and touches no registration

pub rows_quiet : (K : Opening) (P : History) → map (λ (g : Registration). row_with K P g (calls_to K g.number P ++ [])) (registrations P) ≡ rows_after K P
rows_quiet K P = map_each (λ (g : Registration). row_with K P g (calls_to K g.number P ++ [])) (row_after K P) (registrations P) (λ i g at. ap (row_with K P g) (append-nil (calls_to K g.number P)))

-- ---- an entry that changes one row

-- each row of another number stays, and that of the number is changed so
pub rows_step : (show then : Registration → Row) (step : Row → Row) (P : History) (r : ℕ)
    → ((i : ℕ) (g : Registration) → slice_get (registrations P) i ≡ Some g → then g ≡ cond (nat_eq g.number r) (step (show g)) (show g))
    → map then (registrations P) ≡ with_row r step (map show (registrations P))
rows_step show then step P r same =
    map_each then (λ (g : Registration). cond (nat_eq g.number r) (step (show g)) (show g)) (registrations P) same
    ∙ sym (with_row-numbered number_of show step r (registrations P) (numbered P))

-- ---- a name is closed

abbrev show_closed : History → Registration → Bool → List Call → Row
show_closed P g closed made = record {
  name = g.name;
  kinds = kinds_joined g.joining;
  live = not closed;
  place = place_after P g;
  waiting = drop (takes g.number P) made;
}

pub rows_closed : (K : Opening) (P : History) (a n : ℕ) (name : List ℕ) → rows_after K (P ▸ entry.Close a name (Some n)) ≡ with_row n after_close (rows_after K P)
rows_closed K P a n name = rows_step (row_after K P) (row_after K (P ▸ entry.Close a name (Some n))) after_close P n (λ i g at. one g (nat_eq g.number n) refl)
  where
    one : (g : Registration) (b : Bool) → nat_eq g.number n ≡ b → row_after K (P ▸ entry.Close a name (Some n)) g ≡ cond b (after_close (row_after K P g)) (row_after K P g)
    one g true is =
        ap (λ (c : Bool). show_closed P g (c || is_closed g.number P) (calls_to K g.number P ++ [])) (eq_sym g.number n true is)
        ∙ ap (show_closed P g true) (append-nil (calls_to K g.number P))
    one g false is =
        ap (λ (c : Bool). show_closed P g (c || is_closed g.number P) (calls_to K g.number P ++ [])) (eq_sym g.number n false is)
        ∙ ap (show_closed P g (is_closed g.number P)) (append-nil (calls_to K g.number P))

-- ---- an object is handed out

abbrev show_retired : History → Registration → Bool → List Call → Row
show_retired P g retired made = record {
  name = g.name;
  kinds = kinds_joined g.joining;
  live = not (is_closed g.number P);
  place = place_by retired (taken_by g.number P) (home_after P g);
  waiting = drop (takes g.number P) made;
}

pub rows_retired : (K : Opening) (P : History) (a n : ℕ) → rows_after K (P ▸ entry.Retire a n (Ok tt)) ≡ with_row n after_retire (rows_after K P)
rows_retired K P a n = rows_step (row_after K P) (row_after K (P ▸ entry.Retire a n (Ok tt))) after_retire P n (λ i g at. one g (nat_eq g.number n) refl)
  where
    one : (g : Registration) (b : Bool) → nat_eq g.number n ≡ b → row_after K (P ▸ entry.Retire a n (Ok tt)) g ≡ cond b (after_retire (row_after K P g)) (row_after K P g)
    one g true is =
        ap (λ (c : Bool). show_retired P g (c || is_retired g.number P) (calls_to K g.number P ++ [])) (eq_sym g.number n true is)
        ∙ ap (show_retired P g true) (append-nil (calls_to K g.number P))
    one g false is =
        ap (λ (c : Bool). show_retired P g (c || is_retired g.number P) (calls_to K g.number P ++ [])) (eq_sym g.number n false is)
        ∙ ap (show_retired P g (is_retired g.number P)) (append-nil (calls_to K g.number P))

-- ---- a call is taken

abbrev show_taken : History → ℕ → Registration → Bool → Bool → List Call → Row
show_taken P a g retired here made = record {
  name = g.name;
  kinds = kinds_joined g.joining;
  live = not (is_closed g.number P);
  place = place_by retired (cond here (Some a) (taken_by g.number P)) (home_after P g);
  waiting = drop (cond here (takes g.number P + 1) (takes g.number P)) made;
}

pub rows_taken : (K : Opening) (P : History) (a n : ℕ) (call : Call) → is_retired n P ≡ false → rows_after K (P ▸ entry.Take a n call) ≡ with_row n (after_take a) (rows_after K P)
rows_taken K P a n call kept = rows_step (row_after K P) (row_after K (P ▸ entry.Take a n call)) (after_take a) P n (λ i g at. one g (nat_eq g.number n) refl)
  where
    one : (g : Registration) (b : Bool) → nat_eq g.number n ≡ b → row_after K (P ▸ entry.Take a n call) g ≡ cond b (after_take a (row_after K P g)) (row_after K P g)
    one g true is =
        let R : ℕ → Type 0 = λ m. is_retired m P ≡ false in
        let here : is_retired g.number P ≡ false = subst R (sym (eqb-true g.number n is)) kept in
        ap (λ (c : Bool). show_taken P a g (is_retired g.number P) c (calls_to K g.number P ++ [])) (eq_sym g.number n true is)
        ∙ ap (λ (c : Bool). show_taken P a g c true (calls_to K g.number P ++ [])) here
        ∙ ap (show_taken P a g false true) (append-nil (calls_to K g.number P))
        ∙ ap (λ (left : List Call). record {
          name = g.name;
          kinds = kinds_joined g.joining;
          live = not (is_closed g.number P);
          place = PlugOut a;
          waiting = left;
        }) (sym (drop-drop 1 (takes g.number P) (calls_to K g.number P)))
    one g false is =
        ap (λ (c : Bool). show_taken P a g (is_retired g.number P) c (calls_to K g.number P ++ [])) (eq_sym g.number n false is)
        ∙ ap (show_taken P a g (is_retired g.number P) false) (append-nil (calls_to K g.number P))

-- ---- a plug-in comes home

-- a row whose plug-in is out isn't handed out
out_is_kept : (retired : Bool) (taken : Option ℕ) (home : Place PlugTells ProbeTells) (actor : ℕ) → place_by retired taken home ≡ PlugOut actor → retired ≡ false
out_is_kept true taken home actor is = absurd (cc)
out_is_kept false taken home actor is = refl

told_more : (made : List AnsweredCall) (call : Call) (answer : Answer) (told : PlugTells)
    → told_after_all (made ++ record { call = call; answer = answer } ∷ []) told ≡ told_after call answer (told_after_all made told)
told_more [] call answer told = refl
told_more (one ∷ made) call answer told = told_more made call answer (told_after one.call one.answer told)

home_more : (joining : Joining) (made : List AnsweredCall) (call : Call) (answer : Answer) (before : PlugTells) → PlugHome before ≡ home_with joining made
    → home_with joining (made ++ record { call = call; answer = answer } ∷ []) ≡ PlugHome (told_after call answer before)
home_more (Plug kinds config told) made call answer before is =
    let same : told_after_all made told ≡ before = cc in
    ap PlugHome (told_more made call answer told ∙ ap (told_after call answer) same)
home_more (Probe interval now told) made call answer before is = absurd (cc)

abbrev show_given : History → Registration → Bool → Bool → List AnsweredCall → List Call → Row
show_given P g retired here more made = record {
  name = g.name;
  kinds = kinds_joined g.joining;
  live = not (is_closed g.number P);
  place = place_by retired (cond here None (taken_by g.number P)) (home_with g.joining (cond here (answered g.number P ++ more) (answered g.number P)));
  waiting = drop (takes g.number P) made;
}

pub rows_given : (K : Opening) (P : History) (a n : ℕ) (call : Call) (answer : Answer) (told : PlugTells)
    → IsEntered P a n call answer told → At (rows_after K P) n IsPlugOut
    → rows_after K (P ▸ entry.Done a n answer) ≡ with_row n (after_give told) (rows_after K P)
rows_given K P a n call answer told entered out =
    rows_step (row_after K P) (row_after K (P ▸ entry.Done a n answer)) (after_give told) P n (λ i g at. one g (nat_eq g.number n) refl (λ is. only_one number_of (registrations P) i n g entered.lent.told_home.registration (numbered P) at is entered.lent.told_home.registered))
  where
    kept : is_retired n P ≡ false
    kept =
        let found = at_shown (row_after K P) (registrations P) n IsPlugOut out in
        let R : ℕ → Type 0 = λ m. is_retired m P ≡ false in
        subst R (number_at number_of (registrations P) n found.0 (numbered P) found.1)
        (out_is_kept (is_retired found.0.number P) (taken_by found.0.number P) (home_after P found.0) found.2.actor found.2.out)

    one : (g : Registration) (b : Bool) → nat_eq g.number n ≡ b → (g.number ≡ n → g ≡ entered.lent.told_home.registration)
        → row_after K (P ▸ entry.Done a n answer) g ≡ cond b (after_give told (row_after K P g)) (row_after K P g)
    one g true is known =
        let same : g.number ≡ n = eqb-true g.number n is in
        let R : ℕ → Type 0 = λ m. is_retired m P ≡ false in
        let H : Registration → Type 0 = λ h. PlugHome entered.before ≡ home_with h.joining (answered h.number P) in
        let O : ℕ → Type 0 = λ m. call_out m P ≡ Some call in
        let home : PlugHome entered.before ≡ home_with g.joining (answered g.number P) = subst H (sym (known same)) entered.lent.told_home.tells in
        let out_for : call_out g.number P ≡ Some call = subst O (sym same) entered.lent.out_for in
        ap (λ (c : Bool). show_given P g (is_retired g.number P) c (answered_one (call_out g.number P) answer) (calls_to K g.number P ++ [])) (eq_sym g.number n true is)
        ∙ ap (λ (c : Bool). show_given P g c true (answered_one (call_out g.number P) answer) (calls_to K g.number P ++ [])) (subst R (sym same) kept)
        ∙ ap (λ (o : Option Call). show_given P g false true (answered_one o answer) (calls_to K g.number P ++ [])) out_for
        ∙ ap (show_given P g false true (answered_one (Some call) answer)) (append-nil (calls_to K g.number P))
        ∙ ap (λ (place : Place PlugTells ProbeTells). record {
          name = g.name;
          kinds = kinds_joined g.joining;
          live = not (is_closed g.number P);
          place = place;
          waiting = waiting_for K g.number P;
        }) (home_more g.joining (answered g.number P) call answer entered.before home ∙ ap PlugHome (sym entered.tells))
    one g false is known =
        ap (λ (c : Bool). show_given P g (is_retired g.number P) c (answered_one (call_out g.number P) answer) (calls_to K g.number P ++ [])) (eq_sym g.number n false is)
        ∙ ap (show_given P g (is_retired g.number P) false (answered_one (call_out g.number P) answer)) (append-nil (calls_to K g.number P))

-- ---- calls are made

-- calls are put behind those that wait
abbrev pub with_calls : List Call → Row → Row
with_calls more row = record row { waiting = row.waiting ++ more }

-- the rows with calls posted in order
abbrev pub posted : List Post → List Row → List Row
posted [] rows = rows
posted (p ∷ posts) rows = posted posts (with_row p.reg (after_post p.call) rows)

posted_by : (show : Registration → Row) (P : History) (posts : List Post) → posted posts (map show (registrations P)) ≡ map (λ (g : Registration). with_calls (sent_to g.number posts) (show g)) (registrations P)
posted_by show P [] = map_each show (λ (g : Registration). with_calls [] (show g)) (registrations P) (λ i g at. ap (λ (left : List Call). record (show g) { waiting = left }) (sym (append-nil (show g).waiting)))
posted_by show P (p ∷ posts) =
    ap (posted posts) (with_row-numbered number_of show (after_post p.call) p.reg (registrations P) (numbered P))
    ∙ posted_by (λ (g : Registration). cond (nat_eq g.number p.reg) (after_post p.call (show g)) (show g)) P posts
    ∙ map_each _ _ (registrations P) (λ i g at. one g (nat_eq g.number p.reg) refl)
  where
    one : (g : Registration) (b : Bool) → nat_eq g.number p.reg ≡ b
        → with_calls (sent_to g.number posts) (cond (nat_eq g.number p.reg) (after_post p.call (show g)) (show g)) ≡ with_calls (sent_to g.number (p ∷ posts)) (show g)
    one g true is = rw (is, eq_sym g.number p.reg true is) (ap (λ (left : List Call). record (show g) { waiting = left }) (append_assoc (show g).waiting (p.call ∷ []) (sent_to g.number posts)))
    one g false is = rw (is, eq_sym g.number p.reg false is) refl

pub rows_posted : (K : Opening) (P : History) (posts : List Post) → IsLegal K P
    → map (λ (g : Registration). row_with K P g (calls_to K g.number P ++ sent_to g.number posts)) (registrations P) ≡ posted posts (rows_after K P)
rows_posted K P posts legal =
    map_each (λ (g : Registration). row_with K P g (calls_to K g.number P ++ sent_to g.number posts)) (λ (g : Registration). with_calls (sent_to g.number posts) (row_after K P g)) (registrations P)
    (λ i g at. ap (λ (left : List Call). record (row_after K P g) { waiting = left }) (drop-append-le (takes g.number P) (calls_to K g.number P) (sent_to g.number posts) (taken_of_made K P g.number legal)))
    ∙ sym (posted_by (row_after K P) P posts)
