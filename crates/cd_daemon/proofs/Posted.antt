-- To whom the calls go that an entry makes.
use Rattle.cd_daemon.proofs.Legality.{number_of}
use Rattle.cd_daemon.proofs.Lists.{all_filter, all_map}
use Rattle.cd_daemon.specs.Flushes.{flush_calls_to, flush_posts, flusher_named, names_meant, plugins_meant}
use Rattle.cd_daemon.proofs.Writers.{hold-handling, is_write, writes-handling}
use Rattle.cd_daemon.specs.Calls.{cache_after, sent_to}
use Rattle.cd_daemon.specs.Handling.{handling_if_any, next_handling, next_list}
use Rattle.cd_daemon.specs.Performing.{Post}
use Rattle.cd_daemon.specs.declared.Opening.{Opening}
use Rattle.cd_history.specs.History.{History}
use Rattle.cd_history.specs.Registrations.{Registration, has_kind, is_text, listeners, live}
use Rattle.cd_registry.specs.declared.calls.Call.TheVariants as calls
use Rattle.cd_registry.specs.declared.kinds.Kinds.{Kinds}
use Rattle.cd_registry.specs.declared.kinds.TheConstants.Kinds.{FLUSH, WRITE}
use Rattle.cd_value.specs.declared.data.FlushRequest.{FlushRequest}
use Rattle.cd_value.specs.declared.data.ValueList.{ValueList}
use Rattle.std.proofs.Common.{Bool, List, None, Option, Some, [], ap, arith, cond, false, map, nat_eq, nat_lt, refl, sym, true, ℕ, ◌&&◌, ◌++◌, ◌∙◌, ◌∷◌, ◌≡◌, ◌≤◌}
use Rattle.std.proofs.lemmas.Bool.{and_parts, ltb-true, ne_eqb}
use Rattle.std.specs.List.{filter, find, flat_map, list_all}
use Rattle.std.specs.Option.{option_map}

all_append : (h : ℕ → Bool) (xs ys : List Post) → list_all (λ (p : Post). h p.reg) xs ≡ true → list_all (λ (p : Post). h p.reg) ys ≡ true → list_all (λ (p : Post). h p.reg) (xs ++ ys) ≡ true
all_append h [] ys first then = then
all_append h (x ∷ xs) ys first then =
    let two = and_parts (h x.reg) (list_all (λ (p : Post). h p.reg) xs) first in rw (two.0, all_append h xs ys two.1 then) refl

-- ---- the calls of a flush

abbrev if_any : (ℕ → Bool) → Option ℕ → Bool
if_any h None = true
if_any h (Some r) = h r

all_some : (h : ℕ → Bool) (ns : List ℕ) → list_all h ns ≡ true → list_all (if_any h) (map Some ns) ≡ true
all_some h [] all = refl
all_some h (n ∷ ns) all = let two = and_parts (h n) (list_all h ns) all in rw two.0 (all_some h ns two.1)

-- the numbers of live registrations of a kind
listeners_hold : (h : ℕ → Bool) (kind : Kinds) (regs : List Registration) → list_all (λ (g : Registration). h g.number) regs ≡ true → list_all h (listeners kind regs) ≡ true
listeners_hold h kind regs all = all_map number_of h (filter (has_kind kind) regs) (all_filter (λ (g : Registration). h g.number) (has_kind kind) regs all)

flusher_holds : (h : ℕ → Bool) (regs : List Registration) (name : List ℕ) → list_all h (listeners FLUSH regs) ≡ true → if_any h (flusher_named regs name) ≡ true
flusher_holds h [] name all = refl
flusher_holds h (g ∷ regs) name all = by (is_text g.name name) (has_kind FLUSH g) (flusher_holds h regs name) all
  where
    by : (same flushed : Bool) → (list_all h (listeners FLUSH regs) ≡ true → if_any h (flusher_named regs name) ≡ true)
        → list_all h (map (λ (g : Registration). g.number) (cond flushed (g ∷ filter (has_kind FLUSH) regs) (filter (has_kind FLUSH) regs))) ≡ true
        → if_any h (option_map (λ (g : Registration). g.number) (cond (same && flushed) (Some g) (find (λ (g : Registration). is_text g.name name && has_kind FLUSH g) regs))) ≡ true
    by true true rest all = (and_parts (h g.number) (list_all h (listeners FLUSH regs)) all).0
    by false true rest all = rest (and_parts (h g.number) (list_all h (listeners FLUSH regs)) all).1
    by true false rest all = rest all
    by false false rest all = rest all

flushers_hold : (h : ℕ → Bool) (regs : List Registration) (names : List (List ℕ)) → list_all h (listeners FLUSH regs) ≡ true → list_all (if_any h) (map (flusher_named regs) names) ≡ true
flushers_hold h regs [] all = refl
flushers_hold h regs (name ∷ names) all = rw (flusher_holds h regs name all) (flushers_hold h regs names all)

meant_hold : (h : ℕ → Bool) (request : FlushRequest) (regs : List Registration) → list_all h (listeners FLUSH regs) ≡ true → list_all (if_any h) (plugins_meant request regs) ≡ true
meant_hold h request regs all = by request.plugins
  where
    by : (plugins : List (List ℕ)) → list_all (if_any h) (elim plugins as (λ p. List (Option ℕ)) [ [] ↦ map Some (listeners FLUSH regs) | name ∷ more ↦ map (flusher_named regs) (name ∷ more) ]) ≡ true
    by [] = all_some h (listeners FLUSH regs) all
    by (name ∷ more) = flushers_hold h regs (name ∷ more) all

calls_hold : (h : ℕ → Bool) (number : ℕ) (request : FlushRequest) (plugin : Option ℕ) → if_any h plugin ≡ true → list_all (λ (p : Post). h p.reg) (flush_calls_to number request plugin) ≡ true
calls_hold h number request None holds = refl
calls_hold h number request (Some r) holds = each (names_meant request)
  where
    each : (names : List (Option (List ℕ))) → list_all (λ (p : Post). h p.reg) (map (λ name. record { reg = r; call = calls.Flush number request.timeout name }) names) ≡ true
    each [] = refl
    each (name ∷ names) = rw holds (each names)

-- what holds of each that is flushed holds of those that are called
pub hold-flushed : (h : ℕ → Bool) (number : ℕ) (request : FlushRequest) (regs : List Registration) → list_all h (listeners FLUSH regs) ≡ true
    → list_all (λ (p : Post). h p.reg) (flush_posts number request regs) ≡ true
hold-flushed h number request regs all = each (plugins_meant request regs) (meant_hold h request regs all)
  where
    each : (plugins : List (Option ℕ)) → list_all (if_any h) plugins ≡ true → list_all (λ (p : Post). h p.reg) (flat_map (flush_calls_to number request) plugins) ≡ true
    each [] holds = refl
    each (plugin ∷ plugins) holds =
        let two = and_parts (if_any h plugin) (list_all (if_any h) plugins) holds in
        all_append h (flush_calls_to number request plugin) _ (calls_hold h number request plugin two.0) (each plugins two.1)

pub hold-flush : (h : ℕ → Bool) (number : ℕ) (request : FlushRequest) (regs : List Registration) → list_all (λ (g : Registration). h g.number) regs ≡ true
    → list_all (λ (p : Post). h p.reg) (flush_posts number request regs) ≡ true
hold-flush h number request regs all = hold-flushed h number request regs (listeners_hold h FLUSH regs all)

-- ---- the calls of a Handle

-- .. and so it is with writers
pub hold-written : (h : ℕ → Bool) (K : Opening) (P : History) (now : ℕ) → list_all h (listeners WRITE (live P)) ≡ true
    → list_all (λ (p : Post). h p.reg) (next_handling K (cache_after K P) P now).posts ≡ true
hold-written h K P now all = by (next_list P)
  where
    by : (o : Option ValueList) → list_all (λ (p : Post). h p.reg) (handling_if_any K (cache_after K P) (live P) o now).posts ≡ true
    by None = refl
    by (Some list) = hold-handling h (live P) all K (cache_after K P) list now

pub hold-next : (h : ℕ → Bool) (K : Opening) (P : History) (now : ℕ) → list_all (λ (g : Registration). h g.number) (live P) ≡ true
    → list_all (λ (p : Post). h p.reg) (next_handling K (cache_after K P) P now).posts ≡ true
hold-next h K P now all = hold-written h K P now (listeners_hold h WRITE (live P) all)

-- all of them are writes
pub next-writes : (K : Opening) (P : History) (now : ℕ) → list_all (λ (p : Post). is_write p.call) (next_handling K (cache_after K P) P now).posts ≡ true
next-writes K P now = by (next_list P)
  where
    by : (o : Option ValueList) → list_all (λ (p : Post). is_write p.call) (handling_if_any K (cache_after K P) (live P) o now).posts ≡ true
    by None = refl
    by (Some list) = writes-handling (live P) K (cache_after K P) list now

-- ---- none go where nothing holds

pub sent_none : (h : ℕ → Bool) (r : ℕ) (posts : List Post) → list_all (λ (p : Post). h p.reg) posts ≡ true → h r ≡ false → sent_to r posts ≡ []
sent_none h r [] all never = refl
sent_none h r (p ∷ posts) all never =
    let two = and_parts (h p.reg) (list_all (λ (p : Post). h p.reg) posts) all in
    let other : nat_eq p.reg r ≡ false = ne_eqb p.reg r (λ e. let both : true ≡ false = sym two.0 ∙ ap h e ∙ never in absurd (cc)) in
    rw other (sent_none h r posts two.1 never)

-- ---- none go to a number that isn't known

pub sent_nowhere : (r n : ℕ) (posts : List Post) → list_all (λ (p : Post). nat_lt p.reg n) posts ≡ true → n ≤ r → sent_to r posts ≡ []
sent_nowhere r n [] all past = refl
sent_nowhere r n (p ∷ posts) all past =
    let two = and_parts (nat_lt p.reg n) (list_all (λ (p : Post). nat_lt p.reg n) posts) all in
    let below = ltb-true p.reg n two.0 in
    let other : nat_eq p.reg r ≡ false = ne_eqb p.reg r (λ e. omega arith) in
    rw other (sent_nowhere r n posts two.1 past)
