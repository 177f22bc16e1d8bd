-- Room for calls that are posted one after another.
use Rattle.cd_core.proofs.Rows.{eq_sym}
use Rattle.cd_core.specs.Posting.{AreToEachOnce, HasRoom, IsAmong, after_post_live, count_to, is_above, posted_live, write_if_any}
use Rattle.cd_daemon.proofs.Lists.{filter_append}
use Rattle.cd_daemon.specs.Performing.{Post}
use Rattle.cd_registry.specs.Registry.{KeepsRoom, UsesRoom, rows, spare_of}
use Rattle.cd_registry.specs.Rows.{At, IsLive, Row, after_post, with_row}
use Rattle.cd_registry.specs.declared.calls.Call.TheVariants as calls
use Rattle.cd_registry.specs.declared.calls.Call.{Call}
use Rattle.cd_registry.specs.declared.plug.PlugTells.{PlugTells}
use Rattle.cd_registry.specs.declared.probe.ProbeTells.{ProbeTells}
use Rattle.cd_registry.specs.declared.registry.Registry.{Registry}
use Rattle.cd_value.specs.declared.data.ValueList.{ValueList}
use Rattle.std.proofs.Common.{Bool, List, None, Option, Some, [], ap, append-nil, arith, cond, eq-eqb, false, get_or, inl, inr, length, length-append, nat_eq, refl, subst, suc, sym, take, true, zero, ℕ, ◌++◌, ◌+◌, ◌-◌, ◌<◌, ◌∙◌, ◌∷◌, ◌≡◌, ◌≢◌, ◌≤◌, ◌⊎◌, ◌||◌}
use Rattle.std.proofs.lemmas.Bool.{eqb-true, lt-ltb, ltb-true, ne_eqb, or_right}
use Rattle.std.proofs.lemmas.List.{take_more}
use Rattle.std.specs.List.{filter, list_any}

-- ---- a row that isn't live stays, and one that is gets the call

pub not_posted : (rows : List Row) (reg : ℕ) (call : Call) → (At rows reg IsLive → ⊥) → rows ≡ with_row reg (after_post_live call) rows
not_posted [] reg call none = refl
not_posted (row ∷ rows) zero call none = by row.live refl
  where
    by : (b : Bool) → row.live ≡ b → row ∷ rows ≡ cond b (after_post call row) row ∷ rows
    by true is = absurd (none is)
    by false is = refl
not_posted (row ∷ rows) (suc reg) call none = ap (λ (more : List Row). row ∷ more) (not_posted rows reg call none)

pub is_posted : (rows : List Row) (reg : ℕ) (call : Call) → At rows reg IsLive → with_row reg (after_post call) rows ≡ with_row reg (after_post_live call) rows
is_posted [] reg call live = refl
is_posted (row ∷ rows) zero call live = ap (λ (b : Bool). cond b (after_post call row) row ∷ rows) (sym live)
is_posted (row ∷ rows) (suc reg) call live = ap (λ (more : List Row). row ∷ more) (is_posted rows reg call live)

-- who is live then was so before
pub live_before : (rows : List Row) (reg r : ℕ) (call : Call) → At (with_row reg (after_post_live call) rows) r IsLive → At rows r IsLive
live_before [] reg r call live = live
live_before (row ∷ rows) zero zero call live = by row.live refl live
  where
    by : (b : Bool) → row.live ≡ b → (cond b (after_post call row) row).live ≡ true → row.live ≡ true
    by true is l = is
    by false is l = l
live_before (row ∷ rows) zero (suc r) call live = live
live_before (row ∷ rows) (suc reg) zero call live = live
live_before (row ∷ rows) (suc reg) (suc r) call live = live_before rows reg r call live

-- ---- how many of the calls go to one

abbrev one : Bool → ℕ
one b = cond b 1 0

pub count_cons : (r : ℕ) (p : Post) (posts : List Post) → count_to r (p ∷ posts) ≡ one (nat_eq p.reg r) + count_to r posts
count_cons r p posts = by (nat_eq p.reg r)
  where
    by : (b : Bool) → length (cond b (p ∷ filter (λ (q : Post). nat_eq q.reg r) posts) (filter (λ (q : Post). nat_eq q.reg r) posts)) ≡ one b + count_to r posts
    by true = omega arith
    by false = omega arith

pub count_append : (r : ℕ) (xs ys : List Post) → count_to r (xs ++ ys) ≡ count_to r xs + count_to r ys
count_append r xs ys =
    ap length (filter_append (λ (p : Post). nat_eq p.reg r) xs ys)
    ∙ length-append (filter (λ (p : Post). nat_eq p.reg r) xs) (filter (λ (p : Post). nat_eq p.reg r) ys)

count_push : (r : ℕ) (xs : List Post) (p : Post) → count_to r (xs ++ p ∷ []) ≡ count_to r xs + one (nat_eq p.reg r)
count_push r xs p = omega (arith, count_append r xs (p ∷ []), count_cons r p [])

none_to : (r : ℕ) (posts : List Post) → list_any (λ (p : Post). nat_eq p.reg r) posts ≡ false → count_to r posts ≡ 0
none_to r [] none = refl
none_to r (p ∷ posts) none = by (nat_eq p.reg r) none (none_to r posts)
  where
    by : (b : Bool) → (b || list_any (λ (q : Post). nat_eq q.reg r) posts) ≡ false → (list_any (λ (q : Post). nat_eq q.reg r) posts ≡ false → count_to r posts ≡ 0)
        → length (cond b (p ∷ filter (λ (q : Post). nat_eq q.reg r) posts) (filter (λ (q : Post). nat_eq q.reg r) posts)) ≡ 0
    by true none rest = absurd (cc)
    by false none rest = rest none

any_append : (r : ℕ) (xs ys : List Post) → IsAmong (xs ++ ys) r → IsAmong xs r ⊎ IsAmong ys r
any_append r [] ys among = inr among
any_append r (x ∷ xs) ys among = by (nat_eq x.reg r) among (any_append r xs ys)
  where
    by : (b : Bool) → (b || list_any (λ (q : Post). nat_eq q.reg r) (xs ++ ys)) ≡ true → (IsAmong (xs ++ ys) r → IsAmong xs r ⊎ IsAmong ys r)
        → ((b || list_any (λ (q : Post). nat_eq q.reg r) xs) ≡ true) ⊎ IsAmong ys r
    by true among rest = inl refl
    by false among rest = rest among

-- the last of the first ones
pub among_last : (posts : List Post) (at r : ℕ) (p : Post) → at ≢ 0 → at - 1 < length posts → p ≡ get_or posts (at - 1) p → nat_eq p.reg r ≡ true → IsAmong (take at posts) r
among_last posts at r p some within is to =
    let I : List Post → Type 0 = λ xs. IsAmong xs r in
    let M : ℕ → Type 0 = λ n. IsAmong (take n posts) r in
    let next : at - 1 + 1 ≡ at = omega (arith, some) in
    subst M next (subst I (ap (λ (q : Post). take (at - 1) posts ++ q ∷ []) is ∙ sym (take_more posts (at - 1) p within)) (any_last (take (at - 1) posts)))
  where
    any_last : (xs : List Post) → IsAmong (xs ++ p ∷ []) r
    any_last [] = rw to refl
    any_last (x ∷ xs) = or_right (nat_eq x.reg r) (list_any (λ (q : Post). nat_eq q.reg r) (xs ++ p ∷ [])) (any_last xs)

-- ---- calls that rise

pub record Rising (posts : List Post) (last : Option ℕ) : Type 0 where
  pub once : AreToEachOnce posts
  pub none_above : (r : ℕ) → is_above r last ≡ true → count_to r posts ≡ 0

pub none_yet : Rising [] None
none_yet = record { once = λ r. omega arith; none_above = λ r above. refl }

pub rises_on : (posts : List Post) (p : Post) (last : Option ℕ) → Rising posts last → is_above p.reg last ≡ true → Rising (posts ++ p ∷ []) (Some p.reg)
rises_on posts p last before above = record {
  once = λ r. here r (nat_eq p.reg r) refl;
  none_above = λ r higher.
      let lower : p.reg < r = ltb-true p.reg r higher in
      let other : nat_eq p.reg r ≡ false = ne_eqb p.reg r (λ same. omega (arith, same, lower)) in
      let none : one (nat_eq p.reg r) ≡ 0 = ap one other in
      omega (arith, count_push r posts p, none, before.none_above r (above_all last r lower above));
}
  where
    above_all : (last : Option ℕ) (r : ℕ) → p.reg < r → is_above p.reg last ≡ true → is_above r last ≡ true
    above_all None r lower above = refl
    above_all (Some other) r lower above = lt-ltb other r (let under : other < p.reg = ltb-true other p.reg above in omega (arith, under, lower))

    here : (r : ℕ) (b : Bool) → nat_eq p.reg r ≡ b → count_to r (posts ++ p ∷ []) ≤ 1
    here r true is =
        let C : ℕ → Type 0 = λ n. count_to n posts ≡ 0 in
        let none : count_to r posts ≡ 0 = subst C (eqb-true p.reg r is) (before.none_above p.reg above) in
        let last_one : one (nat_eq p.reg r) ≡ 1 = ap one is in
        omega (arith, count_push r posts p, none, last_one)
    here r false is =
        let none : one (nat_eq p.reg r) ≡ 0 = ap one is in
        let few = before.once r in
        omega (arith, count_push r posts p, none, few)

-- one call further
pub rises_more : (posts : List Post) (i : ℕ) (p : Post) (last : Option ℕ) → i < length posts → p ≡ get_or posts i p → Rising (take i posts) last → is_above p.reg last ≡ true
    → Rising (take (i + 1) posts) (Some p.reg)
rises_more posts i p last within is before above =
    let R : List Post → Type 0 = λ xs. Rising xs (Some p.reg) in
    subst R (ap (λ (q : Post). take i posts ++ q ∷ []) is ∙ sym (take_more posts i p within)) (rises_on (take i posts) p last before above)

-- ---- room

module _ {P Q : Type 0} (plug : P → PlugTells) (probe : Q → ProbeTells) where
  -- at each to which one of the calls goes
  pub room_for_all : (posts : List Post) (registry : Registry P Q)
      → ((r : ℕ) → IsAmong posts r → At (rows plug probe registry) r IsLive → count_to r posts ≤ spare_of registry r) → HasRoom plug probe posts registry
  room_for_all posts registry each r live = by (list_any (λ (p : Post). nat_eq p.reg r) posts) refl
    where
      by : (b : Bool) → list_any (λ (p : Post). nat_eq p.reg r) posts ≡ b → count_to r posts ≤ spare_of registry r
      by true among = each r among live
      by false none = omega (arith, none_to r posts none)

  -- .. one call further
  pub reserved_more : (posts : List Post) (i : ℕ) (p : Post) (old new : Registry P Q) → i < length posts → p ≡ get_or posts i p → rows plug probe new ≡ rows plug probe old → KeepsRoom old new
      → (At (rows plug probe old) p.reg IsLive → (IsAmong (take i posts) p.reg → count_to p.reg posts ≤ spare_of new p.reg) → count_to p.reg posts ≤ spare_of new p.reg)
      → ((r : ℕ) → IsAmong (take i posts) r → At (rows plug probe old) r IsLive → count_to r posts ≤ spare_of old r)
      → (r : ℕ) → IsAmong (take (i + 1) posts) r → At (rows plug probe new) r IsLive → count_to r posts ≤ spare_of new r
  reserved_more posts i p old new within is same keeps made before r among live =
      let I : List Post → Type 0 = λ xs. IsAmong xs r in
      let next : take (i + 1) posts ≡ take i posts ++ p ∷ [] = take_more posts i p within ∙ ap (λ (q : Post). take i posts ++ q ∷ []) (sym is) in
      by (any_append r (take i posts) (p ∷ []) (subst I next among))
    where
      was : At (rows plug probe old) r IsLive
      was = let A : List Row → Type 0 = λ rows. At rows r IsLive in subst A same live

      earlier : IsAmong (take i posts) r → count_to r posts ≤ spare_of new r
      earlier there = let had = before r there was in let kept = keeps r in omega (arith, had, kept)

      here : (b : Bool) → nat_eq p.reg r ≡ b → (b || false) ≡ true → count_to r posts ≤ spare_of new r
      here true same_one e =
          let M : ℕ → Type 0 = λ n. At (rows plug probe old) n IsLive → (IsAmong (take i posts) n → count_to n posts ≤ spare_of new n) → count_to n posts ≤ spare_of new n in
          subst M (eqb-true p.reg r same_one) made was earlier
      here false same_one e = absurd (cc)

      by : IsAmong (take i posts) r ⊎ IsAmong (p ∷ []) r → count_to r posts ≤ spare_of new r
      by (inl there) = earlier there
      by (inr at) = here (nat_eq p.reg r) refl at

  -- for one call more
  pub room_for_last : (posts : List Post) (list : ValueList) (reg : ℕ) (old new : Registry P Q) → HasRoom plug probe posts old → rows plug probe new ≡ rows plug probe old → KeepsRoom old new
      → (At (rows plug probe old) reg IsLive → count_to reg posts + 1 ≤ spare_of new reg) → HasRoom plug probe (posts ++ write_if_any list (Some reg)) new
  room_for_last posts list reg old new has same keeps more r live = by (nat_eq reg r) refl
    where
      was : At (rows plug probe old) r IsLive
      was = let A : List Row → Type 0 = λ rows. At rows r IsLive in subst A same live

      by : (b : Bool) → nat_eq reg r ≡ b → count_to r (posts ++ write_if_any list (Some reg)) ≤ spare_of new r
      by true is =
          let M : ℕ → Type 0 = λ n. At (rows plug probe old) n IsLive → count_to n posts + 1 ≤ spare_of new n in
          let enough = subst M (eqb-true reg r is) more was in
          let last_one : one (nat_eq reg r) ≡ 1 = ap one is in
          omega (arith, count_push r posts (record { reg = reg; call = calls.Write list }), last_one, enough)
      by false is =
          let none : one (nat_eq reg r) ≡ 0 = ap one is in
          let had = has r was in
          let kept = keeps r in
          omega (arith, count_push r posts (record { reg = reg; call = calls.Write list }), none, had, kept)

  -- .. or for no more
  pub room_for_none : (posts : List Post) (registry : Registry P Q) → HasRoom plug probe posts registry → HasRoom plug probe (posts ++ []) registry
  room_for_none posts registry has = let H : List Post → Type 0 = λ xs. HasRoom plug probe xs registry in subst H (sym (append-nil posts)) has

  -- one is posted of those that are left
  pub room_left : (p : Post) (posts : List Post) (old new : Registry P Q)
      → HasRoom plug probe (p ∷ posts) old → rows plug probe new ≡ with_row p.reg (after_post_live p.call) (rows plug probe old) → UsesRoom p.reg 1 old new
      → HasRoom plug probe posts new
  room_left p posts old new has changed uses r live =
      let A : List Row → Type 0 = λ rows. At rows r IsLive in
      let was : At (rows plug probe old) r IsLive = live_before (rows plug probe old) p.reg r p.call (subst A changed live) in
      let had = has r was in
      let U : Bool → Type 0 = λ b. spare_of old r ≤ spare_of new r + one b in
      let used : spare_of old r ≤ spare_of new r + one (nat_eq p.reg r) = subst U (eq_sym p.reg r (nat_eq p.reg r) refl) (uses r) in
      omega (arith, had, used, count_cons r p posts)

  -- the first of them has room
  pub room_here : (p : Post) (posts : List Post) (registry : Registry P Q) → HasRoom plug probe (p ∷ posts) registry → At (rows plug probe registry) p.reg IsLive → 0 < spare_of registry p.reg
  room_here p posts registry has live =
      let had = has p.reg live in
      let here : one (nat_eq p.reg p.reg) ≡ 1 = ap one (eq-eqb p.reg p.reg refl) in
      omega (arith, had, here, count_cons p.reg p posts)

  -- one is posted of those that are left, where there is room for more besides
  pub next_room : (p : Post) (items rest more : List Post) (old new : Registry P Q) → items ≡ p ∷ rest → HasRoom plug probe (items ++ more) old
      → rows plug probe new ≡ with_row p.reg (after_post_live p.call) (rows plug probe old) → UsesRoom p.reg 1 old new → HasRoom plug probe (rest ++ more) new
  next_room p items rest more old new front has changed uses =
      let H : List Post → Type 0 = λ xs. HasRoom plug probe (xs ++ more) old in
      room_left p (rest ++ more) old new (subst H front has) changed uses

  pub next_bare : (p : Post) (items rest : List Post) (old new : Registry P Q) → items ≡ p ∷ rest → HasRoom plug probe items old
      → rows plug probe new ≡ with_row p.reg (after_post_live p.call) (rows plug probe old) → UsesRoom p.reg 1 old new → HasRoom plug probe rest new
  next_bare p items rest old new front has changed uses =
      let H : List Post → Type 0 = λ xs. HasRoom plug probe xs old in
      room_left p rest old new (subst H front has) changed uses

  pub next_rows : (p : Post) (items rest : List Post) (old new : Registry P Q) → items ≡ p ∷ rest
      → rows plug probe new ≡ with_row p.reg (after_post_live p.call) (rows plug probe old)
      → posted_live rest (rows plug probe new) ≡ posted_live items (rows plug probe old)
  next_rows p items rest old new front changed =
      ap (posted_live rest) changed ∙ ap (λ (xs : List Post). posted_live xs (rows plug probe old)) (sym front)

  -- none is left
  pub last_room : (items more : List Post) (registry : Registry P Q) → items ≡ [] → HasRoom plug probe (items ++ more) registry → HasRoom plug probe more registry
  last_room items more registry none has =
      let H : List Post → Type 0 = λ xs. HasRoom plug probe (xs ++ more) registry in
      subst H none has

pub posted_append : (xs ys : List Post) (rows : List Row) → posted_live (xs ++ ys) rows ≡ posted_live ys (posted_live xs rows)
posted_append [] ys rows = refl
posted_append (x ∷ xs) ys rows = posted_append xs ys (with_row x.reg (after_post_live x.call) rows)
