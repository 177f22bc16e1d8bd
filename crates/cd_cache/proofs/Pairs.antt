-- An index that follows its map.
use Rattle.cd_cache.specs.Index.{IsIndexOf, expires_at, found, has, is_same, pair_order}
use Rattle.cd_cache.specs.Lost.{expiry}
use Rattle.cd_cache.specs.declared.entry.CacheEntry.{CacheEntry}
use Rattle.std.proofs.Common.{Bool, List, None, Option, Some, ap, ap₂, arith, cond, false, refl, sym, true, ℕ, ◌&&◌, ◌==◌, ◌∙◌, ◌≡◌, ◌≢◌}
use Rattle.std.proofs.lemmas.Map.Text.{is_eq-slice_cmp}
use Rattle.std.proofs.lemmas.Slice.Eq.{bytes_eq-Decides}
use Rattle.std.specs.Cmp.{unsigned_tied}
use Rattle.std.specs.Option.{is_some}
use Rattle.std.specs.Ordering.{is_eq, ordering_then}
use Rattle.std.specs.Str.{bytes_eq}
use Rattle.std.specs.declared.cmp.Ordering.TheVariants.{Equal, Greater, Less}
use Rattle.std.specs.declared.cmp.Ordering.{Ordering}

then_eq : (o p : Ordering) → is_eq (ordering_then o p) ≡ (is_eq o && is_eq p)
then_eq Less p = refl
then_eq Equal p = refl
then_eq Greater p = refl

-- two pairs compare as equal exactly where they are the same
pub is_pair : (a b : ℕ × List ℕ) → is_eq (pair_order a b) ≡ is_same a b
is_pair a b = then_eq _ _ ∙ ap₂ (λ (s t : Bool). s && t) (unsigned_tied a.0 b.0) (is_eq-slice_cmp a.1 b.1)

-- the pair that is put stands, whether it was the one that is taken out
pub stays_put : (same had : Bool) → (same ≡ true → had ≡ true) → had ≡ cond same true (cond same false had)
stays_put true had h = h refl
stays_put false had h = refl

-- to take out and to put may change places, where the two pairs differ
pub either_way : (there here had : Bool) → (there ≡ true → here ≡ true → false ≡ true) → cond here false (cond there true had) ≡ cond there true (cond here false had)
either_way true true had h = h refl refl
either_way true false had h = refl
either_way false true had h = refl
either_way false false had h = refl

and_false : (s : Bool) → (s && false) ≡ false
and_false true = refl
and_false false = refl

and_true : (s : Bool) → (s && true) ≡ s
and_true true = refl
and_true false = refl

-- a pair at the name of an entry that is put in the place of another
pub shifted : (timeout from to at : ℕ) (entry : CacheEntry) (o : Option CacheEntry) (same had : Bool) → to ≡ expiry timeout entry → (same ≡ true → (before : CacheEntry) × (o ≡ Some before) × (from ≡ expiry timeout before))
    → had ≡ expires_at timeout at o
    → cond ((to == at) && same) true (cond ((from == at) && same) false had) ≡ expires_at timeout at (cond same (Some entry) o)
shifted timeout from to at entry o true had is_to is_from is =
    let was = is_from refl in
    let had_is : had ≡ (from == at) = is ∙ ap (expires_at timeout at) was.1 ∙ ap (λ e. e == at) (sym was.2) in
    rw (and_true (to == at), and_true (from == at), had_is, ← is_to) (two (to == at) (from == at))
  where
    two : (t f : Bool) → cond t true (cond f false f) ≡ t
    two true f = refl
    two false true = refl
    two false false = refl
shifted timeout from to at entry o false had is_to is_from is = rw (and_false (to == at), and_false (from == at)) is

-- a pair at the name of a first entry
pub added : (timeout to at : ℕ) (entry : CacheEntry) (o : Option CacheEntry) (same had : Bool) → to ≡ expiry timeout entry → (same ≡ true → o ≡ None)
    → had ≡ expires_at timeout at o
    → cond ((to == at) && same) true had ≡ expires_at timeout at (cond same (Some entry) o)
added timeout to at entry o true had is_to is_none is =
    let none : had ≡ false = is ∙ ap (expires_at timeout at) (is_none refl) in
    rw (and_true (to == at), none, ← is_to) (one (to == at))
  where
    one : (t : Bool) → cond t true false ≡ t
    one true = refl
    one false = refl
added timeout to at entry o false had is_to is_none is = rw (and_false (to == at)) is

-- a pair that was put and is taken out again, at a name without an entry
pub restored : (timeout to at : ℕ) (o : Option CacheEntry) (same had : Bool) → (same ≡ true → o ≡ None) → had ≡ expires_at timeout at o
    → cond ((to == at) && same) false (cond ((to == at) && same) true had) ≡ expires_at timeout at o
restored timeout to at o true had is_none is =
    let none : had ≡ false = is ∙ ap (expires_at timeout at) (is_none refl) in
    rw (and_true (to == at), none, is_none refl) (out (to == at))
  where
    out : (t : Bool) → cond t false (cond t true false) ≡ false
    out true = refl
    out false = refl
restored timeout to at o false had is_none is = rw (and_false (to == at)) is

-- a pair that is taken out with its name's entry
pub removed : (timeout from at : ℕ) (o : Option CacheEntry) (same had : Bool) → (same ≡ true → (before : CacheEntry) × (o ≡ Some before) × (from ≡ expiry timeout before))
    → had ≡ expires_at timeout at o
    → cond ((from == at) && same) false had ≡ expires_at timeout at (cond same None o)
removed timeout from at o true had is_from is =
    let was = is_from refl in
    let had_is : had ≡ (from == at) = is ∙ ap (expires_at timeout at) was.1 ∙ ap (λ e. e == at) (sym was.2) in
    rw (and_true (from == at), had_is) (out (from == at))
  where
    out : (f : Bool) → cond f false f ≡ false
    out true = refl
    out false = refl
removed timeout from at o false had is_from is = rw (and_false (from == at)) is

-- two moments that differ make two pairs of a name
pub two_pairs : (from to : ℕ) (name : List ℕ) (q : ℕ × List ℕ) → from ≢ to → is_same (to, name) q ≡ true → is_same (from, name) q ≡ true → false ≡ true
two_pairs from to name q differ there here = grind (arith, differ, there, here)

pub same_is : (a b : ℕ × List ℕ) → is_same a b ≡ true → a ≡ b
same_is a b same =
    let moment : a.0 ≡ b.0 = grind (arith, same) in
    ap₂ (λ (m : ℕ) (n : List ℕ). (m, n)) moment ((bytes_eq-Decides a.1 b.1).0 (and_right (a.0 == b.0) (bytes_eq a.1 b.1) same))
  where
    and_right : (s t : Bool) → (s && t) ≡ true → t ≡ true
    and_right true t h = h
    and_right false t h = absurd (cc)

-- the pair of a name with an entry
pub had_pair : (timeout : ℕ) (entries : List (List ℕ × CacheEntry)) (index : List (ℕ × List ℕ)) (name : List ℕ) (before : CacheEntry) → IsIndexOf timeout entries index → found entries name ≡ Some before → has index (expiry timeout before, name) ≡ true
had_pair timeout entries index name before indexed there = indexed (expiry timeout before) name ∙ ap (expires_at timeout (expiry timeout before)) there ∙ itself (expiry timeout before)
  where
    itself : (n : ℕ) → (n == n) ≡ true
    itself n = grind arith

-- a name that was put and is taken out again, at a name without an entry
pub named_restored : (o : Option CacheEntry) (same had : Bool) → (same ≡ true → o ≡ None) → had ≡ is_some o → cond same false (cond same true had) ≡ is_some o
named_restored o true had is_none is = sym (ap is_some (is_none refl))
named_restored o false had is_none is = is

-- a name that is taken out with its entry
pub named_removed : (o : Option CacheEntry) (same had : Bool) → had ≡ is_some o → cond same false had ≡ is_some (cond same None o)
named_removed o true had is = refl
named_removed o false had is = is
