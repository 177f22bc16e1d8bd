-- What is due of an index in order, and the names that are lost.
use Rattle.cd_cache.proofs.ByName.{cache_of, lookup_by_name, same_names, sorted_by_name, total}
use Rattle.cd_cache.proofs.Losses.{sorted_lost}
use Rattle.cd_cache.proofs.Pairs.{is_pair}
use Rattle.cd_cache.specs.Cache.{name_order}
use Rattle.cd_cache.specs.Index.{IsIndexOf, by_name, due, expires_at, found, has, has_name, is_same, names_in, pair_order}
use Rattle.cd_cache.specs.Lost.{expiry, is_lost, lost_of}
use Rattle.cd_cache.specs.declared.entry.CacheEntry.{CacheEntry}
use Rattle.std.proofs.Common.{Bool, List, None, Option, Some, [], ap, arith, cond, false, length, refl, subst, suc, sym, true, ℕ, ◌<◌, ◌==◌, ◌∙◌, ◌∷◌, ◌≡◌, ◌≤◌}
use Rattle.std.proofs.lemmas.Bool.{and_from, and_parts, eq-eqb, eqb-true, false_from_ne_true, le-leb, leb-true, lt-leb, or_left, or_right}
use Rattle.std.proofs.lemmas.Cmp.{ranked}
use Rattle.std.proofs.lemmas.Map.Entries.{lookup-filter-values, option_filter}
use Rattle.std.proofs.lemmas.Map.Keys.{IsDistinct-from_sorted}
use Rattle.std.proofs.lemmas.Map.Made.{is_some-lookup, length-le_from_is_member}
use Rattle.std.proofs.lemmas.Map.Text.{is_eq-slice_cmp}
use Rattle.std.proofs.lemmas.Slice.Eq.{bytes_eq-Decides}
use Rattle.std.specs.BTreeMap.{is_at}
use Rattle.std.specs.Cmp.{both_ways, eq_by_cmp_equiv}
use Rattle.std.specs.List.Sorted.{IsStrictlySortedBy}
use Rattle.std.specs.List.{AllByRecursion, IsDistinct, filter}
use Rattle.std.specs.Map.{keys_of}
use Rattle.std.specs.Option.{is_some}
use Rattle.std.specs.Ordering.{eq_by_cmp, is_eq, nat_cmp, ordering_then}
use Rattle.std.specs.Prelude.{nat_le, ◌||◌}
use Rattle.std.specs.Str.{bytes_eq}
use Rattle.std.specs.declared.cmp.Ordering.TheVariants.{Equal, Greater, Less}
use Rattle.std.specs.declared.cmp.Ordering.{Ordering}

-- pairs of a moment and a name
abbrev Moments : Type 0
Moments = List (ℕ × List ℕ)

-- a later pair has no earlier moment
not_before : (a b : ℕ × List ℕ) → pair_order a b ≡ Less → a.0 ≤ b.0
not_before a b less =
    elim (nat_cmp a.0 b.0) as (λ r. nat_cmp a.0 b.0 ≡ r → ordering_then r (name_order a.1 b.1) ≡ Less → a.0 ≤ b.0) [
      | Less ↦ λ e _. let below : a.0 < b.0 = ranked a.0 b.0 Less (sym e) in omega arith
      | Equal ↦ λ e _. let same : a.0 ≡ b.0 = ranked a.0 b.0 Equal (sym e) in omega arith
      | Greater ↦ λ _ bad. absurd (cc)
    ] refl less

-- nothing is due behind a pair whose moment hasn't come
none_due : (now : ℕ) (pair : ℕ × List ℕ) (index : Moments) → now < pair.0 → AllByRecursion (λ other. pair_order pair other ≡ Less) index → due now index ≡ []
none_due now pair [] late all = refl
none_due now pair (other ∷ index) late all =
    let up : pair.0 ≤ other.0 = not_before pair other all.0 in
    let above : now < other.0 = omega arith in
    ap (λ (b : Bool). cond b (other ∷ due now index) (due now index)) (lt-leb other.0 now above) ∙ none_due now pair index late all.1

pub due_from_late : (now : ℕ) (pair : ℕ × List ℕ) (index : Moments) → now < pair.0 → IsStrictlySortedBy pair_order (pair ∷ index) → due now (pair ∷ index) ≡ []
unfolding IsStrictlySortedBy
due_from_late now pair index late sorted =
    ap (λ (b : Bool). cond b (pair ∷ due now index) (due now index)) (lt-leb pair.0 now late) ∙ none_due now pair index late sorted.0

pub due_now : (now : ℕ) (pair : ℕ × List ℕ) (index : Moments) → pair.0 ≤ now → due now (pair ∷ index) ≡ pair ∷ due now index
due_now now pair index come = ap (λ (b : Bool). cond b (pair ∷ due now index) (due now index)) (le-leb pair.0 now come)

pub sorted_behind : (pair : ℕ × List ℕ) (index : Moments) → IsStrictlySortedBy pair_order (pair ∷ index) → IsStrictlySortedBy pair_order index
unfolding IsStrictlySortedBy
sorted_behind pair index sorted = sorted.1

-- a pair is had where it stands first, and where it stands behind
has_first : (at : ℕ) (name other : List ℕ) (index : Moments) → is_at (name_order name) other ≡ true → has ((at, other) ∷ index) (at, name) ≡ true
has_first at name other index same =
    or_left (is_eq (pair_order (at, name) (at, other))) (has index (at, name))
    (is_pair (at, name) (at, other) ∙ and_from (at == at) (bytes_eq name other) (eq-eqb at at refl) (sym (is_eq-slice_cmp name other) ∙ same))

has_behind : (first pair : ℕ × List ℕ) (index : Moments) → has index pair ≡ true → has (first ∷ index) pair ≡ true
has_behind first pair index h = or_right (is_eq (pair_order pair first)) (has index pair) h

-- a name that is due has a pair whose moment has come
find_due : (now : ℕ) (q : List ℕ) (index : Moments) → has_name (names_in (due now index)) q ≡ true → (at : ℕ) × (nat_le at now ≡ true) × (has index (at, q) ≡ true)
find_due now q [] h = absurd (cc)
find_due now q (pair ∷ index) h =
    (elim (nat_le pair.0 now) as (λ b. nat_le pair.0 now ≡ b → has_name (names_in (cond b (pair ∷ due now index) (due now index))) q ≡ true → (at : ℕ) × (nat_le at now ≡ true) × (has (pair ∷ index) (at, q) ≡ true)) [
      | true ↦ λ come. elim (is_at (name_order q) pair.1) as (λ s. is_at (name_order q) pair.1 ≡ s → (s || has_name (names_in (due now index)) q) ≡ true → (at : ℕ) × (nat_le at now ≡ true) × (has (pair ∷ index) (at, q) ≡ true)) [
        | true ↦ λ same _. (pair.0, come, has_first pair.0 q pair.1 index same)
        | false ↦ λ _ k. later (find_due now q index k)
      ] refl
      | false ↦ λ _ k. later (find_due now q index k)
    ] refl) h
  where
    later : (at : ℕ) × (nat_le at now ≡ true) × (has index (at, q) ≡ true) → (at : ℕ) × (nat_le at now ≡ true) × (has (pair ∷ index) (at, q) ≡ true)
    later one = (one.0, one.1, has_behind pair (one.0, q) index one.2)

-- and a pair whose moment has come has its name due
has_due : (now at : ℕ) (q : List ℕ) (index : Moments) → nat_le at now ≡ true → has index (at, q) ≡ true → has_name (names_in (due now index)) q ≡ true
has_due now at q [] come h = absurd (cc)
has_due now at q (pair ∷ index) come h =
    elim (is_same (at, q) pair) as (λ s. is_same (at, q) pair ≡ s → (s || has index (at, q)) ≡ true → has_name (names_in (due now (pair ∷ index))) q ≡ true) [
      | true ↦ λ same _. here (and_parts (at == pair.0) (bytes_eq q pair.1) same)
      | false ↦ λ _ k. behind (nat_le pair.0 now) (has_due now at q index come k)
    ] refl (sym (ap (λ (b : Bool). b || has index (at, q)) (is_pair (at, q) pair)) ∙ h)
  where
    here : ((at == pair.0) ≡ true) × (bytes_eq q pair.1 ≡ true) → has_name (names_in (due now (pair ∷ index))) q ≡ true
    here both =
        let moment : at ≡ pair.0 = eqb-true at pair.0 both.0 in
        let early : at ≤ now = leb-true at now come in
        let below : pair.0 ≤ now = omega arith in
        ap (λ (ps : Moments). has_name (names_in ps) q) (due_now now pair index below)
        ∙ or_left (is_at (name_order q) pair.1) (has_name (names_in (due now index)) q) (is_eq-slice_cmp q pair.1 ∙ both.1)

    behind : (b : Bool) → has_name (names_in (due now index)) q ≡ true → has_name (names_in (cond b (pair ∷ due now index) (due now index))) q ≡ true
    behind true k = or_right (is_at (name_order q) pair.1) (has_name (names_in (due now index)) q) k
    behind false k = k

-- whether an entry, where there is one, is lost
abbrev is_gone : ℕ → ℕ → Option CacheEntry → Bool
is_gone timeout now entry = is_some (option_filter (is_lost timeout now) entry)

some_filter : (b : Bool) (entry : CacheEntry) → is_some (cond b (Some entry) None) ≡ b
some_filter true entry = refl
some_filter false entry = refl

due_is_gone : (timeout now : ℕ) (q : List ℕ) (index : Moments) (o : Option CacheEntry) → ((at : ℕ) → has index (at, q) ≡ expires_at timeout at o)
    → has_name (names_in (due now index)) q ≡ is_gone timeout now o
due_is_gone timeout now q index None is =
    both_ways (has_name (names_in (due now index)) q) false (λ h. let one = find_due now q index h in sym (is one.0) ∙ one.2) (λ h. absurd (cc))
due_is_gone timeout now q index (Some entry) is =
    both_ways (has_name (names_in (due now index)) q) (is_gone timeout now (Some entry)) gone
    (λ h. has_due now (expiry timeout entry) q index (sym (some_filter (is_lost timeout now entry) entry) ∙ h) (is (expiry timeout entry) ∙ eq-eqb (expiry timeout entry) (expiry timeout entry) refl))
  where
    gone : has_name (names_in (due now index)) q ≡ true → is_gone timeout now (Some entry) ≡ true
    gone h =
        let one = find_due now q index h in
        let moment : expiry timeout entry ≡ one.0 = eqb-true (expiry timeout entry) one.0 (sym (is one.0) ∙ one.2) in
        some_filter (is_lost timeout now entry) entry ∙ ap (λ (m : ℕ). nat_le m now) moment ∙ one.1

gone_names : (timeout now : ℕ) (entries : List (List ℕ × CacheEntry)) (q : List ℕ) → has_name (lost_of now (cache_of timeout entries)) q ≡ is_gone timeout now (found entries q)
gone_names timeout now entries q =
    sym (is_some-lookup (is_at (name_order q)) (filter (λ (pair : List ℕ × CacheEntry). is_lost timeout now pair.1) (by_name entries)))
    ∙ ap is_some (lookup-filter-values (eq_by_cmp_equiv total) (is_lost timeout now) q (by_name entries) (IsDistinct-from_sorted name_order (keys_of (by_name entries)) (sorted_by_name entries))
    ∙ ap (option_filter (is_lost timeout now)) (lookup_by_name q entries))

-- a name that is due is lost, and a lost one due
due_is_lost : (timeout now : ℕ) (entries : List (List ℕ × CacheEntry)) (index : Moments) (q : List ℕ) → IsIndexOf timeout entries index
    → has_name (names_in (due now index)) q ≡ has_name (lost_of now (cache_of timeout entries)) q
due_is_lost timeout now entries index q indexed =
    due_is_gone timeout now q index (found entries q) (λ at. indexed at q) ∙ sym (gone_names timeout now entries q)

-- the names that are due are those that are lost
pub due_names : (timeout now : ℕ) (entries : List (List ℕ × CacheEntry)) (index : Moments) (names : List (List ℕ)) → IsIndexOf timeout entries index → IsStrictlySortedBy name_order names
    → ((q : List ℕ) → has_name names q ≡ has_name (names_in (due now index)) q) → names ≡ lost_of now (cache_of timeout entries)
due_names timeout now entries index names indexed sorted same =
    same_names names (lost_of now (cache_of timeout entries)) sorted (sorted_lost timeout now (by_name entries) (sorted_by_name entries))
    (λ q. same q ∙ due_is_lost timeout now entries index q indexed)

-- no two pairs have one name
abbrev OneMoment : Moments → Type 0
OneMoment index = (a b : ℕ) (name : List ℕ) → has index (a, name) ≡ true → has index (b, name) ≡ true → a ≡ b

one_moment : (timeout : ℕ) (entries : List (List ℕ × CacheEntry)) (index : Moments) → IsIndexOf timeout entries index → OneMoment index
one_moment timeout entries index indexed a b name one two = at_one (found entries name) (sym (indexed a name) ∙ one) (sym (indexed b name) ∙ two)
  where
    at_one : (o : Option CacheEntry) → expires_at timeout a o ≡ true → expires_at timeout b o ≡ true → a ≡ b
    at_one None h k = absurd (cc)
    at_one (Some entry) h k = sym (eqb-true (expiry timeout entry) a h) ∙ eqb-true (expiry timeout entry) b k

-- a pair doesn't stand again behind itself
absent_behind : (pair : ℕ × List ℕ) (index : Moments) → AllByRecursion (λ other. pair_order pair other ≡ Less) index → has index pair ≡ false
absent_behind pair [] all = refl
absent_behind pair (other ∷ index) all = ap (λ (r : Ordering). is_eq r || has index pair) all.0 ∙ absent_behind pair index all.1

apart_due : (now : ℕ) (name : List ℕ) (index : Moments) → ((at : ℕ) → has index (at, name) ≡ true → ⊥) → AllByRecursion (λ other. eq_by_cmp name_order name other ≡ false) (names_in (due now index))
apart_due now name [] none = tt
apart_due now name (pair ∷ index) none =
    let rest : AllByRecursion (λ (other : List ℕ). eq_by_cmp name_order name other ≡ false) (names_in (due now index)) = apart_due now name index (λ at h. none at (has_behind pair (at, name) index h)) in
    elim (nat_le pair.0 now) as (λ b. AllByRecursion (λ other. eq_by_cmp name_order name other ≡ false) (names_in (cond b (pair ∷ due now index) (due now index)))) [
      | true ↦ (false_from_ne_true (eq_by_cmp name_order name pair.1) (λ same. none pair.0 (has_first pair.0 name pair.1 index same)), rest)
      | false ↦ rest
    ]

-- a name that stands first stands no more behind
once : (pair : ℕ × List ℕ) (index : Moments) → AllByRecursion (λ other. pair_order pair other ≡ Less) index → OneMoment (pair ∷ index) → (at : ℕ) → has index (at, pair.1) ≡ true → ⊥
once pair index all one at h =
    let same : at ≡ pair.0 = one at pair.0 pair.1 (has_behind pair (at, pair.1) index h) (has_first pair.0 pair.1 pair.1 index (is_eq-slice_cmp pair.1 pair.1 ∙ (bytes_eq-Decides pair.1 pair.1).1 refl)) in
    let both : false ≡ true = sym (absent_behind pair index all) ∙ ap (λ (m : ℕ). has index (m, pair.1)) (sym same) ∙ h in
    absurd (cc)

-- so no name is due twice
distinct_due : (now : ℕ) (index : Moments) → IsStrictlySortedBy pair_order index → OneMoment index → IsDistinct (eq_by_cmp name_order) (names_in (due now index))
unfolding IsStrictlySortedBy IsDistinct
distinct_due now [] sorted one = tt
distinct_due now (pair ∷ index) sorted one =
    let rest : IsDistinct (eq_by_cmp name_order) (names_in (due now index)) = distinct_due now index sorted.1 (λ a b name h k. one a b name (has_behind pair (a, name) index h) (has_behind pair (b, name) index k)) in
    elim (nat_le pair.0 now) as (λ b. IsDistinct (eq_by_cmp name_order) (names_in (cond b (pair ∷ due now index) (due now index)))) [
      | true ↦ (apart_due now pair.1 index (once pair index sorted.0 one), rest)
      | false ↦ rest
    ]

length_names : (index : Moments) → length (names_in index) ≡ length index
length_names [] = refl
length_names (pair ∷ index) = ap (λ (n : ℕ). suc n) (length_names index)

-- no more pairs are due than names are lost
pub due_length : (timeout now : ℕ) (entries : List (List ℕ × CacheEntry)) (index : Moments) → IsIndexOf timeout entries index → IsStrictlySortedBy pair_order index
    → length (due now index) ≤ length (lost_of now (cache_of timeout entries))
due_length timeout now entries index indexed sorted =
    subst (λ (n : ℕ). n ≤ length (lost_of now (cache_of timeout entries))) (length_names (due now index))
    (length-le_from_is_member (eq_by_cmp_equiv total) (names_in (due now index)) (lost_of now (cache_of timeout entries)) (distinct_due now index sorted (one_moment timeout entries index indexed))
    (λ q h. sym (due_is_lost timeout now entries index q indexed) ∙ h))

-- .. and no more names are lost than pairs are due
pub lost_length : (timeout now : ℕ) (entries : List (List ℕ × CacheEntry)) (index : Moments) → IsIndexOf timeout entries index
    → length (lost_of now (cache_of timeout entries)) ≤ length (due now index)
lost_length timeout now entries index indexed =
    let lost : List (List ℕ) = lost_of now (cache_of timeout entries) in
    subst (λ (n : ℕ). length lost ≤ n) (length_names (due now index))
    (length-le_from_is_member (eq_by_cmp_equiv total) lost (names_in (due now index))
    (IsDistinct-from_sorted name_order lost (sorted_lost timeout now (by_name entries) (sorted_by_name entries)))
    (λ q h. due_is_lost timeout now entries index q indexed ∙ h))
