-- Facts of the row of a number, for callers.
use Rattle.cd_registry.proofs.Places.{numbers_from, numbers_from-cons}
use Rattle.cd_registry.specs.Rows.{At, IsLive, IsPlugOut, IsReady, Row, after_take, has_kinds, is_live_as, listening, live_number_with, with_row}
use Rattle.std.proofs.Common.{Bool, IfSome, IsSomeAnd, List, None, Option, Some, [], ap, arith, cond, false, get_or, length, refl, slice_get, suc, true, zero, ℕ, ◌&&◌, ◌++◌, ◌+◌, ◌<◌, ◌∙◌, ◌∷◌, ◌≡◌}
use Rattle.std.proofs.lemmas.List.Quantifiers.{position-Some}
use Rattle.std.specs.List.{All, filter, position}

-- a fact of a row leads to another
pub at_map : (rows : List Row) (i : ℕ) (P Q : Row → Type 0) → ((row : Row) → P row → Q row) → At rows i P → At rows i Q
at_map [] i P Q f at = at
at_map (row ∷ rows) zero P Q f at = f row at
at_map (row ∷ rows) (suc i) P Q f at = at_map rows i P Q f at

-- a row stands at each number below their count
pub at_any : (rows : List Row) (i : ℕ) (P : Row → Type 0) → i < length rows → ((row : Row) → row ≡ get_or rows i row → P row) → At rows i P
at_any [] i P within f = absurd (omega arith)
at_any (row ∷ rows) zero P within f = f row refl
at_any (row ∷ rows) (suc i) P within f = at_any rows i P (omega arith) f

-- the first row that passes a test passes it
pub at_first : (p : Row → Bool) (rows : List Row) (i : ℕ) → position p rows ≡ Some i → At rows i (λ row. p row ≡ true)
at_first p [] i e = cc
at_first p (row ∷ rows) i e =
    at_any (row ∷ rows) i (λ row. p row ≡ true) (position-Some p (row ∷ rows) i row e).0
    (λ found is. ap p is ∙ (position-Some p (row ∷ rows) i found e).1)

-- the row that was changed
pub at_changed : (rows : List Row) (i : ℕ) (step : Row → Row) (P Q : Row → Type 0) → ((row : Row) → P row → Q (step row)) → At rows i P → At (with_row i step rows) i Q
at_changed [] i step P Q f at = at
at_changed (row ∷ rows) zero step P Q f at = f row at
at_changed (row ∷ rows) (suc i) step P Q f at = at_changed rows i step P Q f at

-- a fact that a change keeps, of any row
pub at_kept : (rows : List Row) (n i : ℕ) (step : Row → Row) (P : Row → Type 0) → ((row : Row) → P row → P (step row)) → At rows i P → At (with_row n step rows) i P
at_kept [] n i step P f at = at
at_kept (row ∷ rows) zero zero step P f at = f row at
at_kept (row ∷ rows) zero (suc i) step P f at = at
at_kept (row ∷ rows) (suc n) zero step P f at = at
at_kept (row ∷ rows) (suc n) (suc i) step P f at = at_kept rows n i step P f at

live_first : (a b d : Bool) → (a && b) && d ≡ true → a ≡ true
live_first true b d e = refl
live_first false b d e = e

-- a registration that was found by its name and kinds is live
pub found_live : (kinds : ℕ) (name : List ℕ) (rows : List Row) (reg : ℕ) → live_number_with kinds name rows ≡ Some reg → At rows reg IsLive
found_live kinds name rows reg found =
    at_map rows reg (λ row. is_live_as name row && has_kinds kinds row ≡ true) IsLive (λ row passes. live_first row.live _ _ passes)
    (at_first (λ row. is_live_as name row && has_kinds kinds row) rows reg found)

-- one that is ready can be taken, and is out then
pub taken_out : (rows : List Row) (reg actor : ℕ) → At rows reg IsReady → At (with_row reg (after_take actor) rows) reg IsPlugOut
taken_out rows reg actor ready = at_changed rows reg (after_take actor) IsReady IsPlugOut (λ row is. record { actor = actor; out = refl }) ready

-- a row that was put behind the others
pub at_new : (rows : List Row) (row : Row) (P : Row → Type 0) → P row → At (rows ++ row ∷ []) (length rows) P
at_new [] row P fact = fact
at_new (first ∷ rows) row P fact = at_new rows row P fact

-- the others stay where they were
pub at_old : (rows more : List Row) (i : ℕ) (P : Row → Type 0) → At rows i P → At (rows ++ more) i P
at_old [] more i P at = absurd at
at_old (row ∷ rows) more zero P at = at
at_old (row ∷ rows) more (suc i) P at = at_old rows more i P at

-- what holds of the numbers of the elements that pass holds of each number that is listed
listed_all : {A : Type 0} (p : A → Bool) (Q : ℕ → Type 0) (n : ℕ) (xs : List A)
    → ((i : ℕ) → IsSomeAnd (slice_get xs i) (λ x. p x ≡ true) → Q (n + i)) → All Q (numbers_from n p xs)
listed_all p Q n [] holds = λ k d within. absurd (omega (arith, within))
listed_all p Q n (x ∷ xs) holds =
    let rest : All Q (numbers_from (n + 1) p xs) = listed_all p Q (n + 1) xs (λ i at. next i (holds (suc i) at)) in
    rw (numbers_from-cons n p x xs) (by (p x) (numbers_from (n + 1) p xs) (λ e. first (holds zero e)) rest)
  where
    next : (i : ℕ) → Q (n + suc i) → Q ((n + 1) + i)
    next i fact = let e : (n + 1) + i ≡ n + suc i = omega arith in rw e fact

    first : Q (n + 0) → Q n
    first fact = let e : n ≡ n + 0 = omega arith in rw e fact

    in_front : (m : ℕ) (others : List ℕ) → Q m → All Q others → All Q (m ∷ others)
    in_front m others one rest zero d within = one
    in_front m others one rest (suc k) d within = rest k d (omega (arith, within))

    by : (passes : Bool) (others : List ℕ) → (passes ≡ true → Q n) → All Q others → All Q (cond passes (n ∷ []) [] ++ others)
    by true others one rest = in_front n others (one refl) rest
    by false others one rest = rest

-- those that listen are live
pub listening_live : (kinds : ℕ) (rows : List Row) → All (λ reg. At rows reg IsLive) (listening kinds rows)
listening_live kinds rows =
    listed_all (λ row. row.live && has_kinds kinds row) (λ reg. At rows reg IsLive) 0 rows
    (λ i at. from_zero i (at_map rows i (λ row. row.live && has_kinds kinds row ≡ true) IsLive (λ row passes. both row.live _ passes) at))
  where
    from_zero : (i : ℕ) → At rows i IsLive → At rows (0 + i) IsLive
    from_zero i at = let e : 0 + i ≡ i = omega arith in rw e at

    both : (a b : Bool) → a && b ≡ true → a ≡ true
    both true b e = refl
    both false b e = e

-- what holds of whatever number it is
pub some_is : (o : Option ℕ) (Q : ℕ → Type 0) → ((n : ℕ) → o ≡ Some n → Q n) → IfSome o Q
some_is None Q holds = tt
some_is (Some n) Q holds = holds n refl
