-- Texts cut at a byte.
use Rattle.cd_sock.specs.Values.{is_colon, value_texts}
use Rattle.cd_text.proofs.Places.{position_is}
use Rattle.std.proofs.Common.{Bool, IsCharBoundary, IsUtf8, List, Some, [], ap, arith, drop, false, get_or, length, refl, subst, suc, take, true, ℕ, ◌+◌, ◌-◌, ◌<◌, ◌∷◌, ◌≡◌}
use Rattle.std.proofs.lemmas.Bool.{eqb-true}
use Rattle.std.proofs.lemmas.List.Splits.{length-slice_split, slice_split_first}
use Rattle.std.proofs.lemmas.List.Sums.{passes_at_first}
use Rattle.std.proofs.lemmas.List.{length-drop}
use Rattle.std.proofs.lemmas.Str.{IsCharBoundary-after_ascii, IsCharBoundary-before_ascii}
use Rattle.std.specs.List.{onto_first, position, position_or_len, slice_split}
use Rattle.std.specs.Prelude.{count_by, ◌==◌}

-- a text without the byte is its only part
pub one_part : (p : ℕ → Bool) (xs : List ℕ) → position_or_len p xs ≡ length xs → slice_split p xs ≡ xs ∷ []
one_part p [] h = refl
one_part p (x ∷ xs) h = by (p x) refl (one_part p xs)
  where
    by : (t : Bool) → p x ≡ t → (position_or_len p xs ≡ length xs → slice_split p xs ≡ xs ∷ []) → slice_split p (x ∷ xs) ≡ (x ∷ xs) ∷ []
    by true e more = absurd (clash (rw e at h))
      where
        clash : 0 ≡ suc (length xs) → ⊥
        clash h = omega arith
    by false e more = rw e (ap (onto_first x) (more (rest (rw e at h))))
      where
        rest : 1 + position_or_len p xs ≡ suc (length xs) → position_or_len p xs ≡ length xs
        rest h = omega arith

-- a value word has a value after each colon
pub count_of_values : (text : List ℕ) → length (value_texts text) ≡ count_by is_colon text
count_of_values text = omega (arith, length-drop 1 (slice_split is_colon text), length-slice_split is_colon text)

-- a text may be cut before and behind the first of a byte
pub around_byte : (b : ℕ) (text : List ℕ) (i : ℕ) → b < 128 → IsUtf8 text → Some i ≡ position (λ x. x == b) text → IsCharBoundary text i × IsCharBoundary text (i + 1)
around_byte b text i small utf8 e =
    let is = position_is (λ x. x == b) text i e in
    let within : position_or_len (λ x. x == b) text < length text = omega (arith, is.0, is.1) in
    let found : get_or text i 0 ≡ b = eqb-true _ _ (subst (λ (k : ℕ). (get_or text k 0 == b) ≡ true) is.0 (passes_at_first (λ x. x == b) text 0 within)) in
    let ascii : get_or text i 0 < 128 = omega (arith, found, small) in
    (IsCharBoundary-before_ascii text i is.1 ascii, IsCharBoundary-after_ascii text i utf8 is.1 ascii)

-- what stands behind the first of a byte has the other parts
pub parts_behind : (p : ℕ → Bool) (text : List ℕ) (i : ℕ) → Some i ≡ position p text → slice_split p text ≡ take (i - 0) text ∷ slice_split p (drop (i + 1) text)
parts_behind p text i e =
    let is = position_is p text i e in
    let within : position_or_len p text < length text = omega (arith, is.0, is.1) in
    let front : position_or_len p text ≡ i - 0 = omega (arith, is.0) in
    subst (λ (k : ℕ). slice_split p text ≡ take k text ∷ slice_split p (drop (i + 1) text)) front
    (subst (λ (k : ℕ). slice_split p text ≡ take (position_or_len p text) text ∷ slice_split p (drop (k + 1) text)) is.0 (slice_split_first p text 0 within))
