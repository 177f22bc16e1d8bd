-- Texts cut at their percent signs, and what stands behind a placeholder.
use Rattle.cd_pattern.specs.declared.field.Field.{Field}
use Rattle.cd_target.specs.Placeholders.{begins_with, placeholder}
use Rattle.std.proofs.Common.{Bool, Bor, List, [], ap, arith, cond, drop, false, length, length-drop, not, refl, subst, suc, sym, true, ℕ, ◌+◌, ◌<◌, ◌∙◌, ◌∷◌, ◌≡◌}
use Rattle.std.proofs.lemmas.List.Splits.{slice_split_first}
use Rattle.std.proofs.lemmas.Str.Pattern.{starts_text}
use Rattle.std.specs.List.{after_first, before_first, onto_first, position_or_len, slice_split, starts_with}
use Rattle.std.specs.Prelude.{IsCharBoundary, MatchOption, None, Option, Some, nat_eq}
use Rattle.std.specs.Str.Pattern.{FindsTextPrefix, StripsPrefix}

-- a text in which no byte passes is its only part
one_part : (p : ℕ → Bool) (xs : List ℕ) → position_or_len p xs ≡ length xs → slice_split p xs ≡ xs ∷ []
one_part p [] e = refl
one_part p (x ∷ xs) e = step (p x) (one_part p xs) e
  where
    step : (b : Bool) → (position_or_len p xs ≡ length xs → slice_split p xs ≡ xs ∷ [])
        → cond (not b) (1 + position_or_len p xs) 0 ≡ suc (length xs)
        → cond b ([] ∷ slice_split p xs) (onto_first x (slice_split p xs)) ≡ (x ∷ xs) ∷ []
    step true rest h = absurd (omega arith)
    step false rest h = rw (rest (omega arith)) refl

-- the parts of a text that is cut at the first byte that passes
pub parts_at : (p : ℕ → Bool) (xs : List ℕ) (r : Option (Bor (List ℕ) × Bor (List ℕ)))
    → MatchOption r (position_or_len p xs ≡ length xs)
    (λ x. (x.0.now ≡ before_first p xs) × (x.1.now ≡ after_first p xs) × (position_or_len p xs < length xs))
    → MatchOption r (slice_split p xs ≡ xs ∷ [])
    (λ x. (slice_split p xs ≡ x.0.now ∷ slice_split p x.1.now) × (length x.1.now < length xs))
parts_at p xs None h = one_part p xs h
parts_at p xs (Some x) h =
    let inside : position_or_len p xs < length xs = h.2 in (
      slice_split_first p xs 0 inside
          ∙ ap (λ (part : List ℕ). part ∷ slice_split p (after_first p xs)) (sym h.0)
          ∙ ap (λ (rest : List ℕ). x.0.now ∷ slice_split p rest) (sym h.1),
      omega (arith, ap length h.1, length-drop (position_or_len p xs + 1) xs),
    )

-- what stands behind a beginning, by the clause of `strip_prefix`
stripped : (n s : List ℕ) (r : Option (Bor (List ℕ)))
    → MatchOption r (FindsTextPrefix n s None) (λ x. StripsPrefix (FindsTextPrefix n) s x.now)
    → MatchOption r (starts_with nat_eq s n ≡ false)
    (λ x. (starts_with nat_eq s n ≡ true) × (x.now ≡ drop (length n) s))
stripped n s None h = sym (starts_text false n s h)
stripped n s (Some x) h = (
  sym (starts_text true n s (h.0, h.1, subst (IsCharBoundary s) (sym h.1.0) h.1.2)),
  h.2 ∙ ap (λ (k : ℕ). drop k s) h.1.0,
)

-- the same of a field's placeholder
pub stripped_field : (n s : List ℕ) (field : Field) (r : Option (Bor (List ℕ))) → n ≡ placeholder field
    → MatchOption r (FindsTextPrefix n s None) (λ x. StripsPrefix (FindsTextPrefix n) s x.now)
    → MatchOption r (begins_with s field ≡ false)
    (λ x. (begins_with s field ≡ true) × (x.now ≡ drop (length (placeholder field)) s))
unfolding begins_with
stripped_field n s field r e h =
    let P : List ℕ → Type 0 = λ m. MatchOption r (starts_with nat_eq s m ≡ false)
    (λ x. (starts_with nat_eq s m ≡ true) × (x.now ≡ drop (length m) s)) in
    subst P e (stripped n s r h)
