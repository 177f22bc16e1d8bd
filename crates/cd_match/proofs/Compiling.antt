-- Patterns that are compiled in order, up to the first bad one.
use Rattle.cd_match.specs.Refusals.{IsCauseAt, IsFirstBad, are_patterns}
use Rattle.cd_match.specs.declared.compiled.BadPattern.TheVariants.{At, Memory}
use Rattle.cd_match.specs.declared.compiled.BadPattern.{BadPattern}
use Rattle.cd_pattern.specs.Patterns.{is_pattern}
use Rattle.cd_pattern.specs.declared.field.Field.{Field}
use Rattle.std.proofs.Common.{IsTrue, List, ap, ap₂, get_or, length, subst, sym, take, ℕ, ◌&&◌, ◌+◌, ◌<◌, ◌∙◌, ◌≡◌}
use Rattle.std.proofs.lemmas.List.Folds.{list_all_more}

module _ (patterns : List (Field × List ℕ)) (i : ℕ) (pair : Field × List ℕ) (inside : i < length patterns)
    (is : pair ≡ get_or patterns i pair) (before : IsTrue (are_patterns (take i patterns))) where
  -- one more is a pattern
  pub one_more : IsTrue (is_pattern pair.1) → IsTrue (are_patterns (take (i + 1) patterns))
  one_more taken =
      list_all_more (λ (p : Field × List ℕ). is_pattern p.1) patterns i pair inside
      ∙ ap₂ ◌&&◌ before (ap (λ (p : Field × List ℕ). is_pattern p.1) (sym is) ∙ taken)

  -- the one at this place is the first bad one
  pub first_bad : (number : ℕ) → number ≡ i → (why : BadPattern) → IsCauseAt number why → IsFirstBad patterns why
  first_bad number e (At j) cause =
      let there = cause ∙ e in
      (subst (λ k. k < length patterns) (sym there) inside, subst (λ k. IsTrue (are_patterns (take k patterns))) (sym there) before)
  first_bad number e Memory cause = tt
