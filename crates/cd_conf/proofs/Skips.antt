-- What is left behind characters that are passed over.
use Rattle.cd_conf.specs.Blanks.{skip_while}
use Rattle.std.proofs.Common.{Bool, List, [], arith, false, length, refl, true, ℕ, ◌∷◌, ◌≡◌, ◌≤◌}

pub skipped : (p : ℕ → Bool) (cs : List ℕ) → length (skip_while p cs) ≤ length cs
unfolding skip_while
skipped p [] = omega arith
skipped p (c ∷ cs) = by (p c) refl (skipped p cs)
  where
    by : (t : Bool) → p c ≡ t → length (skip_while p cs) ≤ length cs → length (skip_while p (c ∷ cs)) ≤ length (c ∷ cs)
    by true e h = rw e (omega (arith, h))
    by false e h = rw e (omega arith)
