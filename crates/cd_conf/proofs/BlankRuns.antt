-- Blanks one after the other.
use Rattle.cd_conf.proofs.Skips.{skipped}
use Rattle.cd_conf.specs.Blanks.{after_blanks, after_newline, behind_blanks, behind_newline, is_blank, is_newline, line_after, line_behind_newline, next_line, skip_while}
use Rattle.cd_conf.specs.Place.{position}
use Rattle.cd_conf.specs.Position.{Position, at}
use Rattle.cd_conf.specs.declared.place.Place.{Place}
use Rattle.std.proofs.Common.{Bool, List, MatchOption, None, Option, Some, [], ap, arith, false, length, not, refl, suc, sym, true, ℕ, ◌&&◌, ◌+◌, ◌<◌, ◌==◌, ◌∙◌, ◌∷◌, ◌≡◌, ◌≤◌}
use Rattle.std.proofs.lemmas.Bool.{ne_eqb}
use Rattle.std.specs.Option.{option_map}

-- a blank is passed over
pub past_blank : (line c : ℕ) (cs : List ℕ) → is_blank c ≡ true → after_blanks line (c ∷ cs) ≡ after_blanks line cs
unfolding after_blanks
past_blank line c [] b = rw b refl
past_blank line c (d ∷ cs) b = rw b refl

-- so is a backslash directly before a newline
pub past_join : (line c : ℕ) (cs : List ℕ) (next : Position) → c ≡ 92 → after_newline line cs ≡ Some next → after_blanks line (c ∷ cs) ≡ after_blanks next.line next.rest
unfolding after_blanks
past_join line c [] next b n = absurd (cc)
past_join line c (d ∷ cs) next b n = joined (d == 10) refl
  where
    joined : (t : Bool) → (d == 10) ≡ t → after_blanks line (c ∷ d ∷ cs) ≡ after_blanks next.line next.rest
    joined true e = rw (b, e) (let f : Some (at (line + 1) cs) ≡ Some next = sym (rw e refl) ∙ n in let g : at (line + 1) cs ≡ next = cc in ap (λ (p : Position). after_blanks p.line p.rest) g)
    joined false e = absurd (let f : None ≡ Some next = sym (rw e refl) ∙ n in cc f)

-- no blank stands at any other character
pub no_blank : (line c : ℕ) (cs : List ℕ) → is_blank c ≡ false → (c == 92) ≡ false → after_blanks line (c ∷ cs) ≡ at line (c ∷ cs)
unfolding after_blanks
no_blank line c [] b n = rw b refl
no_blank line c (d ∷ cs) b n = rw (b, n) refl

-- nor at a backslash that no newline follows
pub no_join : (line c : ℕ) (cs : List ℕ) → c ≡ 92 → after_newline line cs ≡ None → after_blanks line (c ∷ cs) ≡ at line (c ∷ cs)
unfolding after_blanks
no_join line c [] b n = rw b refl
no_join line c (d ∷ cs) b n = apart (d == 10) refl
  where
    apart : (t : Bool) → (d == 10) ≡ t → after_blanks line (c ∷ d ∷ cs) ≡ at line (c ∷ d ∷ cs)
    apart true e = absurd (let f : Some (at (line + 1) cs) ≡ None = sym (rw e refl) ∙ n in cc f)
    apart false e = rw (b, e) refl

-- nothing follows the end
pub at_end : (line : ℕ) → after_blanks line [] ≡ at line []
unfolding after_blanks
at_end line = refl

pub blank_first : (p : Position) (c : ℕ) (cs : List ℕ) → p.rest ≡ c ∷ cs → is_blank c ≡ true → behind_blanks p ≡ behind_blanks (at p.line cs)
blank_first p c cs e b = ap (after_blanks p.line) e ∙ past_blank p.line c cs b

pub other_first : (p : Position) (c : ℕ) (cs : List ℕ) → p.rest ≡ c ∷ cs → is_blank c ≡ false → (c == 92) ≡ false → behind_blanks p ≡ p
other_first p c cs e b n = ap (after_blanks p.line) e ∙ no_blank p.line c cs b n ∙ ap (at p.line) (sym e)

pub none_first : (p : Position) → p.rest ≡ [] → behind_blanks p ≡ p
none_first p e = ap (after_blanks p.line) e ∙ at_end p.line ∙ ap (at p.line) (sym e)

pub join_first : (p : Position) (c : ℕ) (cs : List ℕ) (r : Option Place) → p.rest ≡ c ∷ cs → c ≡ 92 → option_map position r ≡ behind_newline (at p.line cs)
    → MatchOption r (behind_blanks p ≡ p) (λ next. behind_blanks p ≡ behind_blanks (position next))
join_first p c cs None e b h = ap (after_blanks p.line) e ∙ no_join p.line c cs b (sym h) ∙ ap (at p.line) (sym e)
join_first p c cs (Some next) e b h = ap (after_blanks p.line) e ∙ past_join p.line c cs (position next) b (sym h)

-- ---- the next line

pub newline_here : (p q : Position) (c : ℕ) → p.rest ≡ c ∷ q.rest → q.line ≡ line_after p.line c → c ≡ 10 → behind_blanks q ≡ next_line p
unfolding skip_while
newline_here p q c e l h =
    let line : line_after p.line c ≡ p.line + 1 = rw h refl in
    let here : next_line p ≡ after_blanks (p.line + 1) q.rest = ap (λ (cs : List ℕ). line_behind_newline p.line (skip_while (λ c. not (is_newline c)) cs)) e ∙ rw h refl in
    ap (λ (n : ℕ). after_blanks n q.rest) (l ∙ line) ∙ sym here

pub line_goes_on : (p q : Position) (c : ℕ) → p.rest ≡ c ∷ q.rest → q.line ≡ line_after p.line c → (c ≡ 10 → ⊥) → next_line q ≡ next_line p
unfolding skip_while
line_goes_on p q c e l h =
    let no : (c == 10) ≡ false = ne_eqb c 10 h in
    let line : line_after p.line c ≡ p.line = rw no refl in
    let here : next_line p ≡ line_behind_newline p.line (skip_while (λ c. not (is_newline c)) q.rest)
    = ap (λ (cs : List ℕ). line_behind_newline p.line (skip_while (λ c. not (is_newline c)) cs)) e ∙ rw no refl in
    ap (λ (n : ℕ). line_behind_newline n (skip_while (λ c. not (is_newline c)) q.rest)) (l ∙ line) ∙ sym here

pub text_ends : (p : Position) → p.rest ≡ [] → p ≡ next_line p
unfolding skip_while
text_ends p e =
    ap (at p.line) e ∙ sym (ap (λ (cs : List ℕ). line_behind_newline p.line (skip_while (λ c. not (is_newline c)) cs)) e)

-- ---- what is left is shorter

pub blanks_shrink : (line : ℕ) (cs : List ℕ) → length (after_blanks line cs).rest ≤ length cs
unfolding after_blanks
blanks_shrink line [] = omega arith
blanks_shrink line (c ∷ []) = by (is_blank c) refl
  where
    by : (t : Bool) → is_blank c ≡ t → length (after_blanks line (c ∷ [])).rest ≤ length (c ∷ [])
    by true e = rw e (omega arith)
    by false e = rw e (omega arith)
blanks_shrink line (c ∷ d ∷ cs) = by (is_blank c) (c == 92 && d == 10) refl refl (blanks_shrink line (d ∷ cs)) (blanks_shrink (line + 1) cs)
  where
    by : (t u : Bool) → is_blank c ≡ t → (c == 92 && d == 10) ≡ u → length (after_blanks line (d ∷ cs)).rest ≤ length (d ∷ cs) → length (after_blanks (line + 1) cs).rest ≤ length cs
        → length (after_blanks line (c ∷ d ∷ cs)).rest ≤ length (c ∷ d ∷ cs)
    by true u e f one two = rw e (omega (arith, one))
    by false true e f one two = rw (e, f) (omega (arith, two))
    by false false e f one two = rw (e, f) (omega arith)

behind_shrinks : (line n : ℕ) (cs : List ℕ) → length cs ≤ suc n → length (line_behind_newline line cs).rest < suc n
behind_shrinks line n [] h = omega arith
behind_shrinks line n (c ∷ cs) h = let s = blanks_shrink (line + 1) cs in omega (arith, s)

pub next_shrinks : (p : Position) (c : ℕ) (cs : List ℕ) → p.rest ≡ c ∷ cs → length (next_line p).rest < length p.rest
next_shrinks p c cs e =
    let s = skipped (λ c. not (is_newline c)) p.rest in
    let l : length p.rest ≡ suc (length cs) = ap length e in
    let b = behind_shrinks p.line (length cs) (skip_while (λ c. not (is_newline c)) p.rest) (omega (arith, s, l)) in
    omega (arith, b, l)
