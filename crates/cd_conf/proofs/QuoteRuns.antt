-- Quoted strings, one character after the other.
use Rattle.cd_conf.specs.Blanks.{line_after}
use Rattle.cd_conf.specs.Position.{Position, at}
use Rattle.cd_conf.specs.Quotes.{by_role, quoted_from, role_of, with_text}
use Rattle.cd_conf.specs.declared.quotes.Quoting.TheVariants.{Inside}
use Rattle.cd_conf.specs.declared.quotes.Quoting.{Quoting}
use Rattle.cd_conf.specs.declared.quotes.Role.TheVariants.{Break, Close, Letter, Mark}
use Rattle.cd_conf.specs.declared.quotes.Role.{Role}
use Rattle.std.proofs.Common.{List, None, Option, Some, [], ap, append_assoc, refl, sym, ℕ, ◌++◌, ◌∙◌, ◌∷◌, ◌≡◌}
use Rattle.std.proofs.lemmas.List.{append-nil}
use Rattle.std.specs.Char.{encode_utf8}

-- a quoted string, one character opened
pub opened : (text rest cs : List ℕ) (c line : ℕ) (quoting : Quoting) (role : Role) → rest ≡ c ∷ cs → role_of quoting c ≡ role
    → with_text text (quoted_from rest quoting line) ≡ with_text text (by_role role c (at (line_after line c) cs) (λ next. quoted_from cs next (line_after line c)))
unfolding quoted_from
opened text rest cs c line quoting role e r =
    ap (λ (xs : List ℕ). with_text text (quoted_from xs quoting line)) e
    ∙ ap (λ (x : Role). with_text text (by_role x c (at (line_after line c) cs) (λ next. quoted_from cs next (line_after line c)))) r

pub ended : (text rest : List ℕ) (line : ℕ) (quoting : Quoting) (total : Option (List ℕ × Position)) → rest ≡ [] → with_text text (quoted_from rest quoting line) ≡ total → None ≡ total
unfolding quoted_from
ended text rest line quoting total e so_far = sym (ap (λ (xs : List ℕ). with_text text (quoted_from xs quoting line)) e) ∙ so_far

regroup : (text more : List ℕ) (found : Option (List ℕ × Position)) → with_text text (with_text more found) ≡ with_text (text ++ more) found
regroup text more None = refl
regroup text more (Some found) = ap (λ (t : List ℕ). Some (t, found.1)) (sym (append_assoc text more found.0))

pub closes : (text rest cs : List ℕ) (c line later : ℕ) (quoting : Quoting) (total : Option (List ℕ × Position)) → rest ≡ c ∷ cs → role_of quoting c ≡ Close
    → later ≡ line_after line c → with_text text (quoted_from rest quoting line) ≡ total → Some (text, at later cs) ≡ total
closes text rest cs c line later quoting total e r l so_far =
    ap (λ (n : ℕ). Some (text, at n cs)) l ∙ ap (λ (t : List ℕ). Some (t, at (line_after line c) cs)) (sym (append-nil text))
    ∙ sym (opened text rest cs c line quoting Close e r) ∙ so_far

pub breaks : (text rest cs : List ℕ) (c line : ℕ) (quoting : Quoting) (total : Option (List ℕ × Position)) → rest ≡ c ∷ cs → role_of quoting c ≡ Break
    → with_text text (quoted_from rest quoting line) ≡ total → None ≡ total
breaks text rest cs c line quoting total e r so_far = sym (opened text rest cs c line quoting Break e r) ∙ so_far

pub marks : (text rest cs : List ℕ) (c line later : ℕ) (quoting next : Quoting) (total : Option (List ℕ × Position)) → rest ≡ c ∷ cs → role_of quoting c ≡ Mark next
    → later ≡ line_after line c → with_text text (quoted_from rest quoting line) ≡ total → with_text text (quoted_from cs next later) ≡ total
marks text rest cs c line later quoting next total e r l so_far =
    ap (λ (n : ℕ). with_text text (quoted_from cs next n)) l ∙ sym (opened text rest cs c line quoting (Mark next) e r) ∙ so_far

pub adds : (text more rest cs : List ℕ) (c line later : ℕ) (quoting : Quoting) (total : Option (List ℕ × Position)) → rest ≡ c ∷ cs → role_of quoting c ≡ Letter
    → later ≡ line_after line c → more ≡ text ++ encode_utf8 c → with_text text (quoted_from rest quoting line) ≡ total → with_text more (quoted_from cs Inside later) ≡ total
adds text more rest cs c line later quoting total e r l m so_far =
    ap (λ (n : ℕ). with_text more (quoted_from cs Inside n)) l ∙ ap (λ (t : List ℕ). with_text t (quoted_from cs Inside (line_after line c))) m
    ∙ sym (regroup text (encode_utf8 c) (quoted_from cs Inside (line_after line c))) ∙ sym (opened text rest cs c line quoting Letter e r) ∙ so_far

pub begins : (found : Option (List ℕ × Position)) → with_text [] found ≡ found
begins None = refl
begins (Some found) = refl
