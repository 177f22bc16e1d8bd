-- The first fault of numbered things, one after another.
use Rattle.std.proofs.Common.{◌≡◌, ℕ, ◌+◌, ◌<◌, List, ◌∷◌, length, drop, get_or, Option, None, Some, sym, ap, ◌∙◌}
use Rattle.std.proofs.lemmas.List.{drop_more}
use Rattle.std.specs.Option.{option_or}
use Rattle.cd_chain.specs.declared.data.ChainFault.{ChainFault}
use Rattle.cd_chain.specs.Tables.{first_fault}

at_next : {A : Type 0} (fault : ℕ → A → Option ChainFault) (xs : List A) (i : ℕ) (x : A) → i < length xs → x ≡ get_or xs i x → first_fault fault i (drop i xs) ≡ option_or (fault i x) (first_fault fault (i + 1) (drop (i + 1) xs))
at_next fault xs i x below read = ap (first_fault fault i) (drop_more xs i x below ∙ ap (λ y. y ∷ drop (i + 1) xs) (sym read))

pub fine : {A : Type 0} (fault : ℕ → A → Option ChainFault) (xs : List A) (i : ℕ) (x : A) (o : Option ChainFault) → i < length xs → x ≡ get_or xs i x → o ≡ fault i x → o ≡ None
    → first_fault fault i (drop i xs) ≡ first_fault fault 0 xs → first_fault fault (i + 1) (drop (i + 1) xs) ≡ first_fault fault 0 xs
fine fault xs i x o below read is none same = sym (at_next fault xs i x below read ∙ ap (λ o. option_or o (first_fault fault (i + 1) (drop (i + 1) xs))) (sym is ∙ none)) ∙ same

pub faulty : {A : Type 0} (fault : ℕ → A → Option ChainFault) (xs : List A) (i : ℕ) (x : A) (o : Option ChainFault) (found : ChainFault) → i < length xs → x ≡ get_or xs i x → o ≡ fault i x → o ≡ Some found
    → first_fault fault i (drop i xs) ≡ first_fault fault 0 xs → Some found ≡ first_fault fault 0 xs
faulty fault xs i x o found below read is some same = sym (at_next fault xs i x below read ∙ ap (λ o. option_or o (first_fault fault (i + 1) (drop (i + 1) xs))) (sym is ∙ some)) ∙ same
