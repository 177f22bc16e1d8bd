-- What is read of the canonical text of items.
use Rattle.cd_conf.specs.Canonical.{items_text}
use Rattle.cd_conf.specs.Statements.{End, OptionOf, StartOf, Statement, Stray, statements_of_text}
use Rattle.cd_conf.specs.Tree.{IsTreeOf, statements_of_items}
use Rattle.cd_conf.specs.declared.item.Item.{Item}
use Rattle.cd_conf.specs.declared.limits.TheConstants.{FILE_LIMIT}
use Rattle.std.specs.Prelude.{List, Ok, [], length, ℕ, ◌+◌, ◌∷◌, ◌≡◌, ◌≤◌}

-- statements one a line, from a line on
abbrev pub numbered : ℕ → List Statement → List Statement
numbered line [] = []
numbered line (OptionOf key args _ ∷ more) = OptionOf key args line ∷ numbered (line + 1) more
numbered line (StartOf key args _ ∷ more) = StartOf key args line ∷ numbered (line + 1) more
numbered line (End ∷ more) = End ∷ numbered (line + 1) more
numbered line (Stray ∷ more) = Stray ∷ numbered line more

-- the canonical text of items that were read has the same statements, one a line, where it isn't
-- too long to be read
abbrev pub PrintIsReadAgain : Type 0
PrintIsReadAgain =
    (bytes : List ℕ) (items : List Item) → IsTreeOf bytes items →
    length (items_text items) ≤ FILE_LIMIT →
    statements_of_text (items_text items) ≡ Ok (numbered 1 (statements_of_items items))

-- items that differ in lines alone have one canonical text
abbrev pub PrintIsOneForm : Type 0
PrintIsOneForm =
    (line : ℕ) (items again : List Item) → statements_of_items again ≡ numbered line (statements_of_items items) →
    items_text again ≡ items_text items
