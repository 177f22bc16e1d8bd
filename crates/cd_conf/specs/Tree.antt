-- The statements that a tree of items writes out.
use Rattle.cd_conf.specs.Statements.{End, OptionOf, StartOf, Statement, Stray, statements_of_text}
use Rattle.cd_conf.specs.declared.item.Item.TheFolds.{fold-Item}
use Rattle.cd_conf.specs.declared.item.Item.TheOpen.{Item-F}
use Rattle.cd_conf.specs.declared.item.Item.{Item}
use Rattle.std.specs.List.{flat_map}
use Rattle.std.specs.Prelude.{List, Ok, [], if◌then◌else◌, ℕ, ◌++◌, ◌∷◌, ◌≡◌}

abbrev pub joined : List (List Statement) → List Statement
joined parts = flat_map (λ part. part) parts

-- nothing stands in an option
abbrev pub stray : List (List Statement) → List Statement
stray [] = []
stray (part ∷ parts) = Stray ∷ []

-- an option; or a section's start, what stands in it, and its end
abbrev pub item_step : Item-F (List Statement) → List Statement
item_step i =
    if i.section then StartOf i.key i.args i.line ∷ (joined i.children ++ End ∷ [])
    else OptionOf i.key i.args i.line ∷ stray i.children

abbrev pub statements_of : Item → List Statement
statements_of = fold-Item (List Statement) item_step

-- the statements that items write out, in order
abbrev pub statements_of_items : List Item → List Statement
statements_of_items items = flat_map statements_of items

-- items are those of a text
abbrev pub IsTreeOf : List ℕ → List Item → Type 0
IsTreeOf bytes items = statements_of_text bytes ≡ Ok (statements_of_items items)

-- a text has one tree
abbrev pub EachTextHasOneTree : Type 0
EachTextHasOneTree =
    (bytes : List ℕ) (items others : List Item) → IsTreeOf bytes items → IsTreeOf bytes others → items ≡ others
