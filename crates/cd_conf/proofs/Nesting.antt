-- The end of a section.
use Rattle.cd_conf.specs.Pile.{front_of, open_of}
use Rattle.cd_conf.specs.Statements.{End, Open, StartOf, Statement}
use Rattle.cd_conf.specs.Tree.{joined, statements_of, statements_of_items}
use Rattle.cd_conf.specs.declared.item.Arg.{Arg}
use Rattle.cd_conf.specs.declared.item.Item.{Item}
use Rattle.cd_conf.specs.declared.pile.OpenSection.{OpenSection}
use Rattle.std.proofs.Common.{List, [], ap, append_assoc, map, refl, reverse, sym, ℕ, ◌++◌, ◌∙◌, ◌∷◌, ◌≡◌}
use Rattle.std.proofs.lemmas.List.Concat.{flat_map-append}
use Rattle.std.proofs.lemmas.List.{append-nil, map_push, reverse-append}
use Rattle.std.specs.List.{flat_map}

pub joined_all : (items : List Item) → joined (map statements_of items) ≡ statements_of_items items
joined_all [] = refl
joined_all (i ∷ items) = ap (λ (xs : List Statement). statements_of i ++ xs) (joined_all items)

pub section_is : (key : List ℕ) (args : List Arg) (line : ℕ) (items : List Item)
    → StartOf key args line ∷ (joined (map statements_of items) ++ End ∷ []) ≡ StartOf key args line ∷ (statements_of_items items ++ End ∷ [])
section_is key args line items = ap (λ (xs : List Statement). StartOf key args line ∷ (xs ++ End ∷ [])) (joined_all items)

pub closes : (old rest : List OpenSection) (s : OpenSection) (here kids mid now : List Item) (item : Item) (o : Open) (os : List Open)
    → reverse (map open_of old) ≡ o ∷ os → old ≡ rest ++ s ∷ [] → kids ≡ here → mid ≡ s.before → now ≡ mid ++ item ∷ []
    → statements_of item ≡ StartOf s.key s.args s.line ∷ (statements_of_items kids ++ End ∷ [])
    → (flat_map front_of rest ++ statements_of_items now ≡ (flat_map front_of old ++ statements_of_items here) ++ End ∷ []) × (reverse (map open_of rest) ≡ os)
closes old rest s here kids mid now item o os was e kid m n i =
    let stack : reverse (map open_of old) ≡ open_of s ∷ reverse (map open_of rest)
    = ap (λ (ss : List OpenSection). reverse (map open_of ss)) e ∙ ap reverse (map_push open_of rest s) ∙ reverse-append (map open_of rest) (open_of s ∷ []) in
    let tops : open_of s ∷ reverse (map open_of rest) ≡ o ∷ os = sym stack ∙ was in
    let inner : statements_of item ≡ StartOf s.key s.args s.line ∷ (statements_of_items here ++ End ∷ [])
    = i ∙ ap (λ (xs : List Item). StartOf s.key s.args s.line ∷ (statements_of_items xs ++ End ∷ [])) kid in
    let level : now ≡ s.before ++ item ∷ [] = n ∙ ap (λ (xs : List Item). xs ++ item ∷ []) m in
    let all : flat_map front_of old ≡ flat_map front_of rest ++ (statements_of_items s.before ++ StartOf s.key s.args s.line ∷ [])
    = ap (flat_map front_of) e ∙ flat_map-append front_of rest (s ∷ []) ∙ ap (λ (xs : List Statement). flat_map front_of rest ++ xs) (append-nil (front_of s)) in
    let own : statements_of_items now ≡ statements_of_items s.before ++ (StartOf s.key s.args s.line ∷ (statements_of_items here ++ End ∷ []))
    = ap statements_of_items level ∙ flat_map-append statements_of s.before (item ∷ []) ∙ ap (λ (xs : List Statement). statements_of_items s.before ++ xs) (append-nil (statements_of item) ∙ inner) in
    (rw (all, own) (simp append_assoc), cc)
