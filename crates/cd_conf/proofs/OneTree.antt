-- A text has one tree: the statements that items write out tell the items.
use Rattle.cd_conf.proofs.Nesting.{joined_all}
use Rattle.cd_conf.proofs.PrintedTexts.{AreReadable}
use Rattle.cd_conf.proofs.ReadParts.{ok_same}
use Rattle.cd_conf.proofs.ReadStatements.{text_good}
use Rattle.cd_conf.specs.Statements.{End, OptionOf, StartOf, Statement, Stray}
use Rattle.cd_conf.specs.Tree.{EachTextHasOneTree, item_step, joined, statements_of, statements_of_items, stray}
use Rattle.cd_conf.specs.declared.item.Arg.{Arg}
use Rattle.cd_conf.specs.declared.item.Item.TheFolds.{fold-roll-Item, ind-Item}
use Rattle.cd_conf.specs.declared.item.Item.TheOpen.{Item-F}
use Rattle.cd_conf.specs.declared.item.Item.{Item, roll-Item}
use Rattle.std.proofs.Common.{Bool, List, [], ap, append_assoc, false, if◌then◌else◌, map, refl, subst, sym, true, ℕ, ◌++◌, ◌∙◌, ◌∷◌, ◌≡◌}

-- each of the statements is one that a line says
abbrev AreSaid : List Statement → Type 0
AreSaid [] = Unit {0}
AreSaid (OptionOf key args line ∷ more) = AreSaid more
AreSaid (StartOf key args line ∷ more) = AreSaid more
AreSaid (End ∷ more) = AreSaid more
AreSaid (Stray ∷ more) = ⊥

said : (keys : List (List ℕ)) (statements : List Statement) → AreReadable keys statements → AreSaid (statements ++ End ∷ [])
said keys [] h = tt
said keys (OptionOf key args line ∷ more) h = said keys more h.3
said keys (StartOf key args line ∷ more) h = said (key ∷ keys) more h.3
said [] (End ∷ more) h = absurd h
said (key ∷ keys) (End ∷ more) h = said keys more h.1
said keys (Stray ∷ more) h = absurd h

-- one layer of an item
abbrev layer_of : Bool → List ℕ → List Arg → ℕ → List Item → Item-F Item
layer_of section key args line children = record { key = key; section = section; args = args; children = children; line = line }

-- what an item writes out tells the item, whatever follows it
record IsTold (i : Item) : Type 0 where
  fact : (j : Item) (more rest : List Statement) → AreSaid (statements_of i ++ more) → statements_of i ++ more ≡ statements_of j ++ rest → (i ≡ j) × (more ≡ rest) × AreSaid more

-- the same of what stands in a section, up to the section's end
abbrev AreTold : List Item → Type 0
AreTold xs =
    (ys : List Item) (more rest : List Statement) → AreSaid (joined (map statements_of xs) ++ End ∷ more)
    → joined (map statements_of xs) ++ End ∷ more ≡ joined (map statements_of ys) ++ End ∷ rest → (xs ≡ ys) × (more ≡ rest) × AreSaid more

-- no item begins with the end of a section
no_end : (section : Bool) (key : List ℕ) (args : List Arg) (line : ℕ) (parts : List (List Statement)) (more rest : List Statement)
    → End ∷ rest ≡ (if section then StartOf key args line ∷ (joined parts ++ End ∷ []) else OptionOf key args line ∷ stray parts) ++ more → ⊥
no_end true key args line parts more rest e = cc e
no_end false key args line parts more rest e = cc e

record IsNoEnd (i : Item) : Type 0 where
  fact : (more rest : List Statement) → End ∷ rest ≡ statements_of i ++ more → ⊥

item_no_end : (i : Item) → IsNoEnd i
item_no_end = ind-Item IsNoEnd (λ x y is. record {
  fact = λ more rest e.
      no_end x.section x.key x.args x.line (map statements_of x.children) more rest (e ∙ ap (λ (xs : List Statement). xs ++ more) (fold-roll-Item (List Statement) item_step x));
})

same_list : (i j : Item) (xs ys : List Item) → i ≡ j → xs ≡ ys → i ∷ xs ≡ j ∷ ys
same_list i j xs ys e f = ap (λ (k : Item). k ∷ xs) e ∙ ap (λ (zs : List Item). j ∷ zs) f

items_told : (es : List ((i : Item) × IsTold i)) → AreTold (map (λ e. e.0) es)
items_told [] [] more rest s e = (refl, cc e, s)
items_told [] (j ∷ ys) more rest s e =
    absurd ((item_no_end j).fact (joined (map statements_of ys) ++ End ∷ rest) more (e ∙ append_assoc (statements_of j) (joined (map statements_of ys)) (End ∷ rest)))
items_told (t ∷ es) [] more rest s e =
    let inner : List Statement = joined (map statements_of (map (λ x. x.0) es)) in
    absurd ((item_no_end t.0).fact (inner ++ End ∷ more) rest (sym e ∙ append_assoc (statements_of t.0) inner (End ∷ more)))
items_told (t ∷ es) (j ∷ ys) more rest s e =
    let inner : List Statement = joined (map statements_of (map (λ x. x.0) es)) in
    let other : List Statement = joined (map statements_of ys) in
    let mine = append_assoc (statements_of t.0) inner (End ∷ more) in
    let one = t.1.fact j (inner ++ End ∷ more) (other ++ End ∷ rest) (subst AreSaid mine s) (sym mine ∙ e ∙ append_assoc (statements_of j) other (End ∷ rest)) in
    let further = items_told es ys more rest one.2 one.1 in
    (same_list t.0 j (map (λ x. x.0) es) ys one.0 further.0, further.1, further.2)

alike : (section : Bool) (key now : List ℕ) (args found : List Arg) (line at : ℕ) (xs ys : List Item) → key ≡ now → args ≡ found → line ≡ at → xs ≡ ys
    → layer_of section key args line xs ≡ layer_of section now found at ys
alike section key now args found line at xs ys k a l c =
    ap (λ (z : List ℕ). layer_of section z args line xs) k ∙ ap (λ (z : List Arg). layer_of section now z line xs) a
    ∙ ap (λ (z : ℕ). layer_of section now found z xs) l ∙ ap (λ (z : List Item). layer_of section now found at z) c

sections_told : (key now : List ℕ) (args found : List Arg) (line at : ℕ) (xs ys : List Item) → AreTold xs → (more rest : List Statement)
    → AreSaid (StartOf key args line ∷ (joined (map statements_of xs) ++ End ∷ []) ++ more)
    → StartOf key args line ∷ (joined (map statements_of xs) ++ End ∷ []) ++ more ≡ StartOf now found at ∷ (joined (map statements_of ys) ++ End ∷ []) ++ rest
    → (layer_of true key args line xs ≡ layer_of true now found at ys) × (more ≡ rest) × AreSaid more
sections_told key now args found line at xs ys told more rest s e =
    let mine = append_assoc (joined (map statements_of xs)) (End ∷ []) more in
    let inner : (joined (map statements_of xs) ++ End ∷ []) ++ more ≡ (joined (map statements_of ys) ++ End ∷ []) ++ rest = cc e in
    let t = told ys more rest (subst AreSaid mine s) (sym mine ∙ inner ∙ append_assoc (joined (map statements_of ys)) (End ∷ []) rest) in
    (alike true key now args found line at xs ys (cc e) (cc e) (cc e) t.0, t.1, t.2)

options_told : (key now : List ℕ) (args found : List Arg) (line at : ℕ) (xs ys : List Item) (more rest : List Statement)
    → AreSaid (OptionOf key args line ∷ stray (map statements_of xs) ++ more)
    → OptionOf key args line ∷ stray (map statements_of xs) ++ more ≡ OptionOf now found at ∷ stray (map statements_of ys) ++ rest
    → (layer_of false key args line xs ≡ layer_of false now found at ys) × (more ≡ rest) × AreSaid more
options_told key now args found line at [] [] more rest s e = (alike false key now args found line at [] [] (cc e) (cc e) (cc e) refl, cc e, s)
options_told key now args found line at [] (y ∷ ys) more rest s e =
    let strays : more ≡ Stray ∷ rest = cc e in
    absurd (subst AreSaid strays s)
options_told key now args found line at (x ∷ xs) ys more rest s e = absurd s

layers_told : (b : Bool) (key : List ℕ) (args : List Arg) (line : ℕ) (xs : List Item) → AreTold xs → (c : Bool) (now : List ℕ) (found : List Arg) (at : ℕ) (ys : List Item)
    → (more rest : List Statement)
    → AreSaid ((if b then StartOf key args line ∷ (joined (map statements_of xs) ++ End ∷ []) else OptionOf key args line ∷ stray (map statements_of xs)) ++ more)
    → (if b then StartOf key args line ∷ (joined (map statements_of xs) ++ End ∷ []) else OptionOf key args line ∷ stray (map statements_of xs)) ++ more
    ≡ (if c then StartOf now found at ∷ (joined (map statements_of ys) ++ End ∷ []) else OptionOf now found at ∷ stray (map statements_of ys)) ++ rest
    → (layer_of b key args line xs ≡ layer_of c now found at ys) × (more ≡ rest) × AreSaid more
layers_told true key args line xs told true now found at ys more rest s e = sections_told key now args found line at xs ys told more rest s e
layers_told true key args line xs told false now found at ys more rest s e = absurd (cc e)
layers_told false key args line xs told true now found at ys more rest s e = absurd (cc e)
layers_told false key args line xs told false now found at ys more rest s e = options_told key now args found line at xs ys more rest s e

-- what one layer writes out tells it against any item
record IsApart (x : Item-F Item) (j : Item) : Type 0 where
  fact : (more rest : List Statement) → AreSaid (statements_of (roll-Item x) ++ more) → statements_of (roll-Item x) ++ more ≡ statements_of j ++ rest → (roll-Item x ≡ j) × (more ≡ rest) × AreSaid more

against : (x : Item-F Item) → AreTold x.children → (j : Item) → IsApart x j
against x told = ind-Item (IsApart x) (λ z w are. record {
  fact = λ more rest s e.
      let mine = fold-roll-Item (List Statement) item_step x in
      let other = fold-roll-Item (List Statement) item_step z in
      let t = layers_told x.section x.key x.args x.line x.children told z.section z.key z.args z.line z.children more rest
      (subst (λ (xs : List Statement). AreSaid (xs ++ more)) mine s)
      (sym (ap (λ (xs : List Statement). xs ++ more) mine) ∙ e ∙ ap (λ (xs : List Statement). xs ++ rest) other) in
      (ap roll-Item t.0, t.1, t.2);
})

item_told : (i : Item) → IsTold i
item_told = ind-Item IsTold (λ x y is. record {
  fact = λ j. (against x (subst (λ z. AreTold z.children) is (items_told y.children)) j).fact;
})

-- items with the fact beside each
with_facts : List Item → List ((i : Item) × IsTold i)
with_facts [] = []
with_facts (i ∷ items) = (i, item_told i) ∷ with_facts items

these_items : (items : List Item) → map (λ e. e.0) (with_facts items) ≡ items
unfolding with_facts
these_items [] = refl
these_items (i ∷ items) = ap (λ (xs : List Item). i ∷ xs) (these_items items)

pub one_tree : EachTextHasOneTree
one_tree bytes a b p q =
    let same : statements_of_items a ≡ statements_of_items b = ok_same (statements_of_items a) (statements_of_items b) (sym p ∙ q) in
    let told : AreTold a = subst AreTold (these_items a) (items_told (with_facts a)) in
    let closes : (items : List Item) → joined (map statements_of items) ++ End ∷ [] ≡ statements_of_items items ++ End ∷ [] = λ items. ap (λ (xs : List Statement). xs ++ End ∷ []) (joined_all items) in
    (told b [] [] (subst AreSaid (sym (closes a)) (said [] (statements_of_items a) (text_good bytes (statements_of_items a) p)))
    (closes a ∙ ap (λ (xs : List Statement). xs ++ End ∷ []) same ∙ sym (closes b))).0
