-- The text of items is that of the statements that they write out.
use Rattle.cd_conf.specs.Canonical.{deeper, end_text, item_text, items_text, option_text, start_text, text_step}
use Rattle.cd_conf.specs.Statements.{End, OptionOf, StartOf, Statement, Stray}
use Rattle.cd_conf.specs.Tree.{item_step, joined, statements_of, statements_of_items, stray}
use Rattle.cd_conf.specs.declared.item.Arg.{Arg}
use Rattle.cd_conf.specs.declared.item.Item.TheFolds.{fold-roll-Item, ind-Item}
use Rattle.cd_conf.specs.declared.item.Item.{Item}
use Rattle.std.proofs.Common.{Bool, List, [], ap, append_assoc, false, if◌then◌else◌, map, refl, subst, sym, true, ℕ, ◌++◌, ◌∙◌, ◌∷◌, ◌≡◌}
use Rattle.std.specs.List.{flat_map}

-- the indent of a line in sections of these keys
abbrev pub indent_in : List (List ℕ) → List ℕ
indent_in [] = []
indent_in (key ∷ keys) = deeper (indent_in keys)

-- the lines of statements, in sections of these keys, the innermost first
unfoldable pub written : List (List ℕ) → List Statement → List ℕ
written keys [] = []
written keys (OptionOf key args line ∷ more) = option_text (indent_in keys) key args ++ written keys more
written keys (StartOf key args line ∷ more) = start_text (indent_in keys) key args ++ written (key ∷ keys) more
written [] (End ∷ more) = written [] more
written (key ∷ keys) (End ∷ more) = end_text (indent_in keys) key ++ written keys more
written keys (Stray ∷ more) = written keys more

pub record IsWritten (i : Item) : Type 0 where
  pub fact : (keys : List (List ℕ)) (more : List Statement) → written keys (statements_of i ++ more) ≡ item_text i (indent_in keys) ++ written keys more

-- the same of items with the fact beside each
pub items_written : (es : List ((i : Item) × IsWritten i)) (keys : List (List ℕ)) (more : List Statement)
    → written keys (joined (map statements_of (map (λ e. e.0) es)) ++ more)
    ≡ flat_map (λ text. text (indent_in keys)) (map item_text (map (λ e. e.0) es)) ++ written keys more
items_written [] keys more = refl
items_written (e ∷ es) keys more =
    let rest : List Statement = joined (map statements_of (map (λ x. x.0) es)) in
    ap (written keys) (append_assoc (statements_of e.0) rest more) ∙ e.1.fact keys (rest ++ more)
    ∙ ap (λ (xs : List ℕ). item_text e.0 (indent_in keys) ++ xs) (items_written es keys more)
    ∙ sym (append_assoc (item_text e.0 (indent_in keys)) (flat_map (λ text. text (indent_in keys)) (map item_text (map (λ x. x.0) es))) (written keys more))

-- the same of what stands in a section
abbrev AreWritten : List Item → Type 0
AreWritten items = (keys : List (List ℕ)) (more : List Statement) → written keys (joined (map statements_of items) ++ more) ≡ flat_map (λ text. text (indent_in keys)) (map item_text items) ++ written keys more

regroup : (a b c d : List ℕ) → a ++ (b ++ (c ++ d)) ≡ ((a ++ b) ++ c) ++ d
regroup a b c d = simp append_assoc

section_written : (key : List ℕ) (args : List Arg) (line : ℕ) (items : List Item) → AreWritten items → (keys : List (List ℕ)) (more : List Statement)
    → written keys (StartOf key args line ∷ (joined (map statements_of items) ++ End ∷ []) ++ more)
    ≡ (start_text (indent_in keys) key args ++ flat_map (λ text. text (deeper (indent_in keys))) (map item_text items) ++ end_text (indent_in keys) key) ++ written keys more
unfolding written
section_written key args line items h keys more =
    let inner : List Statement = joined (map statements_of items) in
    ap (λ (xs : List Statement). start_text (indent_in keys) key args ++ written (key ∷ keys) xs) (append_assoc inner (End ∷ []) more)
    ∙ ap (λ (xs : List ℕ). start_text (indent_in keys) key args ++ xs) (h (key ∷ keys) (End ∷ more))
    ∙ regroup (start_text (indent_in keys) key args) (flat_map (λ text. text (deeper (indent_in keys))) (map item_text items)) (end_text (indent_in keys) key) (written keys more)

stray_written : (parts : List (List Statement)) (keys : List (List ℕ)) (more : List Statement) → written keys (stray parts ++ more) ≡ written keys more
unfolding written
stray_written [] keys more = refl
stray_written (part ∷ parts) keys more = refl

option_written : (key : List ℕ) (args : List Arg) (line : ℕ) (items : List Item) (keys : List (List ℕ)) (more : List Statement)
    → written keys (OptionOf key args line ∷ stray (map statements_of items) ++ more) ≡ option_text (indent_in keys) key args ++ written keys more
unfolding written
option_written key args line items keys more = ap (λ (xs : List ℕ). option_text (indent_in keys) key args ++ xs) (stray_written (map statements_of items) keys more)

layer : (section : Bool) (key : List ℕ) (args : List Arg) (line : ℕ) (items : List Item) → AreWritten items → (keys : List (List ℕ)) (more : List Statement)
    → written keys ((if section then StartOf key args line ∷ (joined (map statements_of items) ++ End ∷ []) else OptionOf key args line ∷ stray (map statements_of items)) ++ more)
    ≡ (if section then start_text (indent_in keys) key args ++ flat_map (λ text. text (deeper (indent_in keys))) (map item_text items) ++ end_text (indent_in keys) key
    else option_text (indent_in keys) key args) ++ written keys more
layer true key args line items h keys more = section_written key args line items h keys more
layer false key args line items h keys more = option_written key args line items keys more

pub item_written : (i : Item) → IsWritten i
item_written = ind-Item IsWritten (λ x y is. record {
  fact = λ keys more.
      let inner : AreWritten x.children = subst (λ z. AreWritten z.children) is (items_written y.children) in
      ap (λ (xs : List Statement). written keys (xs ++ more)) (fold-roll-Item (List Statement) item_step x) ∙ layer x.section x.key x.args x.line x.children inner keys more
      ∙ ap (λ (text : List ℕ → List ℕ). text (indent_in keys) ++ written keys more) (sym (fold-roll-Item (List ℕ → List ℕ) text_step x));
})

all_written : (items : List Item) (keys : List (List ℕ)) → written keys (statements_of_items items) ≡ flat_map (λ item. item_text item (indent_in keys)) items
unfolding written
all_written [] keys = refl
all_written (i ∷ items) keys =
    (item_written i).fact keys (statements_of_items items) ∙ ap (λ (xs : List ℕ). item_text i (indent_in keys) ++ xs) (all_written items keys)

-- the canonical text of items is that of their statements
pub items_are_written : (items : List Item) → items_text items ≡ written [] (statements_of_items items)
items_are_written items = sym (all_written items [])
