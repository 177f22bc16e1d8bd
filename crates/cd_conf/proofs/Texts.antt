-- The text of a section.
use Rattle.cd_conf.specs.Canonical.{deeper, end_text, item_text, option_text, start_text, text_step}
use Rattle.cd_conf.specs.Parts.{args_of, children_of, is_section, key_of}
use Rattle.cd_conf.specs.declared.item.Item.TheFolds.{fold_out-Item}
use Rattle.cd_conf.specs.declared.item.Item.{Item}
use Rattle.std.proofs.Common.{Bool, Err, List, Ok, OnOk, Result, ap, append_assoc, if◌then◌else◌, length, sym, take, true, ℕ, ◌++◌, ◌∙◌, ◌≡◌, ◌≤◌}
use Rattle.std.proofs.lemmas.List.Folds.{flat_map-map}
use Rattle.std.proofs.lemmas.List.{take_all}
use Rattle.std.specs.List.{flat_map}

pub on_ok : {A E : Type 0} (r : Result A E) {P Q : Type 0} → (P → Q) → OnOk r P → OnOk r Q
on_ok (Ok x) f h = f h
on_ok (Err e) f h = tt

-- the text of an item, one level opened
opened : (i : Item) (indent : List ℕ) → item_text i indent
    ≡ (if is_section i then start_text indent (key_of i) (args_of i) ++ flat_map (λ child. item_text child (deeper indent)) (children_of i) ++ end_text indent (key_of i)
    else option_text indent (key_of i) (args_of i))
opened i indent =
    ap (λ (text : List ℕ → List ℕ). text indent) (fold_out-Item (List ℕ → List ℕ) text_step i)
    ∙ ap (λ (inner : List ℕ). if is_section i then start_text indent (key_of i) (args_of i) ++ inner ++ end_text indent (key_of i) else option_text indent (key_of i) (args_of i))
    (flat_map-map (λ text. text (deeper indent)) item_text (children_of i))

regroup : (a b c d : List ℕ) → ((a ++ b) ++ c) ++ d ≡ a ++ ((b ++ c) ++ d)
regroup a b c d = simp append_assoc

pub whole : (i : Item) (n : ℕ) (indent before started inside out : List ℕ) → is_section i ≡ true → started ≡ before ++ start_text indent (key_of i) (args_of i)
    → inside ≡ started ++ flat_map (λ child. item_text child (deeper indent)) (take n (children_of i)) → length (children_of i) ≤ n
    → out ≡ inside ++ end_text indent (key_of i) → out ≡ before ++ item_text i indent
whole i n indent before started inside out is s c le o =
    let all : inside ≡ started ++ flat_map (λ child. item_text child (deeper indent)) (children_of i) = c ∙ ap (λ (xs : List Item). started ++ flat_map (λ child. item_text child (deeper indent)) xs) (take_all n (children_of i) le) in
    let text : item_text i indent ≡ start_text indent (key_of i) (args_of i) ++ flat_map (λ child. item_text child (deeper indent)) (children_of i) ++ end_text indent (key_of i)
    = opened i indent ∙ ap (λ (b : Bool). if b then start_text indent (key_of i) (args_of i) ++ flat_map (λ child. item_text child (deeper indent)) (children_of i) ++ end_text indent (key_of i) else option_text indent (key_of i) (args_of i)) is in
    o ∙ ap (λ (xs : List ℕ). xs ++ end_text indent (key_of i)) (all ∙ ap (λ (xs : List ℕ). xs ++ flat_map (λ child. item_text child (deeper indent)) (children_of i)) s)
    ∙ regroup before (start_text indent (key_of i) (args_of i)) (flat_map (λ child. item_text child (deeper indent)) (children_of i)) (end_text indent (key_of i)) ∙ ap (λ (xs : List ℕ). before ++ xs) (sym text)
