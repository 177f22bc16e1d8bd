-- The faults of chains, and the items at whose lines they are told.
use Rattle.cd_chain.specs.Refusals.{IsFaultOf}
use Rattle.cd_chain.specs.Tables.{fault_of}
use Rattle.cd_chain.specs.declared.data.Chain.{Chain}
use Rattle.cd_chain.specs.declared.data.ChainFault.TheVariants as faults
use Rattle.cd_chain.specs.declared.data.ChainFault.{ChainFault}
use Rattle.cd_conf.specs.Parts.{children_of}
use Rattle.cd_conf.specs.declared.item.Item.{Item}
use Rattle.cd_reading.specs.Gives.{Refuses}
use Rattle.cd_settings.specs.ChainLines.{accepted, chain_fault, refused_for, targets_in_rules}
use Rattle.cd_settings.specs.Faults.{settings_fault}
use Rattle.cd_settings.specs.Tables.{is_section_named}
use Rattle.std.proofs.Common.{Bool, List, None, Ok, Option, Some, ap, codes, cond, drop, false, get_or, length, refl, subst, sym, true, ℕ, ◌+◌, ◌++◌, ◌<◌, ◌∙◌, ◌∷◌, ◌≡◌, ◌≤◌}
use Rattle.std.proofs.lemmas.List.Folds.{find-append}
use Rattle.std.proofs.lemmas.List.{drop_all, drop_more}
use Rattle.std.specs.List.{filter, find, flat_map}
use Rattle.std.specs.Option.{option_or}
use Rattle.std.specs.Prelude.{if◌then◌else◌, slice_get, suc}

-- the fault of a table that is refused is its own
pub is_refused : (items : List Item) (chains : List Chain) (why : ChainFault) → IsFaultOf chains why → Refuses (settings_fault (chain_fault items why)) (accepted items chains)
is_refused items chains (faults.Duplicate n) h = ap (refused_for items chains) h
is_refused items chains (faults.EmptyRule n r) h = ap (refused_for items chains) h
is_refused items chains (faults.UnknownChain n name) h = ap (refused_for items chains) h
is_refused items chains (faults.JumpCycle names) h = ap (refused_for items chains) h
is_refused items chains (faults.TooHeavy n) h = ap (refused_for items chains) h
is_refused items chains faults.Memory h = tt

pub is_accepted : (items : List Item) (chains table : List Chain) → table ≡ chains → fault_of table ≡ None → accepted items chains ≡ Ok table
is_accepted items chains table same fine =
    ap (refused_for items chains) (subst (λ (cs : List Chain). fault_of cs ≡ None) same fine) ∙ ap (λ (cs : List Chain). Ok cs) (sym same)

-- ---- the section of a number

-- what follows the first items of a list
next : (p : Item → Bool) (items : List Item) (i : ℕ) (x : Item) → i < length items → x ≡ get_or items i x
    → filter p (drop i items) ≡ cond (p x) (x ∷ filter p (drop (i + 1) items)) (filter p (drop (i + 1) items))
next p items i x lt is =
    ap (filter p) (drop_more items i x lt ∙ ap (λ (y : Item). y ∷ drop (i + 1) items) (sym is))

pub passed : (p : Item → Bool) (items : List Item) (i n left : ℕ) (x : Item) → i < length items → x ≡ get_or items i x → p x ≡ false
    → slice_get (filter p (drop i items)) left ≡ slice_get (filter p items) n → slice_get (filter p (drop (i + 1) items)) left ≡ slice_get (filter p items) n
passed p items i n left x lt is fails h =
    sym (ap (λ (xs : List Item). slice_get xs left) (next p items i x lt is ∙ ap (λ b. cond b (x ∷ filter p (drop (i + 1) items)) (filter p (drop (i + 1) items))) fails)) ∙ h

pub counted : (p : Item → Bool) (items : List Item) (i n left : ℕ) (x : Item) → i < length items → x ≡ get_or items i x → p x ≡ true
    → slice_get (filter p (drop i items)) (suc left) ≡ slice_get (filter p items) n → slice_get (filter p (drop (i + 1) items)) left ≡ slice_get (filter p items) n
counted p items i n left x lt is fits h =
    sym (ap (λ (xs : List Item). slice_get xs (suc left)) (next p items i x lt is ∙ ap (λ b. cond b (x ∷ filter p (drop (i + 1) items)) (filter p (drop (i + 1) items))) fits)) ∙ h

pub reached : (p : Item → Bool) (items : List Item) (i n : ℕ) (x : Item) → i < length items → x ≡ get_or items i x → p x ≡ true
    → slice_get (filter p (drop i items)) 0 ≡ slice_get (filter p items) n → Some x ≡ slice_get (filter p items) n
reached p items i n x lt is fits h =
    sym (ap (λ (xs : List Item). slice_get xs 0) (next p items i x lt is ∙ ap (λ b. cond b (x ∷ filter p (drop (i + 1) items)) (filter p (drop (i + 1) items))) fits)) ∙ h

pub none_left : (p : Item → Bool) (items : List Item) (i n left : ℕ) → length items ≤ i
    → slice_get (filter p (drop i items)) left ≡ slice_get (filter p items) n → None ≡ slice_get (filter p items) n
none_left p items i n left le h = sym (ap (λ (xs : List Item). slice_get (filter p xs) left) (drop_all i items le)) ∙ h

-- ---- the jumps in rules

abbrev is_rule : Item → Bool
is_rule item = is_section_named (codes "Rule") item

in_next : (items : List Item) (i : ℕ) (x : Item) → i < length items → x ≡ get_or items i x
    → targets_in_rules (drop i items) ≡ (if is_rule x then children_of x ++ targets_in_rules (drop (i + 1) items) else targets_in_rules (drop (i + 1) items))
in_next items i x lt is =
    ap targets_in_rules (drop_more items i x lt ∙ ap (λ (y : Item). y ∷ drop (i + 1) items) (sym is)) ∙ by (is_rule x)
  where
    by : (b : Bool) → flat_map children_of (cond b (x ∷ filter is_rule (drop (i + 1) items)) (filter is_rule (drop (i + 1) items))) ≡ (if b then children_of x ++ targets_in_rules (drop (i + 1) items) else targets_in_rules (drop (i + 1) items))
    by true = refl
    by false = refl

pub not_rule : (p : Item → Bool) (items : List Item) (i : ℕ) (x : Item) (total : Option Item) → i < length items → x ≡ get_or items i x → is_rule x ≡ false
    → find p (targets_in_rules (drop i items)) ≡ total → find p (targets_in_rules (drop (i + 1) items)) ≡ total
not_rule p items i x total lt is fails h =
    sym (ap (find p) (in_next items i x lt is ∙ ap (λ b. if b then children_of x ++ targets_in_rules (drop (i + 1) items) else targets_in_rules (drop (i + 1) items)) fails)) ∙ h

in_rule : (p : Item → Bool) (items : List Item) (i : ℕ) (x : Item) → i < length items → x ≡ get_or items i x → is_rule x ≡ true
    → find p (targets_in_rules (drop i items)) ≡ option_or (find p (children_of x)) (find p (targets_in_rules (drop (i + 1) items)))
in_rule p items i x lt is fits =
    ap (find p) (in_next items i x lt is ∙ ap (λ b. if b then children_of x ++ targets_in_rules (drop (i + 1) items) else targets_in_rules (drop (i + 1) items)) fits)
    ∙ find-append p (children_of x) (targets_in_rules (drop (i + 1) items))

pub rule_without : (p : Item → Bool) (items : List Item) (i : ℕ) (x : Item) (total : Option Item) → i < length items → x ≡ get_or items i x → is_rule x ≡ true
    → find p (children_of x) ≡ None
    → find p (targets_in_rules (drop i items)) ≡ total → find p (targets_in_rules (drop (i + 1) items)) ≡ total
rule_without p items i x total lt is fits none h =
    sym (in_rule p items i x lt is fits ∙ ap (λ o. option_or o (find p (targets_in_rules (drop (i + 1) items)))) none) ∙ h

pub rule_with : (p : Item → Bool) (items : List Item) (i : ℕ) (x jump : Item) (total : Option Item) → i < length items → x ≡ get_or items i x → is_rule x ≡ true
    → find p (children_of x) ≡ Some jump
    → find p (targets_in_rules (drop i items)) ≡ total → Some jump ≡ total
rule_with p items i x jump total lt is fits found h =
    sym (in_rule p items i x lt is fits ∙ ap (λ o. option_or o (find p (targets_in_rules (drop (i + 1) items)))) found) ∙ h

pub no_rule_left : (p : Item → Bool) (items : List Item) (i : ℕ) (total : Option Item) → length items ≤ i
    → find p (targets_in_rules (drop i items)) ≡ total → None ≡ total
no_rule_left p items i total le h = sym (ap (λ (xs : List Item). find p (targets_in_rules xs)) (drop_all i items le)) ∙ h

-- a jump of a rule comes first
pub in_both : (p : Item → Bool) (items : List Item) (o : Option Item) → o ≡ find p (targets_in_rules items)
    → option_or o (find p items) ≡ find p (targets_in_rules items ++ items)
in_both p items o is = ap (λ o. option_or o (find p items)) is ∙ sym (find-append p (targets_in_rules items) items)
