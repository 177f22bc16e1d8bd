-- Where the files are told, what the texts decide is one answer.
use Rattle.cd_conf.specs.Statements.{Statement, statements_of_text}
use Rattle.cd_conf.specs.Tree.{EachTextHasOneTree, IsTreeOf, statements_of_items}
use Rattle.cd_conf.specs.declared.fault.ConfFault.{ConfFault}
use Rattle.cd_conf.specs.declared.item.Item.{Item}
use Rattle.cd_io.specs.World.{FileTells, after_opening, opening}
use Rattle.cd_opening.specs.Laws.{IsOfTexts}
use Rattle.cd_opening.specs.Opened.{ComesTo}
use Rattle.cd_opening.specs.Types.{HasTypes, openings, types_of}
use Rattle.cd_opening.specs.declared.fault.OpeningFault.TheVariants as faults
use Rattle.cd_opening.specs.declared.fault.OpeningFault.{OpeningFault}
use Rattle.cd_opening.specs.declared.opening.Opened.{Opened}
use Rattle.cd_settings.specs.BigPatterns.{MayBeTooBig}
use Rattle.cd_settings.specs.Paths.{paths_of}
use Rattle.cd_settings.specs.Settings.{settings_of}
use Rattle.cd_settings.specs.declared.fault.SettingsFault.{SettingsFault}
use Rattle.cd_settings.specs.declared.settings.Settings.{Settings}
use Rattle.cd_value.specs.declared.data.DataSet.{DataSet}
use Rattle.std.proofs.Common.{Err, List, None, Ok, Option, Result, Some, ap, inl, inr, refl, subst, sym, ℕ, ◌∙◌, ◌≡◌, ◌⊎◌}

-- ---- the configuration's text

-- these are the items of the text, or its first fault
abbrev IsRead : List ℕ → Result (List Item) ConfFault → Type 0
IsRead text (Ok items) = IsTreeOf text items
IsRead text (Err fault) = statements_of_text text ≡ Err fault

good : {A F : Type 0} → Result A F → Type 0
good (Ok x) = Unit {0}
good (Err fault) = ⊥

abbrev fault_or : {A F : Type 0} → F → Result A F → F
fault_or other (Ok x) = other
fault_or other (Err fault) = fault

ok_is_no_err : {A F : Type 0} (x : A) (fault : F) → Ok x ≡ Err fault → ⊥
unfolding good
ok_is_no_err x fault is = subst good is tt

one_reading : EachTextHasOneTree → (text : List ℕ) (a b : Result (List Item) ConfFault) → IsRead text a → IsRead text b → a ≡ b
one_reading one text (Ok a) (Ok b) p q = ap (λ (items : List Item). Ok items) (one text a b p q)
one_reading one text (Ok a) (Err b) p q = absurd (ok_is_no_err (statements_of_items a) b (sym p ∙ q))
one_reading one text (Err a) (Ok b) p q = absurd (ok_is_no_err (statements_of_items b) a (sym q ∙ p))
one_reading one text (Err a) (Err b) p q =
    ap (λ (fault : ConfFault). Err fault) (ap (λ (r : Result (List Statement) ConfFault). fault_or a r) (sym p ∙ q))

abbrev text_or : List ℕ → Option (List ℕ) → List ℕ
text_or other None = other
text_or other (Some text) = text

one_text : (a b : List ℕ) → Some a ≡ Some b → a ≡ b
one_text a b is = ap (λ (text : Option (List ℕ)). text_or a text) is

-- ---- the answer that follows

abbrev with_settings : List Item → List DataSet → Result Settings SettingsFault → Result Opened OpeningFault
with_settings items types (Ok settings) = Ok (record { items = items; types = types; settings = settings })
with_settings items types (Err fault) = Err (faults.Settings fault)

abbrev with_types : List Item → Result (List DataSet) OpeningFault → Result Opened OpeningFault
with_types items (Ok types) = with_settings items types (settings_of items)
with_types items (Err fault) = Err fault

abbrev types_named : List ℕ → List FileTells → List Item → Result (List DataSet) OpeningFault
types_named path told items = types_of (paths_of items) (openings (paths_of items) (after_opening path told))

abbrev answer : List ℕ → List FileTells → Result (List Item) ConfFault → Result Opened OpeningFault
answer path told (Ok items) = with_types items (types_named path told items)
answer path told (Err fault) = Err (faults.Conf fault)

types_told : (path : List ℕ) (told : List FileTells) (items : List Item) (read : Result (List DataSet) OpeningFault)
    → HasTypes (paths_of items) (Some (after_opening path told)) read → types_named path told items ≡ read
types_told path told items read has = subst (λ (texts : List (Option (List ℕ))). types_of (paths_of items) texts ≡ read) has.next has.types

record Decided (path : List ℕ) (told : List FileTells) (a : Result Opened OpeningFault) : Type 0 where
  text : List ℕ
  next : opening path told ≡ Some text
  read : Result (List Item) ConfFault
  is : IsRead text read
  gives : answer path told read ≡ a

-- a fault that is no pattern that may be too big is the first
first : (items : List Item) (fault : SettingsFault) → (MayBeTooBig items fault → ⊥) → (settings_of items ≡ Err fault) ⊎ MayBeTooBig items fault → settings_of items ≡ Err fault
first items fault other refused =
    elim refused [
      | inl is ↦ is
      | inr big ↦ absurd (other big)
    ]

decided : (path : List ℕ) (told : List FileTells) (a : Result Opened OpeningFault) → ComesTo path (Some told) a → IsOfTexts path told a → Decided path told a
decided path told (Ok found) c by = record {
  text = c.items.text;
  next = c.items.next;
  read = Ok found.items;
  is = c.items.tree;
  gives = ap (λ (r : Result (List DataSet) OpeningFault). with_types found.items r) (types_told path told found.items (Ok found.types) c.types)
      ∙ ap (λ (r : Result Settings SettingsFault). with_settings found.items found.types r) c.settings;
}
decided path told (Err (faults.Conf fault)) c by = record { text = c.text; next = c.next; read = Err fault; is = c.refused; gives = refl }
decided path told (Err (faults.Types at fault)) c by = record {
  text = c.read.text;
  next = c.read.next;
  read = Ok c.items;
  is = c.read.tree;
  gives = ap (λ (r : Result (List DataSet) OpeningFault). with_types c.items r) (types_told path told c.items (Err (faults.Types at fault)) c.refused);
}
decided path told (Err (faults.Settings fault)) c by = record {
  text = c.read.text;
  next = c.read.next;
  read = Ok c.items;
  is = c.read.tree;
  gives = ap (λ (r : Result (List DataSet) OpeningFault). with_types c.items r) (types_told path told c.items (Ok c.types) c.known)
      ∙ ap (λ (r : Result Settings SettingsFault). with_settings c.items c.types r) (first c.items fault (λ big. by (record { items = c.items; read = c.read; big = big })) c.refused);
}
decided path told (Err (faults.Open at)) c by = absurd by
decided path told (Err (faults.Read at)) c by = absurd by
decided path told (Err faults.Memory) c by = absurd by

pub one_answer : EachTextHasOneTree → (path : List ℕ) (told : List FileTells) (a b : Result Opened OpeningFault) → ComesTo path (Some told) a → ComesTo path (Some told) b
    → IsOfTexts path told a → IsOfTexts path told b → a ≡ b
one_answer one path told a b p q of_a of_b =
    let x = decided path told a p of_a in
    let y = decided path told b q of_b in
    let text : x.text ≡ y.text = one_text x.text y.text (sym x.next ∙ y.next) in
    let read : x.read ≡ y.read = one_reading one y.text x.read y.read (subst (λ (t : List ℕ). IsRead t x.read) text x.is) y.is in
    sym x.gives ∙ ap (λ (r : Result (List Item) ConfFault). answer path told r) read ∙ y.gives
