-- Tables of the items that may stand in a place: a row an option, as in the manual page.
use Prim.Native.String.{String}
use Rattle.cd_conf.specs.Parts.{args_of, is_section, key_of}
use Rattle.cd_conf.specs.declared.item.Item.{Item}
use Rattle.cd_reading.specs.First.{◌>>=◌}
use Rattle.cd_settings.specs.Faults.{at}
use Rattle.cd_settings.specs.Forms.{Form}
use Rattle.cd_settings.specs.declared.fault.SettingsFault.{SettingsFault}
use Rattle.cd_settings.specs.declared.fault.SettingsKind.TheVariants.{UnknownOption, WrongArgs}
use Rattle.std.specs.Prelude.{Bool, Err, List, None, Ok, Option, Result, Some, [], codes, if◌then◌else◌, not, ℕ, ◌&&◌, ◌∷◌}
use Rattle.std.specs.Str.{str_eq_ignore_ascii_case}

-- a row: the items that it is for, and what the state is after one of them, or the item's fault
pub record Row (S : Type 0) : Type 0 where
  pub is_for : Item → Bool
  pub change : S → Item → Result S SettingsFault

-- an item changes a state by the first row that is for it, and otherwise in another way
abbrev pub by_table_or : {S : Type 0} →
    (S → Item → Result S SettingsFault) → List (Row S) → S → Item → Result S SettingsFault
by_table_or otherwise [] s item = otherwise s item
by_table_or otherwise (row ∷ rows) s item =
    if row.is_for item then row.change s item else by_table_or otherwise rows s item

-- an item that no row is for is unknown
abbrev pub unknown : {S : Type 0} → S → Item → Result S SettingsFault
unknown s item = Err (at UnknownOption item)

abbrev pub by_table : {S : Type 0} → List (Row S) → S → Item → Result S SettingsFault
by_table rows = by_table_or unknown rows

-- the state after all items, one after the other, or the first fault
unfoldable pub after_all : {S : Type 0} → (S → Item → Result S SettingsFault) → S → List Item → Result S SettingsFault
after_all change s [] = Ok s
after_all change s (item ∷ items) = change s item >>= λ changed. after_all change changed items

-- ---- the items of a name; keys are compared without case

abbrev pub has_key : List ℕ → Item → Bool
has_key name item = str_eq_ignore_ascii_case (key_of item) name

abbrev pub is_option_named : List ℕ → Item → Bool
is_option_named name item = not (is_section item) && has_key name item

abbrev pub is_section_named : List ℕ → Item → Bool
is_section_named name item = is_section item && has_key name item

-- ---- what the values of an item give, where they are of the form

abbrev pub need : {A : Type 0} → Item → Option A → Result A SettingsFault
need item None = Err (at WrongArgs item)
need item (Some x) = Ok x

abbrev pub need_only : {A : Type 0} → Item → Option A → Result (Unit {0}) SettingsFault
need_only item value = need item value >>= λ x. Ok tt

abbrev pub given : {S A : Type 0} → Item → Option A → (A → Item → Result S SettingsFault) → Result S SettingsFault
given item value change = need item value >>= λ x. change x item

-- what a section gives, where its options are enough
abbrev pub needs : {A : Type 0} → Bool → Item → A → Result A SettingsFault
needs enough item x = if enough then Ok x else Err (at WrongArgs item)

-- ---- the rows

-- the items that a test lets through change the state, with values of a form
abbrev pub row : {S A : Type 0} → (Item → Bool) → Form A → (S → A → Item → Result S SettingsFault) → Row S
row is_for form change =
    record { is_for = is_for; change = λ s item. given item (form (args_of item)) (change s) }

-- the option of a name sets something
abbrev pub option : {S A : Type 0} → String → Form A → (S → A → S) → Row S
option name form put = row (is_option_named (codes name)) form (λ s x item. Ok (put s x))

-- ... has no effect
abbrev pub ignored : {S A : Type 0} → String → Form A → Row S
ignored name form = option name form (λ s x. s)

-- ... changes the state in a way that depends on the item
abbrev pub option_of : {S A : Type 0} → String → Form A → (S → A → Item → Result S SettingsFault) → Row S
option_of name = row (is_option_named (codes name))

-- the section of a name changes the state by what stands in it
abbrev pub section : {S A : Type 0} → String → Form A → (S → A → Item → Result S SettingsFault) → Row S
section name = row (is_section_named (codes name))

-- an option or a section of a name
abbrev pub either : {S A : Type 0} → String → Form A → (S → A → Item → Result S SettingsFault) → Row S
either name = row (has_key (codes name))
