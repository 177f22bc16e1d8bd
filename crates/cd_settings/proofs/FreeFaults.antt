-- What the answer to a pattern that wasn't compiled leaves free.
use Rattle.cd_conf.specs.Parts.{args_of, line_of}
use Rattle.cd_conf.specs.declared.item.Item.{Item}
use Rattle.cd_pattern.specs.Patterns.{is_pattern}
use Rattle.cd_reading.specs.First.{◌>>=◌}
use Rattle.cd_reading.specs.Gives.{Gives, Refuses}
use Rattle.cd_settings.specs.BigPatterns.{as_settings_fault, bad_pattern, begins_with_pattern, has_line, item_fault, option_line, pattern_lines, told_of}
use Rattle.cd_settings.specs.Faults.{settings_fault}
use Rattle.cd_settings.specs.MatchOptions.{pattern_of}
use Rattle.cd_settings.specs.declared.fault.ItemFault.TheVariants.{Fault, NotCompiled}
use Rattle.cd_settings.specs.declared.fault.ItemFault.{ItemFault}
use Rattle.cd_settings.specs.declared.fault.SettingsFault.{SettingsFault}
use Rattle.cd_settings.specs.declared.fault.SettingsKind.TheVariants as kinds
use Rattle.cd_settings.specs.declared.fault.SettingsKind.{SettingsKind}
use Rattle.std.proofs.Common.{Bool, Err, List, None, Ok, Option, Result, Some, [], ap, eq-eqb, false, is_ok, refl, subst, sym, true, ℕ, ◌&&◌, ◌++◌, ◌==◌, ◌||◌, ◌∙◌, ◌∷◌, ◌≡◌}
use Rattle.std.proofs.lemmas.List.Folds.{list_any-append}
use Rattle.std.specs.Prelude.{if◌then◌else◌}

-- the one lines are among the others
abbrev pub IsAmong : List ℕ → List ℕ → Type 0
IsAmong small big = (line : ℕ) → has_line small line ≡ true → has_line big line ≡ true

pub on_left : (xs ys : List ℕ) → IsAmong xs (xs ++ ys)
on_left xs ys line h = list_any-append (λ other. other == line) xs ys ∙ ap (λ b. b || has_line ys line) h

pub on_right : (xs ys : List ℕ) → IsAmong ys (xs ++ ys)
on_right xs ys line h = list_any-append (λ other. other == line) xs ys ∙ ap (λ b. has_line xs line || b) h ∙ or_true (has_line xs line)
  where
    or_true : (b : Bool) → b || true ≡ true
    or_true true = refl
    or_true false = refl

-- what is free at some lines is free where those are among others
pub widened : {Y : Type 0} (e : ItemFault) (small big : List ℕ) (read : Result Y SettingsFault) → IsAmong small big
    → Refuses (item_fault small e) read → Refuses (item_fault big e) read
widened (Fault fault) small big read more h = h
widened {Y} (NotCompiled line) small big read more h = by (has_line small line) (has_line big line) (more line) h
  where
    by : (s b : Bool) → (s ≡ true → b ≡ true) → Refuses {Y = Y} {F = SettingsFault} (if s then None else Some (bad_pattern line)) read → Refuses {Y = Y} {F = SettingsFault} (if b then None else Some (bad_pattern line)) read
    by true true m h = tt
    by true false m h = let e : false ≡ true = m refl in absurd (cc)
    by false true m h = tt
    by false false m h = h

-- a text that isn't compiled is no pattern, or its line is free
pub not_compiled : (item : Item) (t : List ℕ) → begins_with_pattern (args_of item) ≡ is_pattern t
    → Refuses (item_fault (option_line item (pattern_of item t)) (NotCompiled (line_of item))) (pattern_of item t)
not_compiled item t is = by (begins_with_pattern (args_of item)) (is_pattern t) is
  where
    same : has_line (line_of item ∷ []) (line_of item) ≡ true
    same = ap (λ b. b || false) (eq-eqb (line_of item) (line_of item) refl)

    read : Bool → Result (List ℕ) SettingsFault
    read p = if p then Ok t else Err (bad_pattern (line_of item))

    by : (b p : Bool) → b ≡ p
        → Refuses {Y = List ℕ} {F = SettingsFault} (item_fault (if b && is_ok (read p) then line_of item ∷ [] else []) (NotCompiled (line_of item))) (read p)
    by true true e = subst (λ (b : Bool). Refuses {Y = List ℕ} {F = SettingsFault} (if b then None else Some (bad_pattern (line_of item))) (read true)) (sym same) tt
    by true false e = absurd (cc)
    by false true e = absurd (cc)
    by false false e = refl

-- ---- what a configuration tells

plain_kind : {Y : Type 0} (items : List Item) (kind : SettingsKind) (line : ℕ) (read : Result Y SettingsFault)
    → Refuses (settings_fault (record { kind = kind; line = line })) read → Refuses (told_of items (record { kind = kind; line = line })) read
plain_kind {Y} items kinds.BadPattern line read h = by (has_line (pattern_lines items) line) h
  where
    by : (b : Bool) → Refuses {Y = Y} {F = SettingsFault} (Some (bad_pattern line)) read → Refuses {Y = Y} {F = SettingsFault} (if b then None else Some (bad_pattern line)) read
    by true h = tt
    by false h = h
plain_kind items kinds.UnknownOption line read h = h
plain_kind items kinds.WrongArgs line read h = h
plain_kind items kinds.LimitsCrossed line read h = h
plain_kind items kinds.TooMany line read h = h
plain_kind items (kinds.Chain why) line read h = h
plain_kind items kinds.Memory line read h = h

pub plainly : {Y : Type 0} (items : List Item) (e : SettingsFault) (read : Result Y SettingsFault) → Refuses (settings_fault e) read → Refuses (told_of items e) read
plainly items e read h = plain_kind items e.kind e.line read h

pub told_as : {X Y : Type 0} (items : List Item) (e : ItemFault) (read : Result X SettingsFault) (f : X → Result Y SettingsFault)
    → Refuses (item_fault (pattern_lines items) e) read → Refuses (told_of items (as_settings_fault e)) (read >>= f)
told_as {X} {Y} items (Fault e) read f h = plainly items e (read >>= f) (by (settings_fault e) h)
  where
    by : (o : Option SettingsFault) → Refuses o read → Refuses o (read >>= f)
    by None h = tt
    by (Some fault) h = ap (λ (r : Result X SettingsFault). r >>= f) h
told_as {X} {Y} items (NotCompiled line) read f h = by (has_line (pattern_lines items) line) h
  where
    by : (b : Bool) → Refuses {Y = X} {F = SettingsFault} (if b then None else Some (bad_pattern line)) read → Refuses {Y = Y} {F = SettingsFault} (if b then None else Some (bad_pattern line)) (read >>= f)
    by true h = tt
    by false h = ap (λ (r : Result X SettingsFault). r >>= f) h

-- the second of two readings, where the first gives a value
pub given_after : {X Y : Type 0} (items : List Item) (first : Result X SettingsFault) (x : X) (f : X → Result Y SettingsFault) (result : Result Y SettingsFault)
    → first ≡ Ok x → Gives (λ y. y) settings_fault result (f x) → Gives (λ y. y) (told_of items) result (first >>= f)
given_after {X} {Y} items first x f (Ok y) is h = ap (λ (r : Result X SettingsFault). r >>= f) is ∙ h
given_after {X} {Y} items first x f (Err e) is h =
    subst (λ (r : Result Y SettingsFault). Refuses (told_of items e) r) (sym (ap (λ (r : Result X SettingsFault). r >>= f) is)) (plainly items e (f x) h)
