-- What the world has left behind a fault of the settings.
use Rattle.cd_conf.specs.declared.item.Item.{Item}
use Rattle.cd_io.specs.World.{FileTells, after_opening}
use Rattle.cd_opening.specs.Faults.{of_settings, of_settings_kind}
use Rattle.cd_opening.specs.File.{HasItems}
use Rattle.cd_opening.specs.Opened.{EndsBehind, HasSettingsFault, IsRefused, LeavesBy}
use Rattle.cd_opening.specs.Types.{HasTypes, after_openings}
use Rattle.cd_opening.specs.declared.fault.OpeningFault.{OpeningFault}
use Rattle.cd_reading.specs.Gives.{Refuses}
use Rattle.cd_settings.specs.BigPatterns.{MayBeTooBig, bad_pattern, has_pattern_at, told_of}
use Rattle.cd_settings.specs.Paths.{paths_of}
use Rattle.cd_settings.specs.Settings.{settings_of}
use Rattle.cd_settings.specs.declared.fault.SettingsFault.{SettingsFault}
use Rattle.cd_settings.specs.declared.fault.SettingsKind.TheVariants as settings
use Rattle.cd_settings.specs.declared.fault.SettingsKind.{SettingsKind}
use Rattle.cd_settings.specs.declared.settings.Settings.{Settings}
use Rattle.cd_value.specs.declared.data.DataSet.{DataSet}
use Rattle.std.proofs.Common.{Bool, Err, List, None, Ok, Option, Some, false, inl, inr, option_map, refl, subst, sym, true, ℕ, ◌∙◌, ◌∷◌, ◌≡◌, ◌⊎◌}
use Rattle.std.specs.Prelude.{if◌then◌else◌}

all_behind : (path : List ℕ) (paths : List (List ℕ)) (files : Option (List FileTells)) → option_map (after_openings paths) (option_map (after_opening path) files) ≡ option_map (after_openings (path ∷ paths)) files
all_behind path paths None = refl
all_behind path paths (Some told) = refl

pub ends_behind : (path : List ℕ) (files left after : Option (List FileTells)) (items : List Item) (paths : List (List ℕ)) → HasItems path files items
    → left ≡ option_map (after_opening path) files → paths ≡ paths_of items → after ≡ option_map (after_openings paths) left → EndsBehind path files after items
ends_behind path files left after items paths read is named behind = record {
  read = read;
  left = subst (λ (x : List (List ℕ)). after ≡ option_map (after_openings (path ∷ x)) files) named
      (subst (λ (x : Option (List FileTells)). after ≡ option_map (after_openings paths) x) is behind ∙ all_behind path paths files);
}

settings_kind_leaves : (path : List ℕ) (files after : Option (List FileTells)) (items : List Item) (fault : SettingsFault) (kind : SettingsKind) → EndsBehind path files after items → LeavesBy path files after (of_settings_kind fault kind)
settings_kind_leaves path files after items fault settings.Memory ends = tt
settings_kind_leaves path files after items fault settings.UnknownOption ends = (items, ends)
settings_kind_leaves path files after items fault settings.WrongArgs ends = (items, ends)
settings_kind_leaves path files after items fault settings.LimitsCrossed ends = (items, ends)
settings_kind_leaves path files after items fault settings.TooMany ends = (items, ends)
settings_kind_leaves path files after items fault settings.BadPattern ends = (items, ends)
settings_kind_leaves path files after items fault (settings.Chain why) ends = (items, ends)

pub settings_leave : (path : List ℕ) (files after : Option (List FileTells)) (items : List Item) (fault : SettingsFault) (e : OpeningFault) → EndsBehind path files after items → e ≡ of_settings fault → LeavesBy path files after e
settings_leave path files after items fault e ends is =
    subst (λ (x : OpeningFault). LeavesBy path files after x) (sym is) (settings_kind_leaves path files after items fault fault.kind ends)

-- what is told of the items is the first fault, or a pattern that may be too big, where memory wasn't lacking
settings_come_at : (path : List ℕ) (files : Option (List FileTells)) (items : List Item) (kind : SettingsKind) (line : ℕ)
    → ((settings_of items ≡ Err (record { kind = kind; line = line })) ⊎ MayBeTooBig items (record { kind = kind; line = line }) → HasSettingsFault path files (record { kind = kind; line = line }))
    → Refuses (told_of items (record { kind = kind; line = line })) (settings_of items) → IsRefused path files (of_settings_kind (record { kind = kind; line = line }) kind)
settings_come_at path files items settings.Memory line has told = tt
settings_come_at path files items settings.UnknownOption line has told = has (inl told)
settings_come_at path files items settings.WrongArgs line has told = has (inl told)
settings_come_at path files items settings.LimitsCrossed line has told = has (inl told)
settings_come_at path files items settings.TooMany line has told = has (inl told)
settings_come_at path files items (settings.Chain why) line has told = has (inl told)
settings_come_at path files items settings.BadPattern line has told = has (by (has_pattern_at items line) refl told)
  where
    by : (b : Bool) → has_pattern_at items line ≡ b → Refuses {Y = Settings} {F = SettingsFault} (if b then None else Some (bad_pattern line)) (settings_of items)
        → (settings_of items ≡ Err (bad_pattern line)) ⊎ MayBeTooBig items (bad_pattern line)
    by true free told = inr (refl, free)
    by false free told = inl told

pub settings_come : (path : List ℕ) (files left : Option (List FileTells)) (items : List Item) (types : List DataSet) (paths : List (List ℕ)) (fault : SettingsFault) (e : OpeningFault)
    → HasItems path files items → left ≡ option_map (after_opening path) files → paths ≡ paths_of items → HasTypes paths left (Ok types)
    → Refuses (told_of items fault) (settings_of items) → e ≡ of_settings fault → IsRefused path files e
settings_come path files left items types paths fault e read behind named known refused is =
    subst (λ (x : OpeningFault). IsRefused path files x) (sym is)
    (settings_come_at path files items fault.kind fault.line
    (λ why. record {
      items = items;
      read = read;
      types = types;
      known = subst (λ (x : Option (List FileTells)). HasTypes (paths_of items) x (Ok types)) behind (subst (λ (x : List (List ℕ)). HasTypes x left (Ok types)) named known);
      refused = why;
    })
    refused)
