-- Names that differ, and the names of rows.
use Rattle.cd_cache.specs.Cache.{name_order}
use Rattle.cd_cache.specs.Rows.{row_of}
use Rattle.cd_cache.specs.declared.entry.CacheEntry.{CacheEntry}
use Rattle.std.proofs.Common.{List, [], ap, false, map, refl, sym, true, ℕ, ◌∙◌, ◌∷◌, ◌≡◌, ◌≢◌}
use Rattle.std.proofs.lemmas.Bool.{false_from_ne_true}
use Rattle.std.proofs.lemmas.Map.Text.{is_eq-slice_cmp}
use Rattle.std.proofs.lemmas.Slice.Eq.{bytes_eq-Decides}
use Rattle.std.specs.BTreeMap.{is_at}
use Rattle.std.specs.Map.{keys_of}
use Rattle.std.specs.Str.{bytes_eq}

pub apart : (name other : List ℕ) → other ≢ name → is_at (name_order name) other ≡ false
apart name other differ =
    is_eq-slice_cmp name other
    ∙ false_from_ne_true (bytes_eq name other) (λ e. differ (sym ((bytes_eq-Decides name other).0 e)))

pub itself : (name : List ℕ) → is_at (name_order name) name ≡ true
itself name = is_eq-slice_cmp name name ∙ (bytes_eq-Decides name name).1 refl

pub names_of_rows : (entries : List (List ℕ × CacheEntry)) → map (λ (row : ℕ × List ℕ). row.1) (map row_of entries) ≡ keys_of entries
names_of_rows [] = refl
names_of_rows (pair ∷ entries) = ap (λ names. pair.0 ∷ names) (names_of_rows entries)
