-- Sets that are kept under their names.
use Rattle.cd_value.specs.declared.data.DataSet.{DataSet}
use Rattle.std.specs.Prelude.{List, String, [], string_bytes, ◌∷◌, ◌≡◌}

-- each set is kept under its name
abbrev pub AreNamed : {Z : Type 0} → List (String Z × DataSet) → Type 0
AreNamed [] = Unit {0}
AreNamed (entry ∷ entries) = (string_bytes entry.0 ≡ entry.1.name) × AreNamed entries
