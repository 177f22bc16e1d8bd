-- Of the sets of one name the last stands.
use Rattle.cd_types.specs.Types.{set_named}
use Rattle.cd_value.specs.declared.data.DataSet.{DataSet}
use Rattle.std.specs.Prelude.{List, None, Option, Some, reverse, ℕ, ◌≡◌}

-- a set, or else another
abbrev pub or_else : Option DataSet → Option DataSet → Option DataSet
or_else None other = other
or_else (Some set) other = Some set

-- the last set of that name
abbrev pub last_named : List ℕ → List DataSet → Option DataSet
last_named name sets = set_named name (reverse sets)

-- where others are put among sets, a name has the last of the others that have it, or else what it had
abbrev pub TheLastStands : List DataSet → List DataSet → List DataSet → Type 0
TheLastStands others old new =
    (name : List ℕ) → set_named name new ≡ or_else (last_named name others) (set_named name old)
