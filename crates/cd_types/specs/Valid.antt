-- Data sets that a text of types.db(5) can give.
use Rattle.cd_types.specs.Entry.{are_in_order, is_name}
use Rattle.cd_types.specs.Sets.{name_order}
use Rattle.cd_types.specs.declared.limits.TheConstants.{NAME_LIMIT, SOURCES_LIMIT, SOURCE_NAME_LIMIT}
use Rattle.cd_value.specs.declared.data.DataSet.{DataSet}
use Rattle.cd_value.specs.declared.data.DataSource.{DataSource}
use Rattle.cd_value.specs.declared.numbers.TheConstants.{NUMBER_LIMIT}
use Rattle.std.specs.List.{list_any}
use Rattle.std.specs.Prelude.{Bool, IfSome, IsFalse, IsTrue, List, Option, [], length, map, nat_abs, ℕ, ℤ, ◌++◌, ◌<◌, ◌∷◌, ◌≡◌, ◌≤◌}
use Rattle.std.specs.Str.{bytes_eq}
use Rattle.std.specs.declared.cmp.Ordering.TheVariants.{Less}

-- no bound, or one of at most NUMBER_LIMIT in magnitude
abbrev pub IsBound : Option ℤ → Type 0
IsBound bound = IfSome bound (λ n. nat_abs n ≤ NUMBER_LIMIT)

-- one of the sources has that name
abbrev pub has_source : List ℕ → List DataSource → Bool
has_source name sources = list_any (λ other. bytes_eq other name) (map (λ s. s.name) sources)

-- a source that can stand behind others: there are few, none of its name, and it is valid itself
pub record IsSourceBehind (others : List DataSource) (s : DataSource) : Type 0 where
  pub few : length others < SOURCES_LIMIT
  pub name : IsTrue (is_name SOURCE_NAME_LIMIT s.name)
  pub apart : IsFalse (has_source s.name others)
  pub min : IsBound s.min
  pub max : IsBound s.max
  pub in_order : IsTrue (are_in_order s.min s.max)

-- sources of which each can stand behind the others and the sources before it
abbrev pub AreSourcesBehind : List DataSource → List DataSource → Type 0
AreSourcesBehind others [] = Unit {0}
AreSourcesBehind others (s ∷ ss) = IsSourceBehind others s × AreSourcesBehind (others ++ s ∷ []) ss

-- a set with a valid name, and with one to SOURCES_LIMIT valid sources of different names
pub record IsValid (set : DataSet) : Type 0 where
  pub name : IsTrue (is_name NAME_LIMIT set.name)
  pub some : 0 < length set.sources
  pub sources : AreSourcesBehind [] set.sources

-- the name stands before that of each set
abbrev pub IsBefore : List ℕ → List DataSet → Type 0
IsBefore name [] = Unit {0}
IsBefore name (set ∷ sets) = (name_order name set.name ≡ Less) × IsBefore name sets

-- valid sets in the order of their names, each name once
abbrev pub AreValid : List DataSet → Type 0
AreValid [] = Unit {0}
AreValid (set ∷ sets) = IsValid set × IsBefore set.name sets × AreValid sets
