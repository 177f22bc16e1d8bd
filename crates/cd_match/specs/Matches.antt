-- Whether a match holds of a value list, with the rates under its name, as in collectd.conf(5), "Filter configuration".
use Rattle.cd_match.specs.Sought.{Sought}
use Rattle.cd_match.specs.declared.data.Match.TheVariants as matches
use Rattle.cd_match.specs.declared.data.Match.{Match}
use Rattle.cd_match.specs.declared.data.ValueMatch.{ValueMatch}
use Rattle.cd_pattern.specs.Fields.{field_of}
use Rattle.cd_pattern.specs.Patterns.{is_found_in}
use Rattle.cd_pattern.specs.declared.field.Field.{Field}
use Rattle.cd_value.specs.Identifier.{Fields, name_of}
use Rattle.cd_value.specs.Rates.{is_known, keeps_max, reaches_min}
use Rattle.cd_value.specs.declared.data.DataSet.{DataSet}
use Rattle.cd_value.specs.declared.data.DataSource.{DataSource}
use Rattle.cd_value.specs.declared.data.DsType.TheVariants as kinds
use Rattle.cd_value.specs.declared.data.Rate.TheVariants.{Unknown}
use Rattle.cd_value.specs.declared.data.Rate.{Rate}
use Rattle.cd_value.specs.declared.data.Value.TheVariants.{Counter}
use Rattle.cd_value.specs.declared.data.Value.{Value}
use Rattle.cd_value.specs.declared.data.ValueList.{ValueList}
use Rattle.std.specs.List.{list_all, list_any, range_with_len}
use Rattle.std.specs.Option.{is_some, option_map_or}
use Rattle.std.specs.Prelude.{Bool, List, None, Option, Some, [], false, if◌then◌else◌, length, nat_le, not, position, slice_get, true, unwrap_or, ℕ, ◌&&◌, ◌+◌, ◌==◌, ◌||◌, ◌∷◌}
use Rattle.std.specs.Str.{bytes_eq}

-- ---- regex

abbrev pub is_sought : Fields → Field × List ℕ → Bool
is_sought id pair = is_found_in pair.1 (field_of pair.0 id)

-- each pattern is found somewhere in its field
abbrev pub are_found : Fields → List (Field × List ℕ) → Bool
are_found id patterns = list_all (is_sought id) patterns

abbrev pub inverted : Bool → Bool → Bool
inverted invert verdict = if invert then not verdict else verdict

-- inverted, it holds where not all patterns are found
abbrev pub regex_holds : Sought → Fields → Bool
regex_holds test id = inverted test.invert (are_found id test.patterns)

-- ---- timediff

-- a distance lies between two moments; one of 0 asks nothing
abbrev pub is_reached : ℕ → ℕ → ℕ → Bool
is_reached distance from to = not (distance == 0) && nat_le (from + distance) to

-- the time is at least `future` ahead of the moment, or at least `past` behind it
abbrev pub is_apart : ℕ → ℕ → ℕ → ℕ → Bool
is_apart future past time now = is_reached future now time || is_reached past time now

-- ---- value

-- a known rate within the range, both ends included, or outside of it where the match is inverted
abbrev pub passes : ValueMatch → Rate → Bool
passes test rate =
    is_known rate && inverted test.invert (reaches_min rate test.min && keeps_max rate test.max)

-- the source of a number passes with its rate; where there is none, it is unknown
abbrev pub passes_at : ValueMatch → List Rate → ℕ → Bool
passes_at test rates number = passes test (unwrap_or (slice_get rates number) Unknown)

-- the number of the first source of a name
abbrev pub number_of : List DataSource → List ℕ → Option ℕ
number_of sources name = position (λ source. bytes_eq source.name name) sources

-- the source of a name passes
abbrev pub passes_named : ValueMatch → List DataSource → List Rate → List ℕ → Bool
passes_named test sources rates name = option_map_or (passes_at test rates) (number_of sources name) false

-- one is enough, or all must
abbrev pub enough : {X : Type 0} → Bool → (X → Bool) → List X → Bool
enough any test xs = if any then list_any test xs else list_all test xs

-- the data set has a source of each name
abbrev pub has_sources : List DataSource → List (List ℕ) → Bool
has_sources sources names = list_all (λ name. is_some (number_of sources name)) names

-- the chosen sources are the named ones, all of which the data set must have, or all where none is named
abbrev pub chosen_pass : ValueMatch → List (List ℕ) → List DataSource → List Rate → Bool
chosen_pass test [] sources rates = enough test.any (passes_at test rates) (range_with_len 0 (length sources))
chosen_pass test (name ∷ names) sources rates =
    has_sources sources (name ∷ names) && enough test.any (passes_named test sources rates) (name ∷ names)

-- without rates nothing passes
abbrev pub value_holds : ValueMatch → List DataSource → Option (List Rate) → Bool
value_holds test sources None = false
value_holds test sources (Some rates) = chosen_pass test test.sources sources rates

-- ---- empty_counter

abbrev pub is_counter : DataSource → Bool
is_counter source =
    elim source.kind [ kinds.Counter ↦ true | kinds.Gauge ↦ false | kinds.Derive ↦ false | kinds.Absolute ↦ false ]

-- a counter is 0; other values don't matter
abbrev pub is_empty : Value → Bool
is_empty (Counter count) = count == 0
is_empty _ = true

-- the data set has a counter, and each counter is 0
abbrev pub are_empty : List DataSource → List Value → Bool
are_empty sources values = list_any is_counter sources && list_all is_empty values

-- ---- a match

-- by its data set, the rates under its name, and the moment
abbrev pub match_holds : Match → DataSet → Option (List Rate) → ℕ → ValueList → Bool
match_holds (matches.Regex test) set rates now list = regex_holds test list.id
match_holds (matches.TimeDiff future past) set rates now list = is_apart future past list.time now
match_holds (matches.Value test) set rates now list = value_holds test set.sources rates
match_holds matches.EmptyCounter set rates now list = are_empty set.sources list.values

-- what a rule sees beside the list: its data set, the rates under each name, and the moment
pub record Scene : Type 0 where
  pub set : DataSet
  pub rates : List ℕ → Option (List Rate)
  pub now : ℕ

-- a match holds of the list as it is now, with the rates under its name of now
abbrev pub holds : Scene → ValueList → Match → Bool
holds scene list test = match_holds test scene.set (scene.rates (name_of list.id)) scene.now list

-- all matches hold; a rule without matches always does
abbrev pub all_hold : Scene → List Match → ValueList → Bool
all_hold scene matches list = list_all (holds scene list) matches
