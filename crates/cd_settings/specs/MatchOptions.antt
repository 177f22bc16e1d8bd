-- The options of the matches of filter chains, and what a match needs of them.
use Rattle.cd_conf.specs.Parts.{children_of}
use Rattle.cd_conf.specs.declared.item.Item.{Item}
use Rattle.cd_match.specs.declared.data.Match.TheVariants as matches
use Rattle.cd_match.specs.declared.data.Match.{Match}
use Rattle.cd_match.specs.declared.data.ValueMatch.{ValueMatch}
use Rattle.cd_pattern.specs.Patterns.{is_pattern}
use Rattle.cd_pattern.specs.declared.field.Field.TheVariants.{Host, Plugin, PluginInstance, TypeInstance, TypeName}
use Rattle.cd_pattern.specs.declared.field.Field.{Field}
use Rattle.cd_reading.specs.First.{◌>>=◌}
use Rattle.cd_settings.specs.Faults.{at}
use Rattle.cd_settings.specs.Forms.{delay, flag, satisfy, some_number, text, text_list}
use Rattle.cd_settings.specs.PluginOptions.{childless}
use Rattle.cd_settings.specs.Tables.{Row, after_all, by_table, needs, option, option_of}
use Rattle.cd_settings.specs.declared.fault.SettingsFault.{SettingsFault}
use Rattle.cd_settings.specs.declared.fault.SettingsKind.TheVariants.{BadPattern, UnknownOption}
use Rattle.cd_settings.specs.declared.matches.RegexOptions.{RegexOptions}
use Rattle.cd_settings.specs.declared.matches.TimeDiffOptions.{TimeDiffOptions}
use Rattle.std.specs.Prelude.{Err, List, None, Ok, Result, [], codes, false, if◌then◌else◌, is_some, length, not, ℕ, ◌&&◌, ◌++◌, ◌==◌, ◌||◌, ◌∷◌}
use Rattle.std.specs.Str.{bytes_eq}

-- ---- regex: one pattern or more

-- a text that is no pattern is a fault of its option
abbrev pub pattern_of : Item → List ℕ → Result (List ℕ) SettingsFault
pattern_of item t = if is_pattern t then Ok t else Err (at BadPattern item)

abbrev pub with_pattern : Field → RegexOptions → List ℕ → Item → Result RegexOptions SettingsFault
with_pattern field r t item =
    pattern_of item t >>= λ pattern. Ok (record r { patterns = r.patterns ++ (field, pattern) ∷ [] })

abbrev pub regex_options : List (Row RegexOptions)
regex_options =
    option_of "Host" text (with_pattern Host)
    ∷ option_of "Plugin" text (with_pattern Plugin)
    ∷ option_of "PluginInstance" text (with_pattern PluginInstance)
    ∷ option_of "Type" text (with_pattern TypeName)
    ∷ option_of "TypeInstance" text (with_pattern TypeInstance)
    ∷ option "Invert" flag (λ r x. record r { invert = x })
    ∷ []

abbrev pub regex_from : RegexOptions → Item → Result Match SettingsFault
regex_from r item =
    needs (not (length r.patterns == 0)) item (matches.Regex (record { patterns = r.patterns; invert = r.invert }))

abbrev pub no_patterns : RegexOptions
no_patterns = record { patterns = []; invert = false }

abbrev pub regex_of : Item → Result Match SettingsFault
regex_of item =
    after_all (by_table regex_options) no_patterns (children_of item)
    >>= λ r. regex_from r item

-- ---- timediff: a number that isn't 0

abbrev pub timediff_options : List (Row TimeDiffOptions)
timediff_options =
    option "Future" delay (λ t x. record t { future = x })
    ∷ option "Past" delay (λ t x. record t { past = x })
    ∷ []

abbrev pub timediff_from : TimeDiffOptions → Item → Result Match SettingsFault
timediff_from t item = needs (not (t.future == 0 && t.past == 0)) item (matches.TimeDiff t.future t.past)

abbrev pub timediff_of : Item → Result Match SettingsFault
timediff_of item =
    after_all (by_table timediff_options) (record { future = 0; past = 0 }) (children_of item)
    >>= λ t. timediff_from t item

-- ---- value: a bound

abbrev pub value_options : List (Row ValueMatch)
value_options =
    option "Min" some_number (λ v x. record v { min = x })
    ∷ option "Max" some_number (λ v x. record v { max = x })
    ∷ option "Invert" flag (λ v x. record v { invert = x })
    ∷ option "DataSource" text_list (λ v x. record v { sources = x })
    ∷ option "Satisfy" satisfy (λ v x. record v { any = x })
    ∷ []

abbrev pub value_from : ValueMatch → Item → Result Match SettingsFault
value_from v item = needs (is_some v.min || is_some v.max) item (matches.Value v)

abbrev pub value_of : Item → Result Match SettingsFault
value_of item =
    after_all (by_table value_options)
    (record { min = None; max = None; invert = false; sources = []; any = false })
    (children_of item)
    >>= λ v. value_from v item

-- ---- empty_counter: nothing

abbrev pub empty_counter_of : Item → Result Match SettingsFault
empty_counter_of item = childless (children_of item) >>= λ _. Ok matches.EmptyCounter

-- ---- a match of a kind

abbrev pub match_of : List ℕ → Item → Result Match SettingsFault
match_of kind item =
    if bytes_eq kind (codes "regex") then regex_of item
    else (if bytes_eq kind (codes "timediff") then timediff_of item
    else (if bytes_eq kind (codes "value") then value_of item
    else (if bytes_eq kind (codes "empty_counter") then empty_counter_of item
    else Err (at UnknownOption item))))
