-- What is known of a compiled pattern.
use Rattle.regex.specs.Patterns.{default_config}
use Rattle.regex.specs.Strings.{IsReadFromSource, regex_config}
use Rattle.regex.specs.declared.string.regex.Regex.{Regex}
use Rattle.std.specs.Prelude.{◌≡◌}

-- the pattern was read from its text by the grammar, under the options of `Regex::new`
pub record IsCompiled (regex : Regex) : Type 0 where
  pub by_default : regex_config regex ≡ default_config
  pub is_read : IsReadFromSource regex
