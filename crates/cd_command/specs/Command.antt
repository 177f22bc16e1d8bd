-- Which words of the command line are a command, and which one.
use Rattle.cd_command.specs.Application.{collectd}
use Rattle.cd_command.specs.declared.call.Which.TheVariants.{Run, Serve}
use Rattle.cd_command.specs.declared.call.Which.{Which}
use Rattle.cd_command.specs.declared.command.Command.{Command}
use Rattle.cd_command.specs.declared.command.Mode.TheVariants.{Lines, Test}
use Rattle.cd_command.specs.declared.command.Named.{Named}
use Rattle.clap.specs.Words.{Row, fault_of, first_of, matches_of}
use Rattle.std.specs.Option.{option_and_then, option_map, option_map_or}
use Rattle.std.specs.Prelude.{Bool, List, None, Option, Some, codes, false, if◌then◌else◌, is_some, length, not, ℕ, ◌&&◌, ◌==◌, ◌||◌}
use Rattle.std.specs.Str.{bytes_eq}

-- the option of this name is there, which has no value of its own
abbrev pub is_there : List ℕ → List Row → Bool
is_there name found = option_map_or (λ text. bytes_eq text (codes "true")) (first_of name found) false

-- what was found of the options: -f has no effect
abbrev pub named_by : List Row → Named
named_by found = record {
  file = first_of (codes "file") found;
  test = is_there (codes "test") found;
  readers = is_there (codes "readers") found;
  lines = is_there (codes "lines") found;
  load = is_some (first_of (codes "load") found);
}

-- what words name, the program's own name first, unless clap refuses them
abbrev pub named_in : List (List ℕ) → Option Named
named_in words =
    if length (fault_of collectd words) == 0 then Some (named_by (matches_of collectd words)) else None

-- -t with a file
abbrev pub test_of : List ℕ → Command
test_of file = record { mode = Test; file = Some file }

-- At most one mode is named, and -t wants a file, as -T and no mode do. Of the modes -t and --lines are built by now.
abbrev pub command_by : Named → Option Command
command_by named =
    if named.readers || named.load then None
    else (if named.test then (if named.lines then None else option_map test_of named.file)
    else (if named.lines then Some (record { mode = Lines; file = named.file }) else None))

-- the command that words are, if they are one
abbrev pub command : List (List ℕ) → Option Command
command words = option_and_then command_by (named_in words)

-- no mode is named, and the file that the daemon wants is
abbrev pub is_daemon : Named → Bool
is_daemon named =
    not (named.test || (named.readers || (named.lines || named.load))) && is_some named.file

-- which of the top calls the words are for
abbrev pub which_of : List (List ℕ) → Which
which_of words = if option_map_or is_daemon (named_in words) false then Serve else Run
