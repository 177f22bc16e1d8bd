-- The settings of the whole daemon where the configuration names none.
use Rattle.cd_globals.specs.declared.Globals.{Globals}
use Rattle.cd_value.specs.declared.numbers.TheConstants.{SECOND}
use Rattle.std.specs.Prelude.{codes, ◌*◌}

-- an interval of 10 seconds, a timeout of 2 intervals, at most a day between readings, 5 threads of a kind, and no
-- limit of the write queue
abbrev pub default_globals : Globals
default_globals = record {
  hostname = codes "localhost";
  interval = 10 * SECOND;
  timeout = 2;
  longest = 86400 * SECOND;
  read_threads = 5;
  write_threads = 5;
  high = 0;
  low = 0;
}
