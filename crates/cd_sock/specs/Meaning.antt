-- What a line means, as in collectd-unixsock(5).
use Rattle.cd_reading.specs.First.{all_or_first, unless, ◌>>=◌}
use Rattle.cd_reading.specs.Gives.{Gives}
use Rattle.cd_sock.specs.Arguments.{argument, argument_of, arguments_of, from_first_plain, interval_of, is_keyword, key, last, last_interval, leading_options}
use Rattle.cd_sock.specs.Faults.{line_fault, need, of_identifier, of_words, with_fault}
use Rattle.cd_sock.specs.Values.{Reading, has_count, has_time, has_values, is_whole, reading}
use Rattle.cd_sock.specs.declared.command.Command.TheVariants as commands
use Rattle.cd_sock.specs.declared.command.Command.{Command}
use Rattle.cd_sock.specs.declared.fault.LineFault.TheVariants.{BadOption, BadTime, BadValue, LineTooLong, MissingArgument, NotUtf8, UnknownCommand, UnknownType, WrongNumberOfValues}
use Rattle.cd_sock.specs.declared.fault.LineFault.{LineFault}
use Rattle.cd_sock.specs.declared.lines.TheConstants.{LINE_LIMIT}
use Rattle.cd_text.specs.Quoting.{words_of}
use Rattle.cd_text.specs.Time.{time_of}
use Rattle.cd_text.specs.declared.word.Word.{Word}
use Rattle.cd_types.specs.Types.{fits, set_named}
use Rattle.cd_value.specs.Identifier.{Fields, name_of, read_identifier}
use Rattle.cd_value.specs.declared.data.DataSet.{DataSet}
use Rattle.cd_value.specs.declared.data.DataSource.{DataSource}
use Rattle.cd_value.specs.declared.data.FlushRequest.{FlushRequest}
use Rattle.cd_value.specs.declared.data.ValueList.{ValueList}
use Rattle.std.specs.List.{list_all}
use Rattle.std.specs.Option.{is_some}
use Rattle.std.specs.Prelude.{Bool, Err, IsTrue, List, None, Ok, Option, Result, Some, [], codes, if◌then◌else◌, length, map, nat_le, ok_or, slice_index, take, unwrap_or, ℕ, ◌&&◌, ◌-◌, ◌==◌, ◌||◌, ◌∷◌, ◌≡◌}
use Rattle.std.specs.Result.{result_ok}
use Rattle.std.specs.Str.{bytes_eq, is_utf8}

-- what a line asks for, whenever it is read: nothing, or a command, in which a time may be the
-- moment of reading and an interval the global one
pub data Request : Type 0 where
  Blank : Request
  PutVal : (id : Fields) → (interval : Option ℕ) → (readings : List Reading) → Request
  GetVal : (id : Fields) → Request
  ListVal : Request
  Flush : (request : FlushRequest) → Request

-- ---- PUTVAL

-- the option that PUTVAL has
abbrev pub is_interval : Word → Bool
is_interval option = is_keyword (codes "interval") (key option)

abbrev pub has_interval : Word → Bool
has_interval option = is_some (interval_of (argument option))

-- the interval of some options, and the global one where there is none
abbrev pub interval_in : List Word → ℕ → Result ℕ LineFault
interval_in options global =
    unless
    ((list_all is_interval options, BadOption) ∷ (list_all has_interval options, BadTime) ∷ [])
    (unwrap_or (last_interval options) global)

-- what options and value words must be, in the order in which their faults are given
abbrev pub put_tests : List DataSource → List Word → List Word → List (Bool × LineFault)
put_tests sources options values =
    (list_all is_interval options, BadOption)
    ∷ (list_all has_interval options && list_all has_time values, BadTime)
    ∷ (list_all (has_count sources) values, WrongNumberOfValues)
    ∷ (list_all (has_values sources) values, BadValue)
    ∷ []

abbrev pub identifier : List ℕ → Result Fields LineFault
identifier text = with_fault of_identifier (read_identifier text)

unfoldable pub put_known :
    Fields → List DataSource → List Word → List Word → Result Request LineFault
put_known id sources options values =
    unless (put_tests sources options values)
    (PutVal id (last_interval options) (map (reading sources) values))

-- an identifier, options, and one value word or more
unfoldable pub put_parts :
    List DataSet → List ℕ → List Word → List Word → Result Request LineFault
put_parts types name options [] = Err MissingArgument
put_parts types name options (value ∷ values) =
    identifier name >>= λ id.
    need UnknownType (set_named id.type_name types) >>= λ set.
    put_known id set.sources options (value ∷ values)

unfoldable pub put_val : List DataSet → List Word → Result Request LineFault
put_val types [] = Err MissingArgument
put_val types (name ∷ more) =
    put_parts types name.text (leading_options more) (from_first_plain more)

-- ---- the other commands

unfoldable pub get_val : List Word → Result Request LineFault
get_val [] = Err MissingArgument
get_val (name ∷ more) =
    identifier name.text >>= λ id. unless ((length more == 0, BadOption) ∷ []) (GetVal id)

unfoldable pub list_val : List Word → Result Request LineFault
list_val more = unless ((length more == 0, BadOption) ∷ []) ListVal

-- ---- FLUSH

-- an option that FLUSH has
abbrev pub is_flush_option : Word → Bool
is_flush_option word =
    is_some (argument_of (codes "timeout") word) || is_some (argument_of (codes "plugin") word)
    || is_some (argument_of (codes "identifier") word)

-- the name of the identifier that a text is
abbrev pub name_in : List ℕ → Result (List ℕ) LineFault
name_in text = identifier text >>= λ id. Ok (name_of id)

-- the names of the identifiers of options, in order
abbrev pub names_in : List Word → Result (List (List ℕ)) LineFault
names_in options = all_or_first (map name_in (arguments_of (codes "identifier") options))

-- no timeout for `-1`, and otherwise a time
abbrev pub timeout_in : List ℕ → Result (Option ℕ) LineFault
timeout_in text =
    if bytes_eq text (codes "-1") then Ok None
    else (need BadTime (result_ok (time_of text)) >>= λ time. Ok (Some time))

-- the last timeout of options, and none where they have none
abbrev pub last_timeout : List Word → Result (Option ℕ) LineFault
last_timeout options =
    all_or_first (map timeout_in (arguments_of (codes "timeout") options)) >>= λ timeouts.
    Ok (unwrap_or (last timeouts) None)

-- any number of options
unfoldable pub flush : List Word → Result Request LineFault
flush options =
    names_in options >>= λ names.
    unless ((list_all is_flush_option options, BadOption) ∷ []) names >>= λ names.
    last_timeout options >>= λ timeout.
    Ok (Flush (record {
      plugins = arguments_of (codes "plugin") options;
      names = names;
      timeout = timeout;
    }))

-- the command that the first word names
unfoldable pub request_of_words : List DataSet → List Word → Result Request LineFault
request_of_words types [] = Err UnknownCommand
request_of_words types (name ∷ more) =
    if is_keyword (codes "PUTVAL") name.text then put_val types more
    else (if is_keyword (codes "GETVAL") name.text then get_val more
    else (if is_keyword (codes "LISTVAL") name.text then list_val more
    else (if is_keyword (codes "FLUSH") name.text then flush more else Err UnknownCommand)))

-- ---- a line

abbrev pub is_blank_byte : ℕ → Bool
is_blank_byte byte = byte == 32 || byte == 9

-- the line without a carriage return at its end
abbrev pub without_return : List ℕ → List ℕ
without_return line =
    if slice_index line (length line - 1) == 13 then take (length line - 1) line else line

-- at most LINE_LIMIT bytes, all blanks but for a carriage return at the end
abbrev pub is_blank_line : List ℕ → Bool
is_blank_line line = nat_le (length line) LINE_LIMIT && list_all is_blank_byte (without_return line)

unfoldable pub request_of_text : List DataSet → List ℕ → Result Request LineFault
request_of_text types text =
    if list_all is_blank_byte text then Ok Blank
    else (unless ((is_utf8 text, NotUtf8) ∷ []) text >>= λ text.
    with_fault of_words (words_of text) >>= λ words. request_of_words types words)

-- what a line asks for, or its first fault; its length is counted with a carriage return at its end
unfoldable pub request_of : List DataSet → List ℕ → Result Request LineFault
request_of types line =
    unless ((nat_le (length line) LINE_LIMIT, LineTooLong) ∷ []) line >>= λ line.
    request_of_text types (without_return line)

-- ---- at a moment

abbrev pub list_at : ℕ → ℕ → Fields → Reading → ValueList
list_at now interval id reading = record {
  id = id;
  time = unwrap_or reading.time now;
  interval = interval;
  values = reading.values;
}

-- the command at a moment, with the global interval
abbrev pub command_at : ℕ → ℕ → Request → Command
command_at now interval Blank = commands.Blank
command_at now interval (PutVal id own readings) =
    commands.PutVal (map (list_at now (unwrap_or own interval) id) readings)
command_at now interval (GetVal id) = commands.GetVal id
command_at now interval ListVal = commands.ListVal
command_at now interval (Flush request) = commands.Flush request

abbrev pub at_moment : ℕ → ℕ → Result Request LineFault → Result Command LineFault
at_moment now interval read = read >>= λ request. Ok (command_at now interval request)

-- the result is what was read, at a moment and with the global interval
abbrev pub GivesAt : ℕ → ℕ → Result Command LineFault → Result Request LineFault → Type 0
GivesAt now interval result read =
    Gives (λ command. command) line_fault result (at_moment now interval read)

-- the list of a value word
abbrev pub list_of : List DataSource → Fields → ℕ → ℕ → Word → ValueList
list_of sources id now interval word = list_at now interval id (reading sources word)

-- the lists of value words that have no fault
abbrev pub lists_of : List DataSource → Fields → ℕ → ℕ → List Word → Option (List ValueList)
lists_of sources id now interval words =
    if list_all (is_whole sources) words
    then Some (map (list_of sources id now interval) words) else None

-- the first fault of value words, one of which has one
abbrev pub value_fault : List DataSource → List Word → LineFault
value_fault sources words =
    if list_all has_time words
    then (if list_all (has_count sources) words then BadValue else WrongNumberOfValues) else BadTime

abbrev pub lists_or_fault :
    List DataSource → Fields → ℕ → ℕ → List Word → Result (List ValueList) LineFault
lists_or_fault sources id now interval words =
    ok_or (lists_of sources id now interval words) (value_fault sources words)

-- the meaning of a line: its first fault, which doesn't depend on the moment, or one command
abbrev pub meaning : List DataSet → ℕ → ℕ → List ℕ → Result Command LineFault
meaning types now interval line = at_moment now interval (request_of types line)

-- each list of a command fits the types
abbrev pub ListsFit : List DataSet → Command → Type 0
ListsFit types (commands.PutVal lists) = IsTrue (list_all (fits types) lists)
ListsFit types _ = Unit {0}

-- a list without its time and interval
abbrev pub without_times : ValueList → ValueList
without_times list = record list { time = 0; interval = 0 }

-- a command is the same as another but for the times and intervals of its lists
abbrev pub IsSameButTimes : Command → Command → Type 0
IsSameButTimes (commands.PutVal lists) (commands.PutVal others) =
    map without_times lists ≡ map without_times others
IsSameButTimes command other = command ≡ other
