-- The texts of replies.
use Rattle.cd_sock.specs.declared.fault.LineFault.TheVariants as faults
use Rattle.cd_sock.specs.declared.fault.LineFault.{LineFault}
use Rattle.cd_sock.specs.declared.reply.Reply.TheVariants as replies
use Rattle.cd_sock.specs.declared.reply.Reply.{Reply}
use Rattle.cd_value.specs.Print.{rate_text}
use Rattle.cd_value.specs.declared.data.Rate.{Rate}
use Rattle.cd_value.specs.declared.numbers.TheConstants.{SECOND}
use Rattle.std.specs.Fmt.{decimal}
use Rattle.std.specs.List.{flat_map}
use Rattle.std.specs.Prelude.{List, None, Option, Some, [], codes, if◌then◌else◌, length, ℕ, ◌++◌, ◌/◌, ◌==◌, ◌∷◌}

-- a text and the end of its line
abbrev pub with_newline : List ℕ → List ℕ
with_newline text = text ++ 10 ∷ []

-- the text of a fault; a run never writes that of want of memory, since it ends there
abbrev pub fault_text : LineFault → List ℕ
fault_text faults.LineTooLong = codes "-1 Line too long"
fault_text faults.NotUtf8 = codes "-1 Not UTF-8"
fault_text faults.UnterminatedQuote = codes "-1 Unterminated quote"
fault_text faults.UnknownCommand = codes "-1 Unknown command"
fault_text faults.MissingArgument = codes "-1 Missing argument"
fault_text faults.BadIdentifier = codes "-1 Bad identifier"
fault_text faults.UnknownType = codes "-1 Unknown type"
fault_text faults.BadOption = codes "-1 Bad option"
fault_text faults.BadTime = codes "-1 Bad time"
fault_text faults.WrongNumberOfValues = codes "-1 Wrong number of values"
fault_text faults.BadValue = codes "-1 Bad value"
fault_text faults.Memory = codes "-1 Out of memory"

-- how many lines follow
abbrev pub values_found : ℕ → List ℕ
values_found n =
    with_newline (decimal n ++ (if n == 1 then codes " Value found" else codes " Values found"))

-- NaN where a data source has no rate
abbrev pub rate_or_nan : Option Rate → List ℕ
rate_or_nan None = codes "NaN"
rate_or_nan (Some rate) = rate_text rate

-- the name of a data source and its rate
abbrev pub rate_line : List ℕ → Option Rate → List ℕ
rate_line name rate = with_newline (name ++ codes "=" ++ rate_or_nan rate)

-- one line for each data source
abbrev pub rate_lines : List (List ℕ) → List Rate → List ℕ
rate_lines [] rates = []
rate_lines (name ∷ names) [] = rate_line name None ++ rate_lines names []
rate_lines (name ∷ names) (rate ∷ rates) = rate_line name (Some rate) ++ rate_lines names rates

-- the whole seconds of a time, a space and the name
abbrev pub row_line : ℕ × List ℕ → List ℕ
row_line row = with_newline (decimal (row.0 / SECOND) ++ codes " " ++ row.1)

-- how many flushes succeeded, and how many failed
abbrev pub flushed_line : ℕ → ℕ → List ℕ
flushed_line successful errors =
    with_newline (codes "0 Done: " ++ decimal successful ++ codes " successful, "
    ++ decimal errors ++ codes " errors")

abbrev pub reply_text : Reply → List ℕ
reply_text replies.Success = with_newline (codes "0 Success")
reply_text (replies.Got names rates) = values_found (length names) ++ rate_lines names rates
reply_text (replies.Listed rows) = values_found (length rows) ++ flat_map row_line rows
reply_text (replies.Fault f) = with_newline (fault_text f)
reply_text (replies.Flushed successful errors) = flushed_line successful errors
reply_text replies.NoSuchValue = with_newline (codes "-1 No such value")
reply_text replies.Stopping = with_newline (codes "-1 Stopping")
