-- What is written for lines and the events that they use.
use Rattle.cd_daemon.specs.declared.Opening.{Opening}
use Rattle.cd_history.specs.History.{Event, History}
use Rattle.cd_history.specs.Order.{history_of}
use Rattle.cd_history.specs.declared.entry.Entry.TheVariants as entry
use Rattle.cd_history.specs.declared.entry.FlushEnd.TheVariants as ends
use Rattle.cd_history.specs.declared.entry.FlushEnd.{FlushEnd}
use Rattle.cd_history.specs.declared.entry.Found.TheVariants as found
use Rattle.cd_history.specs.declared.entry.Found.{Found}
use Rattle.cd_history.specs.declared.entry.Stopping.{Stopping}
use Rattle.cd_sock.specs.Lines.{Cut}
use Rattle.cd_sock.specs.Meaning.{meaning}
use Rattle.cd_sock.specs.Replies.{reply_text}
use Rattle.cd_sock.specs.declared.command.Command.TheVariants as command
use Rattle.cd_sock.specs.declared.command.Command.{Command}
use Rattle.cd_sock.specs.declared.fault.LineFault.TheVariants.{LineTooLong}
use Rattle.cd_sock.specs.declared.fault.LineFault.{LineFault}
use Rattle.cd_sock.specs.declared.reply.Reply.TheVariants as reply
use Rattle.cd_sock.specs.declared.reply.Reply.{Reply}
use Rattle.cd_value.specs.Identifier.{Fields, name_of}
use Rattle.cd_value.specs.declared.data.FlushRequest.{FlushRequest}
use Rattle.cd_value.specs.declared.data.Offered.{Offered}
use Rattle.cd_value.specs.declared.data.ValueList.{ValueList}
use Rattle.std.specs.List.{filter}
use Rattle.std.specs.Prelude.{Bool, Err, List, None, Ok, Result, Some, [], false, not, true, ℕ, ◌++◌, ◌∷◌, ◌≡◌}

-- what a line says: a command, or why it is refused
abbrev pub Said : Type 0
Said = Result Command LineFault

-- what a line of the socket says at a moment to a daemon of that opening; one that is too long says just that
abbrev pub line_says : Opening → Cut → ℕ → Said
line_says K None now = Err LineTooLong
line_says K (Some line) now = meaning K.types now K.globals.interval line

-- a flush was asked for its counts before all its calls were answered
abbrev pub is_not_yet : FlushEnd → Bool
is_not_yet (ends.NotYet calls) = true
is_not_yet (ends.Counts successful errors) = false
is_not_yet ends.NoSuchFlush = false

-- the events that lines ask for
abbrev pub is_of_a_line : Event → Bool
is_of_a_line (entry.Register a name joining reply) = false
is_of_a_line (entry.Close a name reply) = false
is_of_a_line (entry.Retire a reg reply) = false
is_of_a_line (entry.Accept a lists words now reply) = true
is_of_a_line (entry.Handle a now reply) = false
is_of_a_line (entry.Notify a note reply) = false
is_of_a_line (entry.Tick a now reply) = false
is_of_a_line (entry.Query a name reply) = true
is_of_a_line (entry.FlushOpen a request reply) = true
is_of_a_line (entry.FlushClose a number reply) = not (is_not_yet reply)
is_of_a_line (entry.Take a reg call) = false
is_of_a_line (entry.Done a reg answer) = false
is_of_a_line (entry.ReadDue a now reply) = false
is_of_a_line (entry.ReadBack a reg now reading ok) = false
is_of_a_line (entry.Stop a why) = false
is_of_a_line (entry.Look a idle) = false

-- those of a history, the oldest first
abbrev pub of_lines : History → List Event
of_lines H = history_of (filter is_of_a_line H)

-- what lists that were offered are answered
abbrev pub offered_reply : Result (List Offered) Stopping → Reply
offered_reply (Ok fates) = reply.Success
offered_reply (Err stopping) = reply.Stopping

-- what a query is answered
abbrev pub found_reply : Found → Reply
found_reply (found.Got names rates) = reply.Got names rates
found_reply (found.Listed rows) = reply.Listed rows
found_reply found.NoSuchValue = reply.NoSuchValue

-- What is written for lines, in order, where each asks for the events that it uses, in order. A blank line writes
-- nothing and a refused one its fault, and neither uses an event; whether a line is so doesn't depend on the moment,
-- so it is read at 0. PUTVAL uses the acceptance of the lists that it has at that moment, GETVAL the query of its
-- name, LISTVAL that of all, and FLUSH the beginning of its flush with, unless that is refused, the counts of the flush
-- of that number; what is written is the event's reply. No other event is left.
module _ {Line : Type 0} (says : Line → ℕ → Said) where
  pub data IsTranscript : List Line → List Event → List ℕ → Type 0 where
    nothing : IsTranscript [] [] []
    blank : {l : Line} {lines : List Line} {events : List Event} {text : List ℕ}
        → says l 0 ≡ Ok command.Blank → IsTranscript lines events text → IsTranscript (l ∷ lines) events text
    refused : {l : Line} {lines : List Line} {events : List Event} {text : List ℕ} {fault : LineFault}
        → says l 0 ≡ Err fault → IsTranscript lines events text
        → IsTranscript (l ∷ lines) events (reply_text (reply.Fault fault) ++ text)
    put : {l : Line} {lines : List Line} {events : List Event} {text : List ℕ}
        {a now : ℕ} {lists : List ValueList} {words : List ℕ} {answer : Result (List Offered) Stopping}
        → says l now ≡ Ok (command.PutVal lists) → IsTranscript lines events text
        → IsTranscript (l ∷ lines) (entry.Accept a lists words now answer ∷ events)
        (reply_text (offered_reply answer) ++ text)
    got : {l : Line} {lines : List Line} {events : List Event} {text : List ℕ} {a : ℕ} {id : Fields} {answer : Found}
        → says l 0 ≡ Ok (command.GetVal id) → IsTranscript lines events text
        → IsTranscript (l ∷ lines) (entry.Query a (Some (name_of id)) answer ∷ events)
        (reply_text (found_reply answer) ++ text)
    listed : {l : Line} {lines : List Line} {events : List Event} {text : List ℕ} {a : ℕ} {answer : Found}
        → says l 0 ≡ Ok command.ListVal → IsTranscript lines events text
        → IsTranscript (l ∷ lines) (entry.Query a None answer ∷ events) (reply_text (found_reply answer) ++ text)
    flushed : {l : Line} {lines : List Line} {events : List Event} {text : List ℕ}
        {a b number successful errors : ℕ} {request : FlushRequest}
        → says l 0 ≡ Ok (command.Flush request) → IsTranscript lines events text
        → IsTranscript (l ∷ lines)
        (entry.FlushOpen a request (Ok number) ∷ entry.FlushClose b number (ends.Counts successful errors) ∷ events)
        (reply_text (reply.Flushed successful errors) ++ text)
    flush_refused : {l : Line} {lines : List Line} {events : List Event} {text : List ℕ}
        {a : ℕ} {request : FlushRequest} {stopping : Stopping}
        → says l 0 ≡ Ok (command.Flush request) → IsTranscript lines events text
        → IsTranscript (l ∷ lines) (entry.FlushOpen a request (Err stopping) ∷ events)
        (reply_text reply.Stopping ++ text)
