-- How far a run over lines has come.
use Rattle.cd_core.specs.Seen.{CoreSeen}
use Rattle.cd_core.specs.Stands.{Anyhow, Makes, Stands}
use Rattle.cd_daemon.specs.Answers.{is_idle, ready}
use Rattle.cd_daemon.specs.Flushes.{flush_begun_by}
use Rattle.cd_daemon.specs.declared.Opening.{Opening}
use Rattle.cd_history.specs.History.{Event, History}
use Rattle.cd_history.specs.Order.{IsFrontOf}
use Rattle.cd_history.specs.declared.entry.Entry.TheVariants as entry
use Rattle.cd_history.specs.declared.entry.FlushEnd.TheVariants as ends
use Rattle.cd_history.specs.declared.entry.Found.{Found}
use Rattle.cd_history.specs.declared.entry.Stopping.{Stopping}
use Rattle.cd_history.specs.declared.given.Given.TheVariants.{Now, Word}
use Rattle.cd_history.specs.declared.given.Given.{Given}
use Rattle.cd_io.specs.Told.{dice_after}
use Rattle.cd_serve.specs.Tells.{Pairs}
use Rattle.cd_serve.specs.Working.Outside.{GaveAllUpTo, GaveUpTo, after_moment, after_word}
use Rattle.cd_serve.specs.Working.Standing.{IsLeftAlone, Keeps, RunsOn}
use Rattle.cd_serve.specs.declared.daemon.Daemon.{Daemon}
use Rattle.cd_sock.specs.Faults.{line_fault}
use Rattle.cd_sock.specs.Lines.{Cut}
use Rattle.cd_sock.specs.Meaning.{meaning}
use Rattle.cd_sock.specs.Replies.{reply_text}
use Rattle.cd_sock.specs.declared.command.Command.TheVariants as command
use Rattle.cd_sock.specs.declared.command.Command.{Command}
use Rattle.cd_sock.specs.declared.fault.LineFault.{LineFault}
use Rattle.cd_sock.specs.declared.reply.Reply.TheVariants as replies
use Rattle.cd_sock.specs.declared.reply.Reply.{Reply}
use Rattle.cd_transcript.specs.LineRuns.{IsAsked, ServesLines, Works}
use Rattle.cd_transcript.specs.Transcripts.{IsTranscript, found_reply, line_says, of_lines, offered_reply}
use Rattle.cd_value.specs.Identifier.{name_of}
use Rattle.cd_value.specs.declared.data.DataSet.{DataSet}
use Rattle.cd_value.specs.declared.data.FlushRequest.{FlushRequest}
use Rattle.cd_value.specs.declared.data.Offered.{Offered}
use Rattle.cd_value.specs.declared.data.ValueList.{ValueList}
use Rattle.std.specs.Prelude.{Bool, Err, IfSome, IsTrue, List, None, Ok, Option, Result, Some, [], false, length, map, ℕ, ◌++◌, ◌∷◌, ◌≡◌}

-- what is seen of the daemon of a run: what its clock and dice tell, its core, and what was given so far
pub record Seen : Type 0 where
  pub pairs : Pairs
  pub core : CoreSeen
  pub given : List Given

-- .. where these say what its outside tells
abbrev pub seen_of : {O : Type 0} → (O → Pairs) → (O → CoreSeen) → Daemon O → Seen
seen_of pairs core daemon = record {
  pairs = pairs daemon.outside;
  core = core daemon.outside;
  given = daemon.given;
}

-- after a moment
abbrev pub with_moment : ℕ → Seen → Seen
with_moment now seen = record seen { given = seen.given ++ Now now ∷ []; pairs = after_moment seen.pairs }

-- after a word of the dice
abbrev pub with_word : ℕ → Seen → Seen
with_word word seen = record seen { given = seen.given ++ Word word ∷ []; pairs = after_word seen.pairs }

-- so many words of the dice were rolled
pub record Rolled (rolled : List ℕ) (count : ℕ) (old new : Seen) : Type 0 where
  pub many : length rolled ≡ count
  pub gave : GaveUpTo dice_after old.pairs.dice rolled new.pairs.dice
  pub seen : new ≡ record old {
    given = old.given ++ map Word rolled;
    pairs = record { clock = old.pairs.clock; dice = new.pairs.dice };
  }

-- it works from a history on, since this was given
pub record IsWorking (K : Opening) (stopped : Bool) (begun : Pairs) (start : History) (before : List Given)
    (seen : Seen) : Type 0 where
  pub past : History
  pub runs : RunsOn K stopped seen.core past
  pub given : List Given
  pub follows : seen.given ≡ before ++ given
  pub works : Works K IsAsked start given past
  pub gave : GaveAllUpTo begun seen.pairs seen.given

-- .. and no plug-in is ready
pub record HasCalledAll (K : Opening) (stopped : Bool) (begun : Pairs) (start : History) (before : List Given)
    (seen : Seen) : Type 0 where
  pub working : IsWorking K stopped begun start before seen
  pub none : ready K working.past ≡ None

-- .. and it is idle
pub record HasWorked (K : Opening) (stopped : Bool) (begun : Pairs) (start : History) (before : List Given)
    (seen : Seen) : Type 0 where
  pub working : IsWorking K stopped begun start before seen
  pub idle : IsTrue (is_idle K working.past)

-- it works on
abbrev pub KeepsWorking : Seen → Seen → Type 0
KeepsWorking old new = (K : Opening) (stopped : Bool) (begun : Pairs) (start : History) (before : List Given)
    → IsWorking K stopped begun start before old → IsWorking K stopped begun start before new

-- all calls that waited were made, one by one
abbrev pub CallsAll : Seen → Seen → Type 0
CallsAll old new = (K : Opening) (stopped : Bool) (begun : Pairs) (start : History) (before : List Given)
    → IsWorking K stopped begun start before old → HasCalledAll K stopped begun start before new

-- work went on until it was idle
abbrev pub WorksOn : Seen → Seen → Type 0
WorksOn old new = (K : Opening) (stopped : Bool) (begun : Pairs) (start : History) (before : List Given)
    → IsWorking K stopped begun start before old → HasWorked K stopped begun start before new

-- the first list that waited was handled after a moment, and all calls that waited then were made
abbrev pub HandlesOne : Seen → Seen → Type 0
HandlesOne old new = (K : Opening) (stopped : Bool) (begun : Pairs) (start : History) (before : List Given)
    → HasCalledAll K stopped begun start before old → HasCalledAll K stopped begun start before new

-- calls that waited were made until none waited: from any history for which the core ran, it runs on
abbrev pub Drains : CoreSeen → CoreSeen → Type 0
Drains old new = (K : Opening) (stopped : Bool) (P : History) → RunsOn K stopped old P
    → (Q : History) × RunsOn K stopped new Q × IsLeftAlone P Q × (ready K Q ≡ None)

-- a call waits: the core stands for no history after which no plug-in is ready
abbrev pub HasCall : CoreSeen → Type 0
HasCall core = (K : Opening) (P : History) → Stands K core P → ready K P ≡ None → ⊥

-- a call or a list waits: it stands for none that is idle
abbrev pub HasWork : CoreSeen → Type 0
HasWork core = (K : Opening) (P : History) → Stands K core P → IsTrue (is_idle K P) → ⊥

-- ---- a command was carried out

-- the core made an event for the first actor, and nothing else was done
pub record Made (event : Event) (old new : Seen) : Type 0 where
  pub makes : Makes old.core new.core Anyhow event
  pub pairs : new.pairs ≡ old.pairs
  pub given : new.given ≡ old.given

-- lists were offered with these words, and this is the reply
pub record Accepts (lists : List ValueList) (rolled : List ℕ) (now : ℕ) (reply : Reply) (old new : Seen) : Type 0 where
  pub answer : Result (List Offered) Stopping
  pub reply_is : reply ≡ offered_reply answer
  pub made : Made (entry.Accept 0 lists rolled now answer) old new

-- a word was rolled for each list, they were offered, and work went on; this is the text of the reply
pub record Puts (lists : List ValueList) (now : ℕ) (text : List ℕ) (old new : Seen) : Type 0 where
  pub rolled : List ℕ
  pub mid : Seen
  pub rolls : Rolled rolled (length lists) old mid
  pub reply : Reply
  pub accepted : Seen
  pub accepts : Accepts lists rolled now reply mid accepted
  pub works : WorksOn accepted new
  pub text_is : text ≡ reply_text reply

-- the core was asked for a name, or for all, and this is the text of the reply
pub record Asked (name : Option (List ℕ)) (text : List ℕ) (core : CoreSeen) : Type 0 where
  pub answer : Found
  pub text_is : text ≡ reply_text (found_reply answer)
  pub makes : Makes core core Anyhow (entry.Query 0 name answer)

-- .. and work went on
pub record Asks (name : Option (List ℕ)) (text : List ℕ) (old new : Seen) : Type 0 where
  pub asked : Asked name text old.core
  pub works : WorksOn old new

-- work went on, and then a flush ended with its counts; this is the text of the reply
pub record Finishes (number : ℕ) (text : List ℕ) (old new : Seen) : Type 0 where
  pub worked : Seen
  pub works : WorksOn old worked
  pub counts : ℕ × ℕ
  pub ended : Makes worked.core new.core
      (λ K H. IfSome (flush_begun_by number H) (λ beginner. beginner ≡ 0))
      (entry.FlushClose 0 number (ends.Counts counts.0 counts.1))
  pub pairs : new.pairs ≡ worked.pairs
  pub given : new.given ≡ worked.given
  pub text_is : text ≡ reply_text (replies.Flushed counts.0 counts.1)

-- a flush was begun and ended; one that isn't begun since the daemon stopped is answered so
abbrev pub FlushesAs : FlushRequest → List ℕ → Seen → Seen → Result ℕ Stopping → Seen → Type 0
FlushesAs request text old new (Ok number) begun = Finishes number text begun new
FlushesAs request text old new (Err stopping) begun = Unit {0}

pub record Flushes (request : FlushRequest) (text : List ℕ) (old new : Seen) : Type 0 where
  pub answer : Result ℕ Stopping
  pub begun : Seen
  pub made : Made (entry.FlushOpen 0 request answer) old begun
  pub finishes : FlushesAs request text old new answer begun

-- a command was carried out that was read at a moment, and this is the text of its reply; a blank line has none
abbrev pub Obeys : Command → ℕ → List ℕ → Seen → Seen → Type 0
Obeys command.Blank now text old new = Unit {0}
Obeys (command.PutVal lists) now text old new = Puts lists now text old new
Obeys (command.GetVal id) now text old new = Asks (Some (name_of id)) text old new
Obeys command.ListVal now text old new = Asks None text old new
Obeys (command.Flush request) now text old new = Flushes request text old new

-- a fault was replied, and work went on
pub record IsRefused (fault : LineFault) (text : List ℕ) (old new : Seen) : Type 0 where
  pub known : line_fault fault ≡ Some fault
  pub works : WorksOn old new
  pub text_is : text ≡ reply_text (replies.Fault fault)

-- ---- lines were served

-- a daemon that was opened with this history has served these lines, and this text was written
pub record HasServed (K : Opening) (begun : Pairs) (opened : History) (lines : List Cut) (text : List ℕ)
    (seen : Seen) : Type 0 where
  pub past : History
  pub runs : RunsOn K false seen.core past
  pub serves : ServesLines K (line_says K) lines opened seen.given past
  pub written : IsTranscript (line_says K) lines (of_lines past) text
  pub gave : GaveAllUpTo begun seen.pairs seen.given

-- .. and then one line more, with this reply; what came before is the front of the history
pub record HasServedOneMore {K : Opening} {begun : Pairs} {opened : History} {lines : List Cut} {text : List ℕ} {old : Seen}
    (before : HasServed K begun opened lines text old) (line : Cut) (reply : List ℕ) (new : Seen) : Type 0 where
  pub served : HasServed K begun opened (lines ++ line ∷ []) (text ++ reply) new
  pub front : IsFrontOf before.past served.past

-- a line was served with this reply
abbrev pub Serves : Cut → List ℕ → Seen → Seen → Type 0
Serves line reply old new = (K : Opening) (begun : Pairs) (opened : History) (lines : List Cut) (text : List ℕ)
    (before : HasServed K begun opened lines text old) → HasServedOneMore before line reply new

-- .. and all objects are at home
pub record IsServed (line : Cut) (reply : List ℕ) (old new : Seen) : Type 0 where
  pub serves : Serves line reply old new
  pub keeps : Keeps old.core new.core

-- a line is blank at no moment, whatever types are known
abbrev pub IsNotBlank : List ℕ → Type 0
IsNotBlank line = (types : List DataSet) (now interval : ℕ) → meaning types now interval line ≡ Ok command.Blank → ⊥
