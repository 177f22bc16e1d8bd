-- Transcripts and a run worked by hand.
use Rattle.cd_daemon.specs.declared.Opening.{Opening}
use Rattle.cd_globals.specs.Globals.{default_globals}
use Rattle.cd_history.specs.History.{Event, History, ◌▸◌}
use Rattle.cd_history.specs.declared.entry.Entry.TheVariants as entry
use Rattle.cd_history.specs.declared.entry.FlushEnd.TheVariants as ends
use Rattle.cd_history.specs.declared.entry.Found.TheVariants as found
use Rattle.cd_history.specs.declared.entry.How.TheVariants as how
use Rattle.cd_history.specs.declared.entry.Joining.TheVariants.{Plug}
use Rattle.cd_history.specs.declared.entry.Why.TheVariants as why
use Rattle.cd_history.specs.declared.given.Given.TheVariants.{Answered, Now, Word}
use Rattle.cd_history.specs.declared.given.Given.{Given}
use Rattle.cd_registry.specs.declared.calls.Answer.TheVariants as answers
use Rattle.cd_registry.specs.declared.calls.Call.TheVariants as calls
use Rattle.cd_registry.specs.declared.plug.PlugTells.{PlugTells}
use Rattle.cd_sock.specs.Replies.{reply_text}
use Rattle.cd_sock.specs.declared.command.Command.TheVariants as command
use Rattle.cd_sock.specs.declared.fault.LineFault.TheVariants.{UnknownCommand}
use Rattle.cd_sock.specs.declared.reply.Reply.TheVariants as reply
use Rattle.cd_transcript.specs.LineRuns.{IsAsked, IsLineRun, Loaded, Opens, ServesLine, ServesLines, Works, called, flushed as is_flushed, handled as then_handled, none, none as all_opened, nothing as no_work, one_more, plug_in, put as is_put, returned}
use Rattle.cd_transcript.specs.Transcripts.{IsTranscript, Said, blank, flush_refused, flushed, got, listed, nothing, of_lines, put, refused}
use Rattle.cd_types.specs.Types.{single}
use Rattle.cd_value.specs.Identifier.{Fields}
use Rattle.cd_value.specs.declared.data.DsType.TheVariants as kinds
use Rattle.cd_value.specs.declared.data.FlushRequest.{FlushRequest}
use Rattle.cd_value.specs.declared.data.Offered.TheVariants.{Kept}
use Rattle.cd_value.specs.declared.data.Rate.TheVariants.{Known}
use Rattle.cd_value.specs.declared.data.Value.TheVariants.{Gauge}
use Rattle.cd_value.specs.declared.data.ValueList.{ValueList}
use Rattle.std.proofs.Common.{Err, List, None, Ok, Some, [], arith, codes, pos, refl, subst, ℕ, ◌*◌, ◌++◌, ◌+◌, ◌<◌, ◌^◌, ◌∷◌, ◌≡◌}
use Rattle.std.proofs.lemmas.Fmt.{decimal_digit}

abbrev id : Fields
id = record { host = codes "h"; plugin = codes "p"; plugin_instance = []; type_name = codes "gauge"; type_instance = [] }

abbrev gauge : ℕ → ValueList
gauge time = record { id = id; time = time; interval = 10; values = Gauge (Some (pos 250000)) ∷ [] }

-- for all plug-ins that are flushed, and all names
abbrev all : FlushRequest
all = record { plugins = []; names = []; timeout = None }

-- the lines, by what they say: a PUTVAL whose list has the moment as its time, a GETVAL, a LISTVAL, a FLUSH, one that is
-- refused, and a blank one
data Line : Type 0 where
  Putting : Line
  Getting : Line
  Listing : Line
  Flushing : Line
  Refused : Line
  Blank : Line

abbrev says : Line → ℕ → Said
says Putting now = Ok (command.PutVal (gauge now ∷ []))
says Getting now = Ok (command.GetVal id)
says Listing now = Ok command.ListVal
says Flushing now = Ok (command.Flush all)
says Refused now = Err UnknownCommand
says Blank now = Ok command.Blank

-- nine seconds
abbrev nine : ℕ
nine = 9 * 2 ^ 30

-- ---- a transcript

abbrev events : List Event
events =
    entry.Accept 0 (gauge nine ∷ []) (0 ∷ []) nine (Ok (Kept ∷ []))
    ∷ entry.Query 0 (Some (codes "h/p/gauge")) (found.Got (codes "value" ∷ []) (Known (pos 250000) 1 ∷ []))
    ∷ entry.Query 0 None (found.Listed ((nine, codes "h/p/gauge") ∷ []))
    ∷ entry.FlushOpen 0 all (Ok 4)
    ∷ entry.FlushClose 0 4 (ends.Counts 3 1)
    ∷ entry.Query 0 (Some (codes "h/p/gauge")) found.NoSuchValue
    ∷ entry.Accept 0 (gauge 5 ∷ []) (0 ∷ []) 5 (Err (record {}))
    ∷ entry.FlushOpen 0 all (Err (record {}))
    ∷ []

abbrev lines : List Line
lines = Putting ∷ Blank ∷ Getting ∷ Refused ∷ Listing ∷ Flushing ∷ Getting ∷ Putting ∷ Flushing ∷ []

abbrev text : List ℕ
text = codes "0 Success\n1 Value found\nvalue=0.250000\n-1 Unknown command\n1 Value found\n9 h/p/gauge\n0 Done: 3 successful, 1 errors\n-1 No such value\n-1 Stopping\n-1 Stopping\n"

-- the replies one by one
abbrev replies : List ℕ
replies =
    reply_text reply.Success
    ++ (reply_text (reply.Got (codes "value" ∷ []) (Known (pos 250000) 1 ∷ []))
    ++ (reply_text (reply.Fault UnknownCommand)
    ++ (reply_text (reply.Listed ((nine, codes "h/p/gauge") ∷ []))
    ++ (reply_text (reply.Flushed 3 1)
    ++ (reply_text reply.NoSuchValue
    ++ (reply_text reply.Stopping
    ++ (reply_text reply.Stopping
    ++ [])))))))

replies_are : replies ≡ text
replies_are = rw (decimal_digit 0 (omega arith), decimal_digit 1 (omega arith), decimal_digit 3 (omega arith), decimal_digit 9 (omega arith)) refl

transcript : IsTranscript says lines events text
transcript = subst (IsTranscript says lines events) replies_are
    (put refl (blank refl (got refl (refused refl (listed refl (flushed refl (got refl (put refl (flush_refused refl nothing)))))))))

-- a flush begins as its line asks for it
as_asked : (begun ended : ℕ) (request : FlushRequest) {text : List ℕ}
    → IsTranscript says (Flushing ∷ []) (entry.FlushOpen 0 request (Ok begun) ∷ entry.FlushClose 0 ended (ends.Counts 3 1) ∷ []) text
    → request ≡ all
as_asked begun ended request (blank is t) = absurd (cc)
as_asked begun ended request (refused is t) = absurd (cc)
as_asked begun ended request (flushed is t) = cc

-- .. and the counts are those of the one that was begun
same_flush : (begun ended : ℕ) {text : List ℕ}
    → IsTranscript says (Flushing ∷ []) (entry.FlushOpen 0 all (Ok begun) ∷ entry.FlushClose 0 ended (ends.Counts 3 1) ∷ []) text
    → begun ≡ ended
same_flush begun ended (blank is t) = absurd (cc)
same_flush begun ended (refused is t) = absurd (cc)
same_flush begun ended (flushed is t) = refl

not_another : {text : List ℕ}
    → IsTranscript says (Flushing ∷ []) (entry.FlushOpen 0 all (Ok 4) ∷ entry.FlushClose 0 5 (ends.Counts 3 1) ∷ []) text → ⊥
not_another t = let same : 4 ≡ 5 = same_flush 4 5 t in absurd (omega (arith, same))

-- ---- a run with two plug-ins, over a PUTVAL and a FLUSH

-- a daemon that knows gauges alone, and has no filter chains
abbrev K : Opening
K = record {
  types = single (codes "gauge") kinds.Gauge None ∷ [];
  globals = default_globals;
  rules = record { chains = []; pre = None; post = None };
}

-- one that is configured, called with lists and flushed
abbrev csv : Loaded
csv = record {
  plug = record { name = codes "csv"; kinds = record { 0 = 19 }; tells = record { mark = 7; calls = Some [] } };
  config = codes "a 1\n";
}

-- one that is called with lists alone
abbrev other : Loaded
other = record {
  plug = record { name = codes "b"; kinds = record { 0 = 1 }; tells = record { mark = 8; calls = Some [] } };
  config = [];
}

abbrev opened : History
opened =
    []
    ▸ entry.Register 0 (codes "csv") (Plug (record { 0 = 19 }) (codes "a 1\n") (record { mark = 7; calls = Some [] })) (Ok 0)
    ▸ entry.Register 0 (codes "b") (Plug (record { 0 = 1 }) [] (record { mark = 8; calls = Some [] })) (Ok 1)

opens : Opens (csv ∷ other ∷ []) [] [] opened
opens = plug_in (plug_in all_opened)

-- the first line: the plug-in is configured before the list is handled, and then each is called with it
abbrev accepted : History
accepted = opened ▸ entry.Accept 0 (gauge nine ∷ []) (5 ∷ []) nine (Ok (Kept ∷ []))

abbrev configured : History
configured = accepted ▸ entry.Take 0 0 (calls.Configure (codes "a 1\n")) ▸ entry.Done 0 0 answers.Done

abbrev handled : History
handled = configured ▸ entry.Handle 0 (nine + 1) (record { how = how.Stored; skipped = 0 })

abbrev written_first : History
written_first = handled ▸ entry.Take 0 0 (calls.Write (gauge nine)) ▸ entry.Done 0 0 answers.Done

abbrev written : History
written = written_first ▸ entry.Take 0 1 (calls.Write (gauge nine)) ▸ entry.Done 0 1 answers.Failed

works_configured : Works K IsAsked accepted (Answered answers.Done ∷ []) configured
works_configured = called {given = []} no_work refl refl

works_handled : Works K IsAsked accepted (Answered answers.Done ∷ Now (nine + 1) ∷ []) handled
works_handled =
    let one_waits : 0 < 1 = omega arith in then_handled {given = Answered answers.Done ∷ []} works_configured refl one_waits refl

works_written_first : Works K IsAsked accepted (Answered answers.Done ∷ Now (nine + 1) ∷ Answered answers.Done ∷ []) written_first
works_written_first = called {given = Answered answers.Done ∷ Now (nine + 1) ∷ []} works_handled refl refl

abbrev given_put : List Given
given_put = Answered answers.Done ∷ Now (nine + 1) ∷ Answered answers.Done ∷ Answered answers.Failed ∷ []

works_written : Works K IsAsked accepted given_put written
works_written = called {given = Answered answers.Done ∷ Now (nine + 1) ∷ Answered answers.Done ∷ []} works_written_first refl refl

serves_put : ServesLine K says Putting opened (Now nine ∷ Word 5 ∷ given_put) written
serves_put = is_put {at_zero = gauge 0 ∷ []} {lists = gauge nine ∷ []} {words = 5 ∷ []} {given = given_put} refl refl refl (record { works = works_written; idle = refl })

-- the second line: the one that is flushed is called, and the flush ends with its counts
abbrev begun : History
begun = written ▸ entry.FlushOpen 0 all (Ok 0)

abbrev answered : History
answered = begun ▸ entry.Take 0 0 (calls.Flush 0 None None) ▸ entry.Done 0 0 answers.Done

abbrev served : History
served = answered ▸ entry.FlushClose 0 0 (ends.Counts 1 0)

works_answered : Works K IsAsked begun (Answered answers.Done ∷ []) answered
works_answered = called {given = []} no_work refl refl

serves_flush : ServesLine K says Flushing written (Now (nine + 2) ∷ Answered answers.Done ∷ []) served
serves_flush = is_flushed {number = 0} {request = all} {given = Answered answers.Done ∷ []} refl refl (record { works = works_answered; idle = refl })

abbrev given : List Given
given = Now nine ∷ Word 5 ∷ given_put ++ Now (nine + 2) ∷ Answered answers.Done ∷ []

serves : ServesLines K says (Putting ∷ Flushing ∷ []) opened given served
serves =
    one_more {lines = Putting ∷ []} {given = Now nine ∷ Word 5 ∷ given_put}
    (one_more {lines = []} {given = []} none serves_put) serves_flush

-- no line asks for the counts before they are there
too_early : of_lines (begun ▸ entry.FlushClose 0 0 (ends.NotYet 1)) ≡ of_lines begun
too_early = refl

-- the end: both are closed and handed out, in order
abbrev stopped : History
stopped = served ▸ entry.Stop 0 why.ControlEnd

abbrev ended : History
ended =
    stopped ▸ entry.Close 0 (codes "csv") (Some 0) ▸ entry.Retire 0 0 (Ok tt)
    ▸ entry.Close 0 (codes "b") (Some 1) ▸ entry.Retire 0 1 (Ok tt)

is_run : IsLineRun K says (csv ∷ other ∷ []) (Putting ∷ Flushing ∷ []) given ended
is_run = record {
  opened = opened;
  served = served;
  stopped = stopped;
  given_first = [];
  given_lines = given;
  given_last = [];
  opens = opens;
  serves = serves;
  stops = record { works = no_work; idle = refl };
  hands_out = refl;
  given_is = refl;
}

-- what is written for its lines
run_text : reply_text reply.Success ++ (reply_text (reply.Flushed 1 0) ++ []) ≡ codes "0 Success\n0 Done: 1 successful, 0 errors\n"
run_text = rw (decimal_digit 0 (omega arith), decimal_digit 1 (omega arith)) refl

run_transcript : IsTranscript says (Putting ∷ Flushing ∷ []) (of_lines ended) (codes "0 Success\n0 Done: 1 successful, 0 errors\n")
run_transcript = subst (IsTranscript says (Putting ∷ Flushing ∷ []) (of_lines ended)) run_text (put refl (flushed refl nothing))

-- each came back with its calls and its answers
abbrev csv_told : PlugTells
csv_told = record {
  mark = 7;
  calls = Some (
      record { call = calls.Configure (codes "a 1\n"); answer = answers.Done }
      ∷ record { call = calls.Write (gauge nine); answer = answers.Done }
      ∷ record { call = calls.Flush 0 None None; answer = answers.Done }
      ∷ []
      );
}

abbrev other_told : PlugTells
other_told = record { mark = 8; calls = Some (record { call = calls.Write (gauge nine); answer = answers.Failed } ∷ []) }

come_back : returned ended (csv.plug ∷ other.plug ∷ []) ≡ record csv.plug { tells = csv_told } ∷ record other.plug { tells = other_told } ∷ []
come_back = refl
